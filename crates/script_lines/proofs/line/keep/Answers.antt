use Rattle.std.proofs.Common.{◌∙◌, arith}
use Rattle.script_lines.proofs.Fronts.{short-kept, full-kept}
use Rattle.script_lines.proofs.line.keep.Goals as goal

pub returns-in_ok-push : goal.returns-in_ok-push
returns-in_ok-push c = c.in_ok-push.ensures.items ∙ short-kept c.args.line.now.items c.args.byte (omega (arith, c.len.ensures, c.if-len-lt-KEPT_BYTES.true))

pub returns-else-len-lt-KEPT_BYTES : goal.returns-else-len-lt-KEPT_BYTES
returns-else-len-lt-KEPT_BYTES c =
    full-kept c.args.line.now.items c.args.byte (omega (arith, c.len.ensures, c.if-len-lt-KEPT_BYTES.false, c.requires))
