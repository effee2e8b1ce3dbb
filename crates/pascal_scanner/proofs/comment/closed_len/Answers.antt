use Rattle.std.proofs.Common.{sym, ap, ◌∙◌, arith}
use Rattle.pascal_scanner.specs.Longest.{closing_len}
use Rattle.pascal_scanner.proofs.Fronts.{rest_whole}
use Rattle.pascal_scanner.proofs.Comments.{closed-at, closed-none}
use Rattle.pascal_scanner.proofs.comment.closed_len.Goals as goal

pub returns-in-Some-clause-value : goal.returns-in-Some-clause-value
returns-in-Some-clause-value c =
    let here = sym (c.in-Some.ensures.value ∙ ap closing_len (rest_whole c.loop-at.at c.args.text.now)) in
    sym (closed-at _ _ _ c.loop-at.invariant here)

pub returns-clause-value : goal.returns-clause-value
returns-clause-value c = sym (closed-none _ (λ k h. c.loop-at.invariant k (omega (arith, h))))
