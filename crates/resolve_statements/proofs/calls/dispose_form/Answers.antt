use Rattle.std.proofs.Common.{arith}
use Rattle.resolve_statements.proofs.Arguments.{dispose_first}
use Rattle.resolve_statements.proofs.calls.dispose_form.Goals as goal

pub returns : goal.returns
returns c =
    dispose_first c.heap_form.result c.args.context.now c.args.args.now c.first-item.result (omega (arith, c.in-len1-up.len_at_least)) c.first-item.is
    (c.heap_form.ensures _ c.in_ok-value.ensures)
