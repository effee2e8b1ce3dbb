use Rattle.std.proofs.Common.{arith}
use Rattle.resolve_statements.proofs.Arguments.{new_first}
use Rattle.resolve_statements.proofs.calls.new_form.Goals as goal

pub returns : goal.returns
returns c =
    new_first c.heap_form.result c.args.context.now c.args.args.now c.first-item.result (omega (arith, c.in-len1-up.len_at_least)) c.first-item.is
    (c.heap_form.ensures _ c.in_ok-place.ensures)
