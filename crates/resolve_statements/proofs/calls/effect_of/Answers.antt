use Rattle.resolve_statements.proofs.Arguments.{value_in}
use Rattle.resolve_statements.proofs.calls.effect_of.Goals as goal

pub returns-in_ok-place-in-Reading : goal.returns-in_ok-place-in-Reading
returns-in_ok-place-in-Reading c =
    rw c.in-Reading.is (rw (value_in c.args.context.now c.args.arg.now) (c.read_effect.ensures _ c.in_ok-place-in-Reading.ensures))

pub returns-in_ok-value-in-Writing : goal.returns-in_ok-value-in-Writing
returns-in_ok-value-in-Writing c =
    rw c.in-Writing.is (rw (value_in c.args.context.now c.args.arg.now) (c.write_effect.ensures _ c.in_ok-value-in-Writing.ensures))
