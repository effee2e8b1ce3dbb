use Rattle.resolve_expr.specs.Expressions as folds
use Rattle.resolve_statements.proofs.Arguments.{width_of}
use Rattle.resolve_statements.proofs.calls.write_effect.Goals as goal

pub returns-in-None : goal.returns-in-None
returns-in-None c = λ x is. rw (width_of c.args.context.now c.args.arg.now) (rw c.in-None.is (c.written_alone.ensures x is))

pub returns-in_ok-width-in-Some : goal.returns-in_ok-width-in-Some
returns-in_ok-width-in-Some c = λ x is.
    rw (width_of c.args.context.now c.args.arg.now) (rw c.in-Some.is (c.written_in_width.ensures x (folds.value_of c.args.context.now c.in-Some.expr) is c.in_ok-width-in-Some.ensures))
