use Rattle.resolve_expr.specs.declared.context.Context.{Context}
use Rattle.check_program.proofs.Joined.{body_added, body_ended}
use Rattle.check_program.proofs.routines.push_body.Goals as goal

pub returns-in-Err-clause-rows : goal.returns-in-Err-clause-rows
returns-in-Err-clause-rows c =
    body_ended (Unit {0}) Context c.in-Err.end c.args.out.now c.push_statement.new.out c.args.routine.now c.args.body.now c.args.context
    c.body_place-place.result (λ end x. c.body_place-place.ensures end x) c.in-Err.ensures.rows

pub returns-in-Ok-clause-rows : goal.returns-in-Ok-clause-rows
returns-in-Ok-clause-rows c =
    body_added c.push_statement.new.context c.in-Ok.field-0 c.args.out.now c.push_statement.new.out c.args.routine.now c.args.body.now c.args.context
    c.body_place-place.result (λ end x. c.body_place-place.ensures end x) c.in-Ok.ensures.rows
