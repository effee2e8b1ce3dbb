use Rattle.check_program.proofs.OwnRows.{after_program, after_routine}
use Rattle.check_program.proofs.own.body_after.Goals as goal

pub returns-then-routine-eq0 : goal.returns-then-routine-eq0
returns-then-routine-eq0 c = λ end x. after_program end x c.args.routine.now c.if-routine-eq0.true

pub returns-else-routine-eq0 : goal.returns-else-routine-eq0
returns-else-routine-eq0 c = λ end x. after_routine end x c.args.routine.now c.if-routine-eq0.false
