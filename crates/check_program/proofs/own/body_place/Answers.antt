use Rattle.check_program.proofs.OwnRows.{place_is}
use Rattle.check_program.proofs.own.body_place.Goals as goal

pub returns : goal.returns
returns c = λ end x. place_is end x c.args.routine.now c.body_after.result (c.body_after.ensures end x)
