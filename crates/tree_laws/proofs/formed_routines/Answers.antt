use Rattle.tree_laws.proofs.Formed.{routines}
use Rattle.tree_laws.proofs.formed_routines.Goals as goal

pub returns : goal.returns
returns c = routines c.args.routine.now
