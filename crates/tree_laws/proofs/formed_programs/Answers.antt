use Rattle.tree_laws.proofs.Formed.{programs}
use Rattle.tree_laws.proofs.formed_programs.Goals as goal

pub returns : goal.returns
returns c = programs c.args.tree.now
