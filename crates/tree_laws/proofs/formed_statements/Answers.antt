use Rattle.tree_laws.proofs.Formed.{statements}
use Rattle.tree_laws.proofs.formed_statements.Goals as goal

pub returns : goal.returns
returns c = statements c.args.stmt.now
