use Rattle.tree_laws.proofs.Formed.{declarations}
use Rattle.tree_laws.proofs.formed_declarations.Goals as goal

pub returns : goal.returns
returns c = declarations c.args.decl.now
