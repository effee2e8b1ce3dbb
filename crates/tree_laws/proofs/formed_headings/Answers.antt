use Rattle.tree_laws.proofs.Formed.{headings}
use Rattle.tree_laws.proofs.formed_headings.Goals as goal

pub returns : goal.returns
returns c = headings c.args.heading.now
