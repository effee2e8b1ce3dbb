use Rattle.plain_pascal.proofs.Resolved.{runs_split}
use Rattle.plain_pascal.proofs.laws.runs_split.Goals as goal

pub returns : goal.returns
returns c = runs_split
