use Rattle.program_tree.proofs.Searched.{found_as_rows}
use Rattle.program_tree.proofs.program.Program.find.Goals as goal

pub returns-clause-rows : goal.returns-clause-rows
returns-clause-rows c = found_as_rows _ _ _ c.item_named.ensures.value
