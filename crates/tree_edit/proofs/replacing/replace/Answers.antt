use Rattle.tree_edit.proofs.EditedRows.{edited_paired, edited_rows}
use Rattle.tree_edit.proofs.replacing.replace.Goals as goal

pub returns-clause-rows : goal.returns-clause-rows
returns-clause-rows c = edited_rows _ _ _ _ c.in_ok-edited.ensures

pub returns-clause-paired : goal.returns-clause-paired
returns-clause-paired c = edited_paired _ _ _ _ c.in_ok-edited.ensures
