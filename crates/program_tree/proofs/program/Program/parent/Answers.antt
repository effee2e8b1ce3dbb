use Rattle.program_tree.proofs.Parents.{parent_as_rows}
use Rattle.program_tree.proofs.program.Program.parent.Goals as goal

pub returns-clause-rows : goal.returns-clause-rows
returns-clause-rows c = parent_as_rows c.args.self.now c.args.name.0 c.outer_name.result c.outer_name.ensures
