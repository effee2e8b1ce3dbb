use Rattle.program_tree.proofs.Searched.{path_as_rows}
use Rattle.program_tree.proofs.program.Program.path_of.Goals as goal

pub returns-clause-rows : goal.returns-clause-rows
returns-clause-rows c = path_as_rows c.args.self.now c.args.name.0 c.indexed_path.result c.indexed_path.ensures
