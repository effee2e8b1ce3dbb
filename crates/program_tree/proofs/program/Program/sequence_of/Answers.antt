use Rattle.program_tree.proofs.Parents.{sequence_as_rows}
use Rattle.program_tree.proofs.program.Program.sequence_of.Goals as goal

pub returns-clause-rows : goal.returns-clause-rows
returns-clause-rows c = sequence_as_rows c.args.self.now c.args.name.0 c.sequence_with.result c.sequence_with.ensures
