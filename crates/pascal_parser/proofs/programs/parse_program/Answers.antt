use Rattle.pascal_parser.proofs.Readings.{program_formed}
use Rattle.pascal_parser.proofs.programs.parse_program.Goals as goal

pub name_program-requires : goal.name_program-requires
name_program-requires c = program_formed _ _ c.requires.lexemes c.read_program.ensures
