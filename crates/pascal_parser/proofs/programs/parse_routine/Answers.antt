use Rattle.pascal_parser.proofs.Readings.{routine_formed, routine_reading}
use Rattle.pascal_parser.proofs.programs.parse_routine.Goals as goal

pub returns-clause-formed : goal.returns-clause-formed
returns-clause-formed c =
    routine_formed _ _ c.requires.lexemes (routine_reading _ _ _ c.read_routine.ensures c.name_routine.ensures)
