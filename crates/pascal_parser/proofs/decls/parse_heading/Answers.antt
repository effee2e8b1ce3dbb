use Rattle.pascal_parser.proofs.Readings.{heading_formed, heading_reading}
use Rattle.pascal_parser.proofs.decls.parse_heading.Goals as goal

pub returns-clause-reading : goal.returns-clause-reading
returns-clause-reading c = heading_reading _ _ c.read_heading.ensures

pub returns-clause-formed : goal.returns-clause-formed
returns-clause-formed c = heading_formed _ _ c.requires.lexemes (heading_reading _ _ c.read_heading.ensures)
