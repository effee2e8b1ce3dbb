use Rattle.pascal_parser.proofs.Readings.{decl_formed, decl_reading}
use Rattle.pascal_parser.proofs.decls.parse_declaration.Goals as goal

pub returns-clause-formed : goal.returns-clause-formed
returns-clause-formed c =
    decl_formed _ _ c.requires.lexemes (decl_reading _ _ _ c.read_decl.ensures c.name_decl.ensures)
