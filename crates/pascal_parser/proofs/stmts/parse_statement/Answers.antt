use Rattle.pascal_parser.proofs.Readings.{stmt_formed, stmt_reading}
use Rattle.pascal_parser.proofs.stmts.parse_statement.Goals as goal

pub returns-clause-formed : goal.returns-clause-formed
returns-clause-formed c =
    stmt_formed _ _ c.requires.lexemes (stmt_reading _ _ _ c.read_statement.ensures c.name_statement.ensures)
