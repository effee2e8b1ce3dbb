use Rattle.statement_parser.proofs.stmts.+statement.Given as goal

abbrev pub decreases-statement : goal.decreases-statement
decreases-statement l = l.depth
