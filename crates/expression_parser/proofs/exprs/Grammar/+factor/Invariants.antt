use Rattle.expression_parser.proofs.exprs.Grammar.+factor.Given as goal

abbrev pub decreases-factor : goal.decreases-factor
decreases-factor g l = l.depth
