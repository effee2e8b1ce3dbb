use Rattle.declaration_parser.proofs.types.+declared_type.Given as goal

abbrev pub decreases-declared_type : goal.decreases-declared_type
decreases-declared_type l = l.depth
