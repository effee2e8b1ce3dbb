-- What begins a block and its parts, and what may follow them: tables of classes.
use Rattle.std.specs.Prelude.{[], ◌∷◌, ◌++◌}
use Rattle.dice_base.specs.Tokens.{Classes, end_of_tokens}
use Rattle.pascal_tree.specs.Classes.{ident_class, begin_class, const_class, label_class, type_class, var_class, period_class, semicolon_class}
use Rattle.block_parser.specs.Readers.{routine_first}

-- behind a routine
abbrev pub routine_ends : Classes
routine_ends = end_of_tokens ∷ semicolon_class ∷ []

-- behind a block, which is also that of a program
abbrev pub block_ends : Classes
block_ends = period_class ∷ routine_ends

-- a block, from each of its parts on
abbrev pub routines_first : Classes
routines_first = routine_first ++ begin_class ∷ []

abbrev pub vars_first : Classes
vars_first = var_class ∷ routines_first

abbrev pub types_first : Classes
types_first = type_class ∷ vars_first

abbrev pub consts_first : Classes
consts_first = const_class ∷ types_first

abbrev pub block_first : Classes
block_first = label_class ∷ consts_first

-- behind a declaration with its semicolon
abbrev pub decl_follows : Classes
decl_follows = end_of_tokens ∷ ident_class ∷ consts_first
