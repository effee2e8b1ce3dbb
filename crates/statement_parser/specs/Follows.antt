-- What begins a statement, and what may follow one: tables of classes.
use Rattle.std.specs.Prelude.{Bool, true, false, [], ◌∷◌}
use Rattle.dice_base.specs.Tokens.{Classes, end_of_tokens}
use Rattle.pascal_tree.specs.Classes.{ident_class, number_class, begin_class, case_class, else_class, end_class, for_class, goto_class, if_class, repeat_class, until_class, while_class, with_class, semicolon_class}

-- behind a statement, by its flag: no `else` may follow an open one, since it would be its own
abbrev pub follows : Bool → Classes
follows true = end_of_tokens ∷ semicolon_class ∷ end_class ∷ until_class ∷ []
follows false = else_class ∷ end_of_tokens ∷ semicolon_class ∷ end_class ∷ until_class ∷ []

-- what does not come next where a statement was read
abbrev pub shuts : Bool → Classes
shuts true = else_class ∷ []
shuts false = []

-- an empty statement begins with what follows it
abbrev pub kind_first : Classes
kind_first =
    begin_class ∷ if_class ∷ case_class ∷ while_class ∷ repeat_class ∷ for_class ∷ with_class
    ∷ goto_class ∷ ident_class ∷ follows false

abbrev pub stmt_first : Classes
stmt_first = number_class ∷ kind_first
