-- What begins an expression and its parts, and what may follow them: tables of classes.
use Rattle.std.specs.Prelude.{Bool, [], ◌∷◌, ◌++◌}
use Rattle.dice_base.specs.Tokens.{Classes, keys, end_of_tokens}
use Rattle.pascal_tree.specs.Classes.{ident_class, number_class, string_class, do_class, downto_class, else_class, end_class, nil_class, not_class, of_class, then_class, to_class, until_class, plus_class, minus_class, open_class, close_class, left_class, right_class, becomes_class, comma_class, semicolon_class, colon_class, range_class}
use Rattle.pascal_tree.specs.Expressions.{mul_ops, add_ops, rel_ops}
use Rattle.expression_parser.specs.Readers.{part_first}

-- a table that does not depend on the flag
abbrev pub Any : Classes → Bool → Classes
Any table w = table

abbrev pub expr_ends : Classes
expr_ends =
    end_of_tokens ∷ then_class ∷ do_class ∷ of_class ∷ to_class ∷ downto_class ∷ else_class ∷ end_class ∷ until_class
    ∷ semicolon_class ∷ colon_class ∷ comma_class ∷ range_class ∷ close_class ∷ right_class ∷ []

abbrev pub sum_ends : Classes
sum_ends = keys rel_ops ++ expr_ends

abbrev pub term_ends : Classes
term_ends = keys add_ops ++ sum_ends

abbrev pub factor_ends : Classes
factor_ends = keys mul_ops ++ term_ends

-- behind an access, as a factor or before `:=`
abbrev pub access_ends : Classes
access_ends = becomes_class ∷ factor_ends

abbrev pub part_ends : Classes
part_ends = part_first ++ access_ends

abbrev pub factor_first : Classes
factor_first =
    number_class ∷ string_class ∷ nil_class ∷ ident_class ∷ left_class ∷ open_class ∷ not_class ∷ []

abbrev pub expr_first : Classes
expr_first = plus_class ∷ minus_class ∷ factor_first
