-- Which identifiers, numbers and strings a text can have (ISO 7185:1990, 6.1), and which expressions it can spell,
-- levels apart: those of such words in which no list is empty where the grammar (6.5, 6.7) wants one item or more.
use Rattle.std.specs.Prelude.{ℕ, Bool, true, false, ◌&&◌, ◌||◌, nat_le, List, [], ◌∷◌, Option, Some, None, is_none}
use Rattle.std.specs.List.{list_all}
use Rattle.dice_base.specs.Lexemes.{digit_byte, string_byte, largest_number, word_symbol}
use Rattle.pascal_tree.specs.declared.expr.AccessPart.{AccessPart, AccessPart-F, fold-AccessPart}
use Rattle.pascal_tree.specs.declared.expr.Factor.{Factor, Factor-F, fold-Factor}
use Rattle.pascal_tree.specs.declared.expr.Access.{Access, Access-F, fold-Access}
use Rattle.pascal_tree.specs.declared.expr.AddPart.{AddPart, AddPart-F, fold-AddPart}
use Rattle.pascal_tree.specs.declared.expr.Arg.{Arg, Arg-F, fold-Arg}
use Rattle.pascal_tree.specs.declared.expr.Expr.{Expr, Expr-F, fold-Expr}
use Rattle.pascal_tree.specs.declared.expr.MulPart.{MulPart, MulPart-F, fold-MulPart}
use Rattle.pascal_tree.specs.declared.expr.RelPart.{RelPart, RelPart-F, fold-RelPart}
use Rattle.pascal_tree.specs.declared.expr.SetMember.{SetMember, SetMember-F, fold-SetMember}
use Rattle.pascal_tree.specs.declared.expr.SumExpr.{SumExpr, SumExpr-F, fold-SumExpr}
use Rattle.pascal_tree.specs.declared.expr.Term.{Term, Term-F, fold-Term}

-- ---- words

-- a letter in lower case
abbrev pub is_small_letter : ℕ → Bool
is_small_letter c = nat_le 97 c && nat_le c 122

-- an identifier (6.1.3) as a token has it: a letter and then letters and digits, the letters in lower case, and no word
-- symbol
abbrev pub is_identifier : List ℕ → Bool
is_identifier [] = false
is_identifier (c ∷ cs) =
    is_small_letter c && list_all (λ b. is_small_letter b || digit_byte b) cs && is_none (word_symbol (c ∷ cs))

-- a number or a label (6.1.5, 6.1.6)
abbrev pub is_number : ℕ → Bool
is_number n = nat_le n largest_number

-- the characters of a string (6.1.7), one or more
abbrev pub is_string : List ℕ → Bool
is_string [] = false
is_string (c ∷ cs) = list_all string_byte (c ∷ cs)

-- ---- lists and parts that may be left out; in the place of each item stands whether it is formed

abbrev pub all_formed : List Bool → Bool
all_formed [] = true
all_formed (b ∷ bs) = b && all_formed bs

-- one item or more
abbrev pub some_formed : List Bool → Bool
some_formed [] = false
some_formed (b ∷ bs) = b && all_formed bs

abbrev pub formed_if_any : Option Bool → Bool
formed_if_any None = true
formed_if_any (Some b) = b

-- ---- expressions, one layer; in the place of each part stands whether it is formed

-- a step to a component (6.5.3, 6.5.4)
abbrev pub formed_access_part : AccessPart-F Bool Bool Bool Bool Bool Bool Bool Bool Bool Bool Bool → Bool
formed_access_part (AccessPart-F.Index exprs) = some_formed exprs
formed_access_part (AccessPart-F.Field x) = is_identifier x
formed_access_part AccessPart-F.Dereference = true

-- a factor (6.7.1): without an argument it is an access and no call
abbrev pub formed_factor : Factor-F Bool Bool Bool Bool Bool Bool Bool Bool Bool Bool Bool → Bool
formed_factor (Factor-F.Number n) = is_number n
formed_factor (Factor-F.Str x) = is_string x
formed_factor Factor-F.Nil = true
formed_factor (Factor-F.Access access) = access
formed_factor (Factor-F.Call x args) = is_identifier x && some_formed args
formed_factor (Factor-F.Members members) = all_formed members
formed_factor (Factor-F.Paren expr) = expr
formed_factor (Factor-F.Not operand) = operand

abbrev pub formed_access : Access-F Bool Bool Bool Bool Bool Bool Bool Bool Bool Bool Bool → Bool
formed_access a = is_identifier a.ident && all_formed a.parts

abbrev pub formed_add_part : AddPart-F Bool Bool Bool Bool Bool Bool Bool Bool Bool Bool Bool → Bool
formed_add_part p = p.right

abbrev pub formed_arg : Arg-F Bool Bool Bool Bool Bool Bool Bool Bool Bool Bool Bool → Bool
formed_arg a = a.value && formed_if_any a.width

abbrev pub formed_expr : Expr-F Bool Bool Bool Bool Bool Bool Bool Bool Bool Bool Bool → Bool
formed_expr e = e.first && formed_if_any e.rest

abbrev pub formed_mul_part : MulPart-F Bool Bool Bool Bool Bool Bool Bool Bool Bool Bool Bool → Bool
formed_mul_part p = p.right

abbrev pub formed_rel_part : RelPart-F Bool Bool Bool Bool Bool Bool Bool Bool Bool Bool Bool → Bool
formed_rel_part p = p.right

abbrev pub formed_member : SetMember-F Bool Bool Bool Bool Bool Bool Bool Bool Bool Bool Bool → Bool
formed_member m = m.first && formed_if_any m.last

abbrev pub formed_sum : SumExpr-F Bool Bool Bool Bool Bool Bool Bool Bool Bool Bool Bool → Bool
formed_sum s = s.first && all_formed s.rest

abbrev pub formed_term : Term-F Bool Bool Bool Bool Bool Bool Bool Bool Bool Bool Bool → Bool
formed_term t = t.first && all_formed t.rest

-- ---- whole expressions: is each formed

unfoldable pub access_part_is_formed : AccessPart → Bool
access_part_is_formed =
    fold-AccessPart Bool Bool Bool Bool Bool Bool Bool Bool Bool Bool Bool
    formed_access_part formed_factor formed_access formed_add_part formed_arg formed_expr
    formed_mul_part formed_rel_part formed_member formed_sum formed_term

unfoldable pub factor_is_formed : Factor → Bool
factor_is_formed =
    fold-Factor Bool Bool Bool Bool Bool Bool Bool Bool Bool Bool Bool
    formed_access_part formed_factor formed_access formed_add_part formed_arg formed_expr
    formed_mul_part formed_rel_part formed_member formed_sum formed_term

unfoldable pub access_is_formed : Access → Bool
access_is_formed =
    fold-Access Bool Bool Bool Bool Bool Bool Bool Bool Bool Bool Bool
    formed_access_part formed_factor formed_access formed_add_part formed_arg formed_expr
    formed_mul_part formed_rel_part formed_member formed_sum formed_term

unfoldable pub add_part_is_formed : AddPart → Bool
add_part_is_formed =
    fold-AddPart Bool Bool Bool Bool Bool Bool Bool Bool Bool Bool Bool
    formed_access_part formed_factor formed_access formed_add_part formed_arg formed_expr
    formed_mul_part formed_rel_part formed_member formed_sum formed_term

unfoldable pub arg_is_formed : Arg → Bool
arg_is_formed =
    fold-Arg Bool Bool Bool Bool Bool Bool Bool Bool Bool Bool Bool
    formed_access_part formed_factor formed_access formed_add_part formed_arg formed_expr
    formed_mul_part formed_rel_part formed_member formed_sum formed_term

unfoldable pub expr_is_formed : Expr → Bool
expr_is_formed =
    fold-Expr Bool Bool Bool Bool Bool Bool Bool Bool Bool Bool Bool
    formed_access_part formed_factor formed_access formed_add_part formed_arg formed_expr
    formed_mul_part formed_rel_part formed_member formed_sum formed_term

unfoldable pub mul_part_is_formed : MulPart → Bool
mul_part_is_formed =
    fold-MulPart Bool Bool Bool Bool Bool Bool Bool Bool Bool Bool Bool
    formed_access_part formed_factor formed_access formed_add_part formed_arg formed_expr
    formed_mul_part formed_rel_part formed_member formed_sum formed_term

unfoldable pub rel_part_is_formed : RelPart → Bool
rel_part_is_formed =
    fold-RelPart Bool Bool Bool Bool Bool Bool Bool Bool Bool Bool Bool
    formed_access_part formed_factor formed_access formed_add_part formed_arg formed_expr
    formed_mul_part formed_rel_part formed_member formed_sum formed_term

unfoldable pub member_is_formed : SetMember → Bool
member_is_formed =
    fold-SetMember Bool Bool Bool Bool Bool Bool Bool Bool Bool Bool Bool
    formed_access_part formed_factor formed_access formed_add_part formed_arg formed_expr
    formed_mul_part formed_rel_part formed_member formed_sum formed_term

unfoldable pub sum_is_formed : SumExpr → Bool
sum_is_formed =
    fold-SumExpr Bool Bool Bool Bool Bool Bool Bool Bool Bool Bool Bool
    formed_access_part formed_factor formed_access formed_add_part formed_arg formed_expr
    formed_mul_part formed_rel_part formed_member formed_sum formed_term

unfoldable pub term_is_formed : Term → Bool
term_is_formed =
    fold-Term Bool Bool Bool Bool Bool Bool Bool Bool Bool Bool Bool
    formed_access_part formed_factor formed_access formed_add_part formed_arg formed_expr
    formed_mul_part formed_rel_part formed_member formed_sum formed_term
