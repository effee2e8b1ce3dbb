-- The tokens of expressions (ISO 7185:1990, 6.7.1) and of variable accesses (6.5.1), in the order in which the tree has
-- them. The tree keeps the parentheses of the text, so none are added.
use Rattle.std.specs.Prelude.{List, [], ◌∷◌, ◌++◌, map}
use Rattle.dice_base.specs.declared.token.TokenKind.{TokenKind}
use Rattle.dice_base.specs.declared.token.TokenKind.TheVariants as token
use Rattle.pascal_tree.specs.declared.expr.Prefix.{Prefix}
use Rattle.pascal_tree.specs.declared.expr.Prefix.TheVariants as prefix
use Rattle.pascal_tree.specs.declared.expr.AddOp.{AddOp}
use Rattle.pascal_tree.specs.declared.expr.AddOp.TheVariants as add
use Rattle.pascal_tree.specs.declared.expr.MulOp.{MulOp}
use Rattle.pascal_tree.specs.declared.expr.MulOp.TheVariants as mul
use Rattle.pascal_tree.specs.declared.expr.RelOp.{RelOp}
use Rattle.pascal_tree.specs.declared.expr.RelOp.TheVariants as rel
use Rattle.pascal_tree.specs.declared.expr.Expr.{Expr, Expr-F, fold-Expr}
use Rattle.pascal_tree.specs.declared.expr.RelPart.{RelPart, RelPart-F, fold-RelPart}
use Rattle.pascal_tree.specs.declared.expr.SumExpr.{SumExpr, SumExpr-F, fold-SumExpr}
use Rattle.pascal_tree.specs.declared.expr.AddPart.{AddPart, AddPart-F, fold-AddPart}
use Rattle.pascal_tree.specs.declared.expr.Term.{Term, Term-F, fold-Term}
use Rattle.pascal_tree.specs.declared.expr.MulPart.{MulPart, MulPart-F, fold-MulPart}
use Rattle.pascal_tree.specs.declared.expr.Factor.{Factor, Factor-F, fold-Factor}
use Rattle.pascal_tree.specs.declared.expr.SetMember.{SetMember, SetMember-F, fold-SetMember}
use Rattle.pascal_tree.specs.declared.expr.Arg.{Arg, Arg-F, fold-Arg}
use Rattle.pascal_tree.specs.declared.expr.Access.{Access, Access-F, fold-Access}
use Rattle.pascal_tree.specs.declared.expr.AccessPart.{AccessPart, AccessPart-F, fold-AccessPart}
use Rattle.dice_base.specs.Tokens.{Toks}
use Rattle.pascal_tree.specs.Joined.{flat, join, optional_part, optional_part_after}
use Rattle.dice_base.specs.Symbols.{and_word, div_word, in_word, mod_word, nil_word, not_word, or_word, plus_sign, minus_sign, times_sign, equal_sign, not_equal_sign, less_sign, greater_sign, at_most_sign, at_least_sign, open_sign, close_sign, left_sign, right_sign, period_sign, comma_sign, colon_sign, range_sign, arrow_sign}

-- ---- signs and operators

-- the sign before a sum or a constant
abbrev pub prefix_tokens : Prefix → Toks
prefix_tokens prefix.Without = []
prefix_tokens prefix.Plus = plus_sign ∷ []
prefix_tokens prefix.Minus = minus_sign ∷ []

-- the operators of 6.7.2.1: multiplying, adding, and relational
abbrev pub mul_token : MulOp → TokenKind
mul_token mul.Times = times_sign
mul_token mul.Div = div_word
mul_token mul.Mod = mod_word
mul_token mul.And = and_word

abbrev pub add_token : AddOp → TokenKind
add_token add.Plus = plus_sign
add_token add.Minus = minus_sign
add_token add.Or = or_word

abbrev pub rel_token : RelOp → TokenKind
rel_token rel.Equal = equal_sign
rel_token rel.NotEqual = not_equal_sign
rel_token rel.Less = less_sign
rel_token rel.Greater = greater_sign
rel_token rel.LessEqual = at_most_sign
rel_token rel.GreaterEqual = at_least_sign
rel_token rel.Member = in_word

-- ---- lists

-- the items of a list with commas between
abbrev pub comma_list : List Toks → Toks
comma_list xs = join (comma_sign ∷ []) xs

-- the same in square brackets, also where there is none
abbrev pub in_brackets : List Toks → Toks
in_brackets xs = left_sign ∷ comma_list xs ++ right_sign ∷ []

-- the items in parentheses with a separator between; an empty list has no parentheses either
abbrev pub in_parens : TokenKind → List Toks → Toks
in_parens sep [] = []
in_parens sep (x ∷ xs) = open_sign ∷ join (sep ∷ []) (x ∷ xs) ++ close_sign ∷ []

-- ---- one layer of the tree, in which the tokens of each part stand in its place

abbrev pub in_expr : Expr-F Toks Toks Toks Toks Toks Toks Toks Toks Toks Toks Toks → Toks
in_expr e = e.first ++ optional_part e.rest

abbrev pub in_relation : RelPart-F Toks Toks Toks Toks Toks Toks Toks Toks Toks Toks Toks → Toks
in_relation r = rel_token r.op ∷ r.right

abbrev pub in_sum : SumExpr-F Toks Toks Toks Toks Toks Toks Toks Toks Toks Toks Toks → Toks
in_sum s = prefix_tokens s.prefix ++ s.first ++ flat s.rest

abbrev pub in_adding : AddPart-F Toks Toks Toks Toks Toks Toks Toks Toks Toks Toks Toks → Toks
in_adding a = add_token a.op ∷ a.right

abbrev pub in_term : Term-F Toks Toks Toks Toks Toks Toks Toks Toks Toks Toks Toks → Toks
in_term t = t.first ++ flat t.rest

abbrev pub in_multiplying : MulPart-F Toks Toks Toks Toks Toks Toks Toks Toks Toks Toks Toks → Toks
in_multiplying m = mul_token m.op ∷ m.right

abbrev pub in_factor : Factor-F Toks Toks Toks Toks Toks Toks Toks Toks Toks Toks Toks → Toks
in_factor (Factor-F.Number n) = token.Number n ∷ []
in_factor (Factor-F.Str x) = token.Str x ∷ []
in_factor Factor-F.Nil = nil_word ∷ []
in_factor (Factor-F.Access a) = a
in_factor (Factor-F.Call x args) = token.Ident x ∷ in_parens comma_sign args
in_factor (Factor-F.Members members) = in_brackets members
in_factor (Factor-F.Paren e) = open_sign ∷ e ++ close_sign ∷ []
in_factor (Factor-F.Not x) = not_word ∷ x

abbrev pub in_member : SetMember-F Toks Toks Toks Toks Toks Toks Toks Toks Toks Toks Toks → Toks
in_member m = m.first ++ optional_part_after range_sign m.last

abbrev pub in_arg : Arg-F Toks Toks Toks Toks Toks Toks Toks Toks Toks Toks Toks → Toks
in_arg a = a.value ++ optional_part_after colon_sign a.width

abbrev pub in_access : Access-F Toks Toks Toks Toks Toks Toks Toks Toks Toks Toks Toks → Toks
in_access a = token.Ident a.ident ∷ flat a.parts

abbrev pub in_part : AccessPart-F Toks Toks Toks Toks Toks Toks Toks Toks Toks Toks Toks → Toks
in_part (AccessPart-F.Index exprs) = in_brackets exprs
in_part (AccessPart-F.Field x) = period_sign ∷ token.Ident x ∷ []
in_part AccessPart-F.Dereference = arrow_sign ∷ []

-- ---- whole trees: the tokens of each part, from the innermost outward

unfoldable pub expr_tokens : Expr → Toks
expr_tokens =
    fold-Expr Toks Toks Toks Toks Toks Toks Toks Toks Toks Toks Toks
    in_part in_factor in_access in_adding in_arg in_expr in_multiplying in_relation in_member in_sum in_term

unfoldable pub relation_tokens : RelPart → Toks
relation_tokens =
    fold-RelPart Toks Toks Toks Toks Toks Toks Toks Toks Toks Toks Toks
    in_part in_factor in_access in_adding in_arg in_expr in_multiplying in_relation in_member in_sum in_term

unfoldable pub sum_tokens : SumExpr → Toks
sum_tokens =
    fold-SumExpr Toks Toks Toks Toks Toks Toks Toks Toks Toks Toks Toks
    in_part in_factor in_access in_adding in_arg in_expr in_multiplying in_relation in_member in_sum in_term

unfoldable pub adding_tokens : AddPart → Toks
adding_tokens =
    fold-AddPart Toks Toks Toks Toks Toks Toks Toks Toks Toks Toks Toks
    in_part in_factor in_access in_adding in_arg in_expr in_multiplying in_relation in_member in_sum in_term

unfoldable pub term_tokens : Term → Toks
term_tokens =
    fold-Term Toks Toks Toks Toks Toks Toks Toks Toks Toks Toks Toks
    in_part in_factor in_access in_adding in_arg in_expr in_multiplying in_relation in_member in_sum in_term

unfoldable pub multiplying_tokens : MulPart → Toks
multiplying_tokens =
    fold-MulPart Toks Toks Toks Toks Toks Toks Toks Toks Toks Toks Toks
    in_part in_factor in_access in_adding in_arg in_expr in_multiplying in_relation in_member in_sum in_term

unfoldable pub factor_tokens : Factor → Toks
factor_tokens =
    fold-Factor Toks Toks Toks Toks Toks Toks Toks Toks Toks Toks Toks
    in_part in_factor in_access in_adding in_arg in_expr in_multiplying in_relation in_member in_sum in_term

unfoldable pub member_tokens : SetMember → Toks
member_tokens =
    fold-SetMember Toks Toks Toks Toks Toks Toks Toks Toks Toks Toks Toks
    in_part in_factor in_access in_adding in_arg in_expr in_multiplying in_relation in_member in_sum in_term

unfoldable pub arg_tokens : Arg → Toks
arg_tokens =
    fold-Arg Toks Toks Toks Toks Toks Toks Toks Toks Toks Toks Toks
    in_part in_factor in_access in_adding in_arg in_expr in_multiplying in_relation in_member in_sum in_term

unfoldable pub access_tokens : Access → Toks
access_tokens =
    fold-Access Toks Toks Toks Toks Toks Toks Toks Toks Toks Toks Toks
    in_part in_factor in_access in_adding in_arg in_expr in_multiplying in_relation in_member in_sum in_term

unfoldable pub part_tokens : AccessPart → Toks
part_tokens =
    fold-AccessPart Toks Toks Toks Toks Toks Toks Toks Toks Toks Toks Toks
    in_part in_factor in_access in_adding in_arg in_expr in_multiplying in_relation in_member in_sum in_term

-- an argument list, which is nothing where there is no argument
unfoldable pub args_tokens : List Arg → Toks
args_tokens args = in_parens comma_sign (map arg_tokens args)

-- accesses with commas between
unfoldable pub accesses_tokens : List Access → Toks
accesses_tokens accesses = comma_list (map access_tokens accesses)
