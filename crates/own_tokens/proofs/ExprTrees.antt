-- The tokens of an expression, by those of its parts.
use Rattle.std.specs.Prelude.{◌≡◌, ℕ, List, [], ◌∷◌, ◌++◌, Option, Some, None, map}
use Rattle.std.proofs.Common.{sym, ap, ◌∙◌, append_assoc}
use Rattle.std.specs.Option.{option_map}
use Rattle.dice_base.specs.declared.token.TokenKind.TheVariants as token
use Rattle.dice_base.specs.Tokens.{Toks}
use Rattle.dice_base.specs.Symbols.{nil_word, not_word, open_sign, close_sign, period_sign, colon_sign, range_sign, arrow_sign}
use Rattle.pascal_tree.specs.declared.expr.Prefix.{Prefix}
use Rattle.pascal_tree.specs.declared.expr.AddOp.{AddOp}
use Rattle.pascal_tree.specs.declared.expr.MulOp.{MulOp}
use Rattle.pascal_tree.specs.declared.expr.RelOp.{RelOp}
use Rattle.pascal_tree.specs.declared.expr.Expr.{Expr}
use Rattle.pascal_tree.specs.declared.expr.RelPart.{RelPart}
use Rattle.pascal_tree.specs.declared.expr.SumExpr.{SumExpr}
use Rattle.pascal_tree.specs.declared.expr.AddPart.{AddPart}
use Rattle.pascal_tree.specs.declared.expr.Term.{Term}
use Rattle.pascal_tree.specs.declared.expr.MulPart.{MulPart}
use Rattle.pascal_tree.specs.declared.expr.Factor.{Factor, Factor-F, roll-Factor, map-Factor}
use Rattle.pascal_tree.specs.declared.expr.Factor.TheVariants as f
use Rattle.pascal_tree.specs.declared.expr.Factor.TheVariants.{rolls-Number, rolls-Str, rolls-Nil, rolls-Access, rolls-Call, rolls-Members, rolls-Paren, rolls-Not}
use Rattle.pascal_tree.specs.declared.expr.SetMember.{SetMember}
use Rattle.pascal_tree.specs.declared.expr.Arg.{Arg}
use Rattle.pascal_tree.specs.declared.expr.Access.{Access}
use Rattle.pascal_tree.specs.declared.expr.AccessPart.{AccessPart, AccessPart-F, roll-AccessPart, map-AccessPart}
use Rattle.pascal_tree.specs.declared.expr.AccessPart.TheVariants as part
use Rattle.pascal_tree.specs.declared.expr.AccessPart.TheVariants.{rolls-Index, rolls-Field, rolls-Dereference}
use Rattle.pascal_tree.specs.declared.expr.AccessPart.TheFolds.{fold-roll-AccessPart, fold-roll-Factor, fold-roll-Access, fold-roll-AddPart, fold-roll-Arg, fold-roll-Expr, fold-roll-MulPart, fold-roll-RelPart, fold-roll-SetMember, fold-roll-SumExpr, fold-roll-Term}
use Rattle.pascal_tree.specs.Joined.{flat, optional_part, optional_part_after}
use Rattle.pascal_tree.specs.Expressions.{make_mul, make_add, make_rel, make_access, make_member, make_arg, make_term, make_sum, make_expr}
use Rattle.pascal_tree.specs.ExprTokens.{in_part, in_factor, in_access, in_adding, in_arg, in_expr, in_multiplying, in_relation, in_member, in_sum, in_term, prefix_tokens, mul_token, add_token, rel_token, in_brackets, part_tokens, factor_tokens, access_tokens, adding_tokens, arg_tokens, expr_tokens, multiplying_tokens, relation_tokens, member_tokens, sum_tokens, term_tokens, args_tokens}

-- ---- expressions, terms and their parts

pub expr-made : (x : SumExpr) (rest : Option RelPart)
    → expr_tokens (make_expr x rest) ≡ sum_tokens x ++ optional_part (option_map relation_tokens rest)
unfolding expr_tokens sum_tokens relation_tokens
expr-made x None =
    fold-roll-Expr Toks Toks Toks Toks Toks Toks Toks Toks Toks Toks Toks
    in_part in_factor in_access in_adding in_arg in_expr in_multiplying in_relation in_member in_sum in_term
    (record { first = x; rest = None })
expr-made x (Some r) =
    fold-roll-Expr Toks Toks Toks Toks Toks Toks Toks Toks Toks Toks Toks
    in_part in_factor in_access in_adding in_arg in_expr in_multiplying in_relation in_member in_sum in_term
    (record { first = x; rest = Some r })

pub rel-made : (o : RelOp) (x : SumExpr) → relation_tokens (make_rel o x) ≡ rel_token o ∷ sum_tokens x
unfolding relation_tokens sum_tokens
rel-made o x =
    fold-roll-RelPart Toks Toks Toks Toks Toks Toks Toks Toks Toks Toks Toks
    in_part in_factor in_access in_adding in_arg in_expr in_multiplying in_relation in_member in_sum in_term
    (record { op = o; right = x })

pub sum-made : (p : Prefix) (x : Term) (rest : List AddPart)
    → sum_tokens (make_sum p x rest) ≡ prefix_tokens p ++ (term_tokens x ++ flat (map adding_tokens rest))
unfolding sum_tokens term_tokens adding_tokens
sum-made p x rest =
    fold-roll-SumExpr Toks Toks Toks Toks Toks Toks Toks Toks Toks Toks Toks
    in_part in_factor in_access in_adding in_arg in_expr in_multiplying in_relation in_member in_sum in_term
    (record { prefix = p; first = x; rest = rest })
    ∙ append_assoc (prefix_tokens p) (term_tokens x) (flat (map adding_tokens rest))

pub add-made : (o : AddOp) (x : Term) → adding_tokens (make_add o x) ≡ add_token o ∷ term_tokens x
unfolding adding_tokens term_tokens
add-made o x =
    fold-roll-AddPart Toks Toks Toks Toks Toks Toks Toks Toks Toks Toks Toks
    in_part in_factor in_access in_adding in_arg in_expr in_multiplying in_relation in_member in_sum in_term
    (record { op = o; right = x })

pub term-made : (x : Factor) (rest : List MulPart)
    → term_tokens (make_term x rest) ≡ factor_tokens x ++ flat (map multiplying_tokens rest)
unfolding term_tokens factor_tokens multiplying_tokens
term-made x rest =
    fold-roll-Term Toks Toks Toks Toks Toks Toks Toks Toks Toks Toks Toks
    in_part in_factor in_access in_adding in_arg in_expr in_multiplying in_relation in_member in_sum in_term
    (record { first = x; rest = rest })

pub mul-made : (o : MulOp) (x : Factor) → multiplying_tokens (make_mul o x) ≡ mul_token o ∷ factor_tokens x
unfolding multiplying_tokens factor_tokens
mul-made o x =
    fold-roll-MulPart Toks Toks Toks Toks Toks Toks Toks Toks Toks Toks Toks
    in_part in_factor in_access in_adding in_arg in_expr in_multiplying in_relation in_member in_sum in_term
    (record { op = o; right = x })

-- ---- factors

factor-opened : (x : Factor-F AccessPart Factor Access AddPart Arg Expr MulPart RelPart SetMember SumExpr Term)
    → factor_tokens (roll-Factor x)
    ≡ in_factor (map-Factor AccessPart Factor Access AddPart Arg Expr MulPart RelPart SetMember SumExpr Term
    Toks Toks Toks Toks Toks Toks Toks Toks Toks Toks Toks
    part_tokens factor_tokens access_tokens adding_tokens arg_tokens expr_tokens multiplying_tokens relation_tokens
    member_tokens sum_tokens term_tokens x)
unfolding part_tokens factor_tokens access_tokens adding_tokens arg_tokens expr_tokens multiplying_tokens relation_tokens member_tokens sum_tokens term_tokens
factor-opened x =
    fold-roll-Factor Toks Toks Toks Toks Toks Toks Toks Toks Toks Toks Toks
    in_part in_factor in_access in_adding in_arg in_expr in_multiplying in_relation in_member in_sum in_term
    x

pub number-made : (n : ℕ) → factor_tokens (f.Number n) ≡ token.Number n ∷ []
number-made n = ap factor_tokens (sym (rolls-Number n)) ∙ factor-opened (Factor-F.Number n)

pub string-made : (x : List ℕ) → factor_tokens (f.Str x) ≡ token.Str x ∷ []
string-made x = ap factor_tokens (sym (rolls-Str x)) ∙ factor-opened (Factor-F.Str x)

pub nil-made : factor_tokens f.Nil ≡ nil_word ∷ []
nil-made = ap factor_tokens (sym rolls-Nil) ∙ factor-opened Factor-F.Nil

pub variable-made : (a : Access) → factor_tokens (f.Access a) ≡ access_tokens a
variable-made a = ap factor_tokens (sym (rolls-Access a)) ∙ factor-opened (Factor-F.Access a)

pub call-made : (x : List ℕ) (args : List Arg) → factor_tokens (f.Call x args) ≡ token.Ident x ∷ args_tokens args
unfolding args_tokens
call-made x args = ap factor_tokens (sym (rolls-Call x args)) ∙ factor-opened (Factor-F.Call x args)

pub members-made : (members : List SetMember)
    → factor_tokens (f.Members members) ≡ in_brackets (map member_tokens members)
members-made members = ap factor_tokens (sym (rolls-Members members)) ∙ factor-opened (Factor-F.Members members)

pub paren-made : (e : Expr) → factor_tokens (f.Paren e) ≡ open_sign ∷ (expr_tokens e ++ close_sign ∷ [])
paren-made e = ap factor_tokens (sym (rolls-Paren e)) ∙ factor-opened (Factor-F.Paren e)

pub not-made : (x : Factor) → factor_tokens (f.Not x) ≡ not_word ∷ factor_tokens x
not-made x = ap factor_tokens (sym (rolls-Not x)) ∙ factor-opened (Factor-F.Not x)

-- ---- members, arguments and accesses

pub member-made : (e : Expr) (end : Option Expr)
    → member_tokens (make_member e end) ≡ expr_tokens e ++ optional_part_after range_sign (option_map expr_tokens end)
unfolding member_tokens expr_tokens
member-made e None =
    fold-roll-SetMember Toks Toks Toks Toks Toks Toks Toks Toks Toks Toks Toks
    in_part in_factor in_access in_adding in_arg in_expr in_multiplying in_relation in_member in_sum in_term
    (record { first = e; last = None })
member-made e (Some x) =
    fold-roll-SetMember Toks Toks Toks Toks Toks Toks Toks Toks Toks Toks Toks
    in_part in_factor in_access in_adding in_arg in_expr in_multiplying in_relation in_member in_sum in_term
    (record { first = e; last = Some x })

pub arg-made : (e : Expr) (width : Option Expr)
    → arg_tokens (make_arg e width) ≡ expr_tokens e ++ optional_part_after colon_sign (option_map expr_tokens width)
unfolding arg_tokens expr_tokens
arg-made e None =
    fold-roll-Arg Toks Toks Toks Toks Toks Toks Toks Toks Toks Toks Toks
    in_part in_factor in_access in_adding in_arg in_expr in_multiplying in_relation in_member in_sum in_term
    (record { value = e; width = None })
arg-made e (Some x) =
    fold-roll-Arg Toks Toks Toks Toks Toks Toks Toks Toks Toks Toks Toks
    in_part in_factor in_access in_adding in_arg in_expr in_multiplying in_relation in_member in_sum in_term
    (record { value = e; width = Some x })

pub access-made : (x : List ℕ) (parts : List AccessPart)
    → access_tokens (make_access x parts) ≡ token.Ident x ∷ flat (map part_tokens parts)
unfolding access_tokens part_tokens
access-made x parts =
    fold-roll-Access Toks Toks Toks Toks Toks Toks Toks Toks Toks Toks Toks
    in_part in_factor in_access in_adding in_arg in_expr in_multiplying in_relation in_member in_sum in_term
    (record { ident = x; parts = parts })

part-opened : (x : AccessPart-F AccessPart Factor Access AddPart Arg Expr MulPart RelPart SetMember SumExpr Term)
    → part_tokens (roll-AccessPart x)
    ≡ in_part (map-AccessPart AccessPart Factor Access AddPart Arg Expr MulPart RelPart SetMember SumExpr Term
    Toks Toks Toks Toks Toks Toks Toks Toks Toks Toks Toks
    part_tokens factor_tokens access_tokens adding_tokens arg_tokens expr_tokens multiplying_tokens relation_tokens
    member_tokens sum_tokens term_tokens x)
unfolding part_tokens factor_tokens access_tokens adding_tokens arg_tokens expr_tokens multiplying_tokens relation_tokens member_tokens sum_tokens term_tokens
part-opened x =
    fold-roll-AccessPart Toks Toks Toks Toks Toks Toks Toks Toks Toks Toks Toks
    in_part in_factor in_access in_adding in_arg in_expr in_multiplying in_relation in_member in_sum in_term
    x

pub index-made : (found : List Expr) → part_tokens (part.Index found) ≡ in_brackets (map expr_tokens found)
index-made found = ap part_tokens (sym (rolls-Index found)) ∙ part-opened (AccessPart-F.Index found)

pub field-made : (x : List ℕ) → part_tokens (part.Field x) ≡ period_sign ∷ token.Ident x ∷ []
field-made x = ap part_tokens (sym (rolls-Field x)) ∙ part-opened (AccessPart-F.Field x)

pub deref-made : part_tokens part.Dereference ≡ arrow_sign ∷ []
deref-made = ap part_tokens (sym rolls-Dereference) ∙ part-opened AccessPart-F.Dereference
