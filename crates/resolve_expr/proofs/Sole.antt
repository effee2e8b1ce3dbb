-- Which access an expression is, where it is one and nothing more.
use Rattle.std.proofs.Common.{◌≡◌, List, [], ◌∷◌, Option, Some, None, map, length, ◌<◌, refl, ap, sym, ◌∙◌, option_map, arith}
use Rattle.pascal_tree.specs.declared.expr.Prefix.{Prefix}
use Rattle.pascal_tree.specs.declared.expr.Prefix.TheVariants.{Without, Plus, Minus}
use Rattle.pascal_tree.specs.declared.expr.Expr.{Expr, out-Expr, map-Expr}
use Rattle.pascal_tree.specs.declared.expr.RelPart.{RelPart}
use Rattle.pascal_tree.specs.declared.expr.SumExpr.{SumExpr, out-SumExpr}
use Rattle.pascal_tree.specs.declared.expr.AddPart.{AddPart}
use Rattle.pascal_tree.specs.declared.expr.Term.{Term, out-Term}
use Rattle.pascal_tree.specs.declared.expr.MulPart.{MulPart}
use Rattle.pascal_tree.specs.declared.expr.Factor.{Factor, Factor-F, out-Factor, map-Factor}
use Rattle.pascal_tree.specs.declared.expr.Access.{Access}
use Rattle.pascal_tree.specs.declared.expr.AccessPart.{AccessPart}
use Rattle.pascal_tree.specs.declared.expr.Arg.{Arg}
use Rattle.pascal_tree.specs.declared.expr.SetMember.{SetMember}
use Rattle.pascal_tree.specs.declared.expr.AccessPart.TheFolds.{fold_out-Expr, fold_out-SumExpr, fold_out-Term, fold_out-Factor}
use Rattle.resolve_expr.specs.declared.context.Context.{Context}
use Rattle.resolve_expr.specs.Nodes.{Node, Resolved, Accessed, Argument}
use Rattle.resolve_expr.specs.Expressions.{Step, Adding, Multiplying, Relation, Member, sum_value, term_value, in_part, in_factor, in_access, in_adding, in_arg, in_expr, in_multiplying, in_relation, in_member, in_sum, in_term, sum_of, term_of, factor_of, adding_of, multiplying_of, relation_of, value_of, access_of, part_of, argument_of, member_of}

abbrev pub factor_access : Factor-F AccessPart Factor Access AddPart Arg Expr MulPart RelPart SetMember SumExpr Term → Option Access
factor_access (Factor-F.Access a) = Some a
factor_access _ = None

abbrev pub term_access : Factor → List MulPart → Option Access
term_access f [] = factor_access (out-Factor f)
term_access f (m ∷ ms) = None

abbrev pub sum_access : Prefix → Term → List AddPart → Option Access
sum_access Without t [] = term_access (out-Term t).first (out-Term t).rest
sum_access _ t ms = None

abbrev pub expr_access : SumExpr → Option RelPart → Option Access
expr_access s None = sum_access (out-SumExpr s).prefix (out-SumExpr s).first (out-SumExpr s).rest
expr_access s (Some r) = None

abbrev place_at : Context → Access → Node
place_at c a = (access_of c a).place

factor_by : (c : Context) (x : Factor-F AccessPart Factor Access AddPart Arg Expr MulPart RelPart SetMember SumExpr Term) → (in_factor c (map-Factor AccessPart Factor Access AddPart Arg Expr MulPart RelPart SetMember SumExpr Term Step Resolved Accessed Adding Argument Resolved Multiplying Relation Member Resolved Resolved (part_of c) (factor_of c) (access_of c) (adding_of c) (argument_of c) (value_of c) (multiplying_of c) (relation_of c) (member_of c) (sum_of c) (term_of c) x)).access ≡ option_map (place_at c) (factor_access x)
factor_by c (Factor-F.Number n) = refl
factor_by c (Factor-F.Str x) = refl
factor_by c Factor-F.Nil = refl
factor_by c (Factor-F.Access a) = refl
factor_by c (Factor-F.Call x args) = refl
factor_by c (Factor-F.Members ms) = refl
factor_by c (Factor-F.Paren e) = refl
factor_by c (Factor-F.Not f) = refl

factor_sole : (c : Context) (f : Factor) → (factor_of c f).access ≡ option_map (place_at c) (factor_access (out-Factor f))
unfolding part_of factor_of access_of adding_of argument_of value_of multiplying_of relation_of member_of sum_of term_of
factor_sole c f = rw (fold_out-Factor Step Resolved Accessed Adding Argument Resolved Multiplying Relation Member Resolved Resolved (in_part c) (in_factor c) (in_access c) (in_adding c) (in_arg c) (in_expr c) (in_multiplying c) (in_relation c) (in_member c) (in_sum c) (in_term c) f) (factor_by c (out-Factor f))

term_by : (c : Context) (f : Factor) (ms : List MulPart) → (term_value c.env.table (factor_of c f) (map (multiplying_of c) ms)).access ≡ option_map (place_at c) (term_access f ms)
term_by c f [] = factor_sole c f
term_by c f (m ∷ ms) = refl

term_sole : (c : Context) (t : Term) → (term_of c t).access ≡ option_map (place_at c) (term_access (out-Term t).first (out-Term t).rest)
unfolding term_of factor_of multiplying_of
term_sole c t = rw (fold_out-Term Step Resolved Accessed Adding Argument Resolved Multiplying Relation Member Resolved Resolved (in_part c) (in_factor c) (in_access c) (in_adding c) (in_arg c) (in_expr c) (in_multiplying c) (in_relation c) (in_member c) (in_sum c) (in_term c) t) (term_by c (out-Term t).first (out-Term t).rest)

sum_by : (c : Context) (p : Prefix) (t : Term) (ms : List AddPart) → (sum_value c.env.table p (term_of c t) (map (adding_of c) ms)).access ≡ option_map (place_at c) (sum_access p t ms)
sum_by c Without t [] = term_sole c t
sum_by c Without t (m ∷ ms) = refl
sum_by c Plus t ms = refl
sum_by c Minus t ms = refl

sum_sole : (c : Context) (s : SumExpr) → (sum_of c s).access ≡ option_map (place_at c) (sum_access (out-SumExpr s).prefix (out-SumExpr s).first (out-SumExpr s).rest)
unfolding sum_of term_of adding_of
sum_sole c s = rw (fold_out-SumExpr Step Resolved Accessed Adding Argument Resolved Multiplying Relation Member Resolved Resolved (in_part c) (in_factor c) (in_access c) (in_adding c) (in_arg c) (in_expr c) (in_multiplying c) (in_relation c) (in_member c) (in_sum c) (in_term c) s) (sum_by c (out-SumExpr s).prefix (out-SumExpr s).first (out-SumExpr s).rest)

expr_by : (c : Context) (s : SumExpr) (r : Option RelPart) → (in_expr c (map-Expr AccessPart Factor Access AddPart Arg Expr MulPart RelPart SetMember SumExpr Term Step Resolved Accessed Adding Argument Resolved Multiplying Relation Member Resolved Resolved (part_of c) (factor_of c) (access_of c) (adding_of c) (argument_of c) (value_of c) (multiplying_of c) (relation_of c) (member_of c) (sum_of c) (term_of c) (record { first = s; rest = r }))).access ≡ option_map (place_at c) (expr_access s r)
expr_by c s None = sum_sole c s
expr_by c s (Some r) = refl

pub expr_sole : (c : Context) (e : Expr) → (value_of c e).access ≡ option_map (λ a. (access_of c a).place) (expr_access (out-Expr e).first (out-Expr e).rest)
unfolding part_of factor_of access_of adding_of argument_of value_of multiplying_of relation_of member_of sum_of term_of
expr_sole c e = ap (λ v. v.access) (fold_out-Expr Step Resolved Accessed Adding Argument Resolved Multiplying Relation Member Resolved Resolved (in_part c) (in_factor c) (in_access c) (in_adding c) (in_arg c) (in_expr c) (in_multiplying c) (in_relation c) (in_member c) (in_sum c) (in_term c) e) ∙ expr_by c (out-Expr e).first (out-Expr e).rest

none_of : {A : Type 0} (xs : List A) → length xs < 1 → xs ≡ []
none_of [] short = refl
none_of (x ∷ xs) short = absurd (omega (arith, short))

-- an expression of one factor is the access that the factor is
pub sole_factor : (c : Context) (e : Expr) → (out-Expr e).rest ≡ None → length (out-SumExpr (out-Expr e).first).rest < 1
    → length (out-Term (out-SumExpr (out-Expr e).first).first).rest < 1 → (out-SumExpr (out-Expr e).first).prefix ≡ Without
    → (value_of c e).access ≡ (factor_of c (out-Term (out-SumExpr (out-Expr e).first).first).first).access
sole_factor c e relation terms factors prefix =
    expr_sole c e
    ∙ (ap (λ r. option_map (place_at c) (expr_access (out-Expr e).first r)) relation
    ∙ (ap (λ ms. option_map (place_at c) (sum_access (out-SumExpr (out-Expr e).first).prefix (out-SumExpr (out-Expr e).first).first ms)) (none_of _ terms)
    ∙ (ap (λ p. option_map (place_at c) (sum_access p (out-SumExpr (out-Expr e).first).first [])) prefix
    ∙ (ap (λ ms. option_map (place_at c) (term_access (out-Term (out-SumExpr (out-Expr e).first).first).first ms)) (none_of _ factors)
    ∙ sym (factor_sole c (out-Term (out-SumExpr (out-Expr e).first).first).first)))))
