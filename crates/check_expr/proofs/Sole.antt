-- Which access an expression is, where it is one and nothing more.
use Rattle.std.proofs.Common.{◌≡◌, List, [], ◌∷◌, Option, Some, None, map, length, ◌<◌, refl, ap, sym, ◌∙◌, option_map, arith}
use Rattle.pascal_tree.specs.declared.expr.Prefix.{Prefix}
use Rattle.pascal_tree.specs.declared.expr.Prefix.TheVariants.{Without, Plus, Minus}
use Rattle.pascal_tree.specs.declared.expr.Expr.{Expr, out-Expr, map-Expr}
use Rattle.pascal_tree.specs.declared.expr.RelPart.{RelPart}
use Rattle.pascal_tree.specs.declared.expr.SumExpr.{SumExpr, out-SumExpr}
use Rattle.pascal_tree.specs.declared.expr.AddPart.{AddPart}
use Rattle.pascal_tree.specs.declared.expr.Term.{Term, out-Term}
use Rattle.pascal_tree.specs.declared.expr.MulPart.{MulPart}
use Rattle.pascal_tree.specs.declared.expr.Factor.{Factor, Factor-F, out-Factor, map-Factor}
use Rattle.pascal_tree.specs.declared.expr.Access.{Access}
use Rattle.pascal_tree.specs.declared.expr.AccessPart.{AccessPart}
use Rattle.pascal_tree.specs.declared.expr.SetMember.{SetMember}
use Rattle.pascal_tree.specs.declared.expr.AccessPart.TheFolds.{fold_out-Expr, fold_out-SumExpr, fold_out-Term, fold_out-Factor}
use Rattle.expression_rules.specs.declared.notes.Env.{Env}
use Rattle.expression_rules.specs.Values.{Reached, Value, Argument}
use Rattle.expression_rules.specs.ExpressionRules.{Step, Adding, Multiplying, Relation, Member, sum_value, term_value, in_part, in_factor, in_access, in_adding, in_arg, in_expr, in_multiplying, in_relation, in_member, in_sum, in_term}
use Rattle.expression_rules.specs.Expressions.{sum_of, term_of, factor_of, adding_of, multiplying_of, relation_of, value_of, access_of, part_of, argument_of, member_of}
use Rattle.pascal_tree.specs.declared.expr.Arg.{Arg, out-Arg}
use Rattle.check_rules.specs.declared.entity.StandardFile.{StandardFile}
use Rattle.expression_rules.specs.Accesses.{file_in, is_file, is_same_file}
use Rattle.check_expr.specs.Steps.{file_at}
use Rattle.check_expr.proofs.Ranks.{argument_is, reached_is}
use Rattle.check_expr.specs.Reaching.{access_of_factor, access_of_term, access_of_sum, access_of_relation}

factor_by : (env : Env) (x : Factor-F AccessPart Factor Access AddPart Arg Expr MulPart RelPart SetMember SumExpr Term) → (in_factor env (map-Factor AccessPart Factor Access AddPart Arg Expr MulPart RelPart SetMember SumExpr Term Step Value Reached Adding Argument Value Multiplying Relation Member Value Value (part_of env) (factor_of env) (access_of env) (adding_of env) (argument_of env) (value_of env) (multiplying_of env) (relation_of env) (member_of env) (sum_of env) (term_of env) x)).access ≡ option_map (access_of env) (access_of_factor x)
factor_by env (Factor-F.Number n) = refl
factor_by env (Factor-F.Str x) = refl
factor_by env Factor-F.Nil = refl
factor_by env (Factor-F.Access a) = refl
factor_by env (Factor-F.Call x args) = refl
factor_by env (Factor-F.Members ms) = refl
factor_by env (Factor-F.Paren e) = refl
factor_by env (Factor-F.Not f) = refl

factor_sole : (env : Env) (f : Factor) → (factor_of env f).access ≡ option_map (access_of env) (access_of_factor (out-Factor f))
unfolding part_of factor_of access_of adding_of argument_of value_of multiplying_of relation_of member_of sum_of term_of
factor_sole env f = rw (fold_out-Factor Step Value Reached Adding Argument Value Multiplying Relation Member Value Value (in_part env) (in_factor env) (in_access env) (in_adding env) (in_arg env) (in_expr env) (in_multiplying env) (in_relation env) (in_member env) (in_sum env) (in_term env) f) (factor_by env (out-Factor f))

term_by : (env : Env) (f : Factor) (ms : List MulPart) → (term_value env.table (factor_of env f) (map (multiplying_of env) ms)).access ≡ option_map (access_of env) (access_of_term f ms)
term_by env f [] = factor_sole env f
term_by env f (m ∷ ms) = refl

term_sole : (env : Env) (t : Term) → (term_of env t).access ≡ option_map (access_of env) (access_of_term (out-Term t).first (out-Term t).rest)
unfolding term_of factor_of multiplying_of
term_sole env t = rw (fold_out-Term Step Value Reached Adding Argument Value Multiplying Relation Member Value Value (in_part env) (in_factor env) (in_access env) (in_adding env) (in_arg env) (in_expr env) (in_multiplying env) (in_relation env) (in_member env) (in_sum env) (in_term env) t) (term_by env (out-Term t).first (out-Term t).rest)

sum_by : (env : Env) (p : Prefix) (t : Term) (ms : List AddPart) → (sum_value env.table p (term_of env t) (map (adding_of env) ms)).access ≡ option_map (access_of env) (access_of_sum p t ms)
sum_by env Without t [] = term_sole env t
sum_by env Without t (m ∷ ms) = refl
sum_by env Plus t ms = refl
sum_by env Minus t ms = refl

sum_sole : (env : Env) (s : SumExpr) → (sum_of env s).access ≡ option_map (access_of env) (access_of_sum (out-SumExpr s).prefix (out-SumExpr s).first (out-SumExpr s).rest)
unfolding sum_of term_of adding_of
sum_sole env s = rw (fold_out-SumExpr Step Value Reached Adding Argument Value Multiplying Relation Member Value Value (in_part env) (in_factor env) (in_access env) (in_adding env) (in_arg env) (in_expr env) (in_multiplying env) (in_relation env) (in_member env) (in_sum env) (in_term env) s) (sum_by env (out-SumExpr s).prefix (out-SumExpr s).first (out-SumExpr s).rest)

expr_by : (env : Env) (s : SumExpr) (r : Option RelPart) → (in_expr env (map-Expr AccessPart Factor Access AddPart Arg Expr MulPart RelPart SetMember SumExpr Term Step Value Reached Adding Argument Value Multiplying Relation Member Value Value (part_of env) (factor_of env) (access_of env) (adding_of env) (argument_of env) (value_of env) (multiplying_of env) (relation_of env) (member_of env) (sum_of env) (term_of env) (record { first = s; rest = r }))).access ≡ option_map (access_of env) (access_of_relation s r)
expr_by env s None = sum_sole env s
expr_by env s (Some r) = refl

pub expr_sole : (env : Env) (e : Expr) → (value_of env e).access ≡ option_map (access_of env) (access_of_relation (out-Expr e).first (out-Expr e).rest)
unfolding part_of factor_of access_of adding_of argument_of value_of multiplying_of relation_of member_of sum_of term_of
expr_sole env e = ap (λ v. v.access) (fold_out-Expr Step Value Reached Adding Argument Value Multiplying Relation Member Value Value (in_part env) (in_factor env) (in_access env) (in_adding env) (in_arg env) (in_expr env) (in_multiplying env) (in_relation env) (in_member env) (in_sum env) (in_term env) e) ∙ expr_by env (out-Expr e).first (out-Expr e).rest

none_of : {A : Type 0} (xs : List A) → length xs < 1 → xs ≡ []
none_of [] short = refl
none_of (x ∷ xs) short = absurd (omega (arith, short))

-- an expression of one factor is the access that the factor is
pub sole_factor : (env : Env) (e : Expr) → (out-Expr e).rest ≡ None → length (out-SumExpr (out-Expr e).first).rest < 1
    → length (out-Term (out-SumExpr (out-Expr e).first).first).rest < 1 → (out-SumExpr (out-Expr e).first).prefix ≡ Without
    → (value_of env e).access ≡ (factor_of env (out-Term (out-SumExpr (out-Expr e).first).first).first).access
sole_factor env e relation terms factors prefix =
    expr_sole env e
    ∙ (ap (λ r. option_map (access_of env) (access_of_relation (out-Expr e).first r)) relation
    ∙ (ap (λ ms. option_map (access_of env) (access_of_sum (out-SumExpr (out-Expr e).first).prefix (out-SumExpr (out-Expr e).first).first ms)) (none_of _ terms)
    ∙ (ap (λ p. option_map (access_of env) (access_of_sum p (out-SumExpr (out-Expr e).first).first [])) prefix
    ∙ (ap (λ ms. option_map (access_of env) (access_of_term (out-Term (out-SumExpr (out-Expr e).first).first).first ms)) (none_of _ factors)
    ∙ sym (factor_sole env (out-Term (out-SumExpr (out-Expr e).first).first).first)))))

-- the predeclared file that an argument is
file_by : (env : Env) (o : Option Access) → file_in (option_map (access_of env) o) ≡ file_at env o
file_by env None = refl
file_by env (Some a) = rw (reached_is env a) refl

pub file_of_argument : (env : Env) (f : StandardFile) (a : Arg) (o : Option Access) → (value_of env (out-Arg a).value).access ≡ option_map (access_of env) o → is_file f (argument_of env a) ≡ is_same_file f (file_at env o)
file_of_argument env f a o sole = rw (argument_is env a) (rw sole (rw (file_by env o) refl))
