-- The type and the notes of a term and of a sum, whether or not they are an access alone.
use Rattle.std.proofs.Common.{◌≡◌, List, [], ◌∷◌, map, refl}
use Rattle.pascal_tree.specs.declared.expr.Prefix.{Prefix}
use Rattle.pascal_tree.specs.declared.expr.Prefix.TheVariants.{Without, Plus, Minus}
use Rattle.pascal_tree.specs.declared.expr.SumExpr.{SumExpr, out-SumExpr}
use Rattle.pascal_tree.specs.declared.expr.Term.{Term, out-Term}
use Rattle.pascal_tree.specs.declared.expr.AddPart.{AddPart, out-AddPart}
use Rattle.pascal_tree.specs.declared.expr.MulPart.{MulPart, out-MulPart}
use Rattle.pascal_tree.specs.declared.expr.AccessPart.TheFolds.{fold_out-SumExpr, fold_out-Term, fold_out-AddPart, fold_out-MulPart}
use Rattle.expression_rules.specs.declared.notes.Env.{Env}
use Rattle.expression_rules.specs.declared.notes.Judged.{Judged}
use Rattle.check_rules.specs.Typing.{Table}
use Rattle.expression_rules.specs.Values.{Value, Reached, Argument, signed_judgement, sum_type, product_type}
use Rattle.expression_rules.specs.ExpressionRules.{Step, Adding, Multiplying, Relation, Member, judgement_of_both, sum_with, product_with, sum_of_all, product_of_all, sum_value, term_value, in_part, in_factor, in_access, in_adding, in_arg, in_expr, in_multiplying, in_relation, in_member, in_sum, in_term}
use Rattle.expression_rules.specs.Expressions.{sum_of, term_of, factor_of, adding_of, multiplying_of}

term_judged : (tys : Table) (v : Value) (ms : List Multiplying) → (term_value tys v ms).judged ≡ product_of_all tys v.judged ms
term_judged tys v [] = refl
term_judged tys v (m ∷ ms) = refl

sum_judged : (tys : Table) (p : Prefix) (v : Value) (ms : List Adding) → (sum_value tys p v ms).judged ≡ sum_of_all tys (signed_judgement tys p v.judged) ms
sum_judged tys Without v [] = refl
sum_judged tys Without v (m ∷ ms) = refl
sum_judged tys Plus v ms = refl
sum_judged tys Minus v ms = refl

pub term_is : (env : Env) (t : Term) → (term_of env t).judged ≡ product_of_all env.table (factor_of env (out-Term t).first).judged (map (multiplying_of env) (out-Term t).rest)
unfolding term_of factor_of multiplying_of
term_is env t = rw (fold_out-Term Step Value Reached Adding Argument Value Multiplying Relation Member Value Value (in_part env) (in_factor env) (in_access env) (in_adding env) (in_arg env) (in_expr env) (in_multiplying env) (in_relation env) (in_member env) (in_sum env) (in_term env) t) (term_judged env.table (factor_of env (out-Term t).first) (map (multiplying_of env) (out-Term t).rest))

pub sum_is : (env : Env) (s : SumExpr) → (sum_of env s).judged ≡ sum_of_all env.table (signed_judgement env.table (out-SumExpr s).prefix (term_of env (out-SumExpr s).first).judged) (map (adding_of env) (out-SumExpr s).rest)
unfolding sum_of term_of adding_of
sum_is env s = rw (fold_out-SumExpr Step Value Reached Adding Argument Value Multiplying Relation Member Value Value (in_part env) (in_factor env) (in_access env) (in_adding env) (in_arg env) (in_expr env) (in_multiplying env) (in_relation env) (in_member env) (in_sum env) (in_term env) s) (sum_judged env.table (out-SumExpr s).prefix (term_of env (out-SumExpr s).first) (map (adding_of env) (out-SumExpr s).rest))

adding_is : (env : Env) (p : AddPart) → adding_of env p ≡ ((out-AddPart p).op, (term_of env (out-AddPart p).right).judged)
unfolding adding_of term_of
adding_is env p = fold_out-AddPart Step Value Reached Adding Argument Value Multiplying Relation Member Value Value (in_part env) (in_factor env) (in_access env) (in_adding env) (in_arg env) (in_expr env) (in_multiplying env) (in_relation env) (in_member env) (in_sum env) (in_term env) p

multiplying_is : (env : Env) (p : MulPart) → multiplying_of env p ≡ ((out-MulPart p).op, (factor_of env (out-MulPart p).right).judged)
unfolding multiplying_of factor_of
multiplying_is env p = fold_out-MulPart Step Value Reached Adding Argument Value Multiplying Relation Member Value Value (in_part env) (in_factor env) (in_access env) (in_adding env) (in_arg env) (in_expr env) (in_multiplying env) (in_relation env) (in_member env) (in_sum env) (in_term env) p

pub added_is : (env : Env) (tys : Table) (a : Judged) (p : AddPart) →
    sum_with tys a (adding_of env p) ≡ judgement_of_both a (term_of env (out-AddPart p).right).judged (sum_type tys (out-AddPart p).op a.typing (term_of env (out-AddPart p).right).judged.typing)
added_is env tys a p = rw (adding_is env p) refl

pub multiplied_is : (env : Env) (tys : Table) (a : Judged) (p : MulPart) →
    product_with tys a (multiplying_of env p) ≡ judgement_of_both a (factor_of env (out-MulPart p).right).judged (product_type tys (out-MulPart p).op a.typing (factor_of env (out-MulPart p).right).judged.typing)
multiplied_is env tys a p = rw (multiplying_is env p) refl
