-- Arguments by their parts, over the tree.
use Rattle.std.proofs.Common.{IfOk, Result, ◌≡◌, ◌<◌, true, false, List, [], ◌∷◌, ◌++◌, ℕ, zero, suc, ◌+◌, length, map, drop, get_or, Option, Some, None, is_some, option_map, refl, ap, sym, ◌∙◌, arith}
use Rattle.pascal_tree.specs.declared.expr.Arg.{Arg, out-Arg, map-Arg}
use Rattle.pascal_tree.specs.declared.expr.Expr.{Expr}
use Rattle.pascal_tree.specs.declared.expr.SumExpr.{SumExpr}
use Rattle.pascal_tree.specs.declared.expr.Term.{Term}
use Rattle.pascal_tree.specs.declared.expr.AddPart.{AddPart}
use Rattle.pascal_tree.specs.declared.expr.MulPart.{MulPart}
use Rattle.pascal_tree.specs.declared.expr.RelPart.{RelPart}
use Rattle.pascal_tree.specs.declared.expr.SetMember.{SetMember}
use Rattle.pascal_tree.specs.declared.expr.Access.{Access}
use Rattle.pascal_tree.specs.declared.expr.AccessPart.{AccessPart}
use Rattle.pascal_tree.specs.declared.expr.Factor.{Factor}
use Rattle.pascal_tree.specs.declared.expr.AccessPart.TheFolds.{fold_out-Arg}
use Rattle.expression_rules.specs.declared.notes.Env.{Env}
use Rattle.expression_rules.specs.Values as judged
use Rattle.expression_rules.specs.ExpressionRules as rules
use Rattle.expression_rules.specs.Expressions as judgements
use Rattle.resolve_expr.specs.declared.context.Context.{Context}
use Rattle.resolve_expr.specs.Nodes.{Resolved, Accessed, Argument, place_or_lost}
use Rattle.resolve_expr.specs.Expressions as nodes
use Rattle.pascal_tree.specs.declared.stmt.Arm.{Arm, out-Arm}
use Rattle.dice_base.specs.declared.fault.NoMemory.{NoMemory}
use Rattle.resolve_statements.specs.declared.form.KeptForm.{KeptForm}
use Rattle.resolve_statements.specs.Forms.{kept_form, case_label, case_labels, heap_form, new_form, dispose_form}
use Rattle.resolve_statements.specs.Statements.{arm_constants}

judged_by : (env : Env) (v : Expr) (w : Option Expr) → is_some (rules.in_arg env (map-Arg AccessPart Factor Access AddPart Arg Expr MulPart RelPart SetMember SumExpr Term rules.Step judged.Value judged.Reached rules.Adding judged.Argument judged.Value rules.Multiplying rules.Relation rules.Member judged.Value judged.Value (judgements.part_of env) (judgements.factor_of env) (judgements.access_of env) (judgements.adding_of env) (judgements.argument_of env) (judgements.value_of env) (judgements.multiplying_of env) (judgements.relation_of env) (judgements.member_of env) (judgements.sum_of env) (judgements.term_of env) (record { value = v; width = w }))).width ≡ is_some w
judged_by env v None = refl
judged_by env v (Some w) = refl

pub width_is : (env : Env) (a : Arg) → is_some (judgements.argument_of env a).width ≡ is_some (out-Arg a).width
unfolding judgements.part_of judgements.factor_of judgements.access_of judgements.adding_of judgements.argument_of judgements.value_of judgements.multiplying_of judgements.relation_of judgements.member_of judgements.sum_of judgements.term_of
width_is env a =
    ap (λ x. is_some x.width) (fold_out-Arg rules.Step judged.Value judged.Reached rules.Adding judged.Argument judged.Value rules.Multiplying rules.Relation rules.Member judged.Value judged.Value (rules.in_part env) (rules.in_factor env) (rules.in_access env) (rules.in_adding env) (rules.in_arg env) (rules.in_expr env) (rules.in_multiplying env) (rules.in_relation env) (rules.in_member env) (rules.in_sum env) (rules.in_term env) a)
    ∙ judged_by env (out-Arg a).value (out-Arg a).width

argument_by : (c : Context) (v : Expr) (w : Option Expr) → nodes.in_arg c (map-Arg AccessPart Factor Access AddPart Arg Expr MulPart RelPart SetMember SumExpr Term nodes.Step Resolved Accessed nodes.Adding Argument Resolved nodes.Multiplying nodes.Relation nodes.Member Resolved Resolved (nodes.part_of c) (nodes.factor_of c) (nodes.access_of c) (nodes.adding_of c) (nodes.argument_of c) (nodes.value_of c) (nodes.multiplying_of c) (nodes.relation_of c) (nodes.member_of c) (nodes.sum_of c) (nodes.term_of c) (record { value = v; width = w })) ≡ record { value = nodes.value_of c v; width = option_map (nodes.value_of c) w }
argument_by c v None = refl
argument_by c v (Some w) = refl

argument_is : (c : Context) (a : Arg) → nodes.argument_of c a ≡ record { value = nodes.value_of c (out-Arg a).value; width = option_map (nodes.value_of c) (out-Arg a).width }
unfolding nodes.part_of nodes.factor_of nodes.access_of nodes.adding_of nodes.argument_of nodes.value_of nodes.multiplying_of nodes.relation_of nodes.member_of nodes.sum_of nodes.term_of
argument_is c a =
    fold_out-Arg nodes.Step Resolved Accessed nodes.Adding Argument Resolved nodes.Multiplying nodes.Relation nodes.Member Resolved Resolved (nodes.in_part c) (nodes.in_factor c) (nodes.in_access c) (nodes.in_adding c) (nodes.in_arg c) (nodes.in_expr c) (nodes.in_multiplying c) (nodes.in_relation c) (nodes.in_member c) (nodes.in_sum c) (nodes.in_term c) a
    ∙ argument_by c (out-Arg a).value (out-Arg a).width

pub value_in : (c : Context) (a : Arg) → (nodes.argument_of c a).value ≡ nodes.value_of c (out-Arg a).value
value_in c a = ap (λ z. z.value) (argument_is c a)

pub width_of : (c : Context) (a : Arg) → (nodes.argument_of c a).width ≡ option_map (nodes.value_of c) (out-Arg a).width
width_of c a = ap (λ x. x.width) (argument_is c a)

value_is : (c : Context) (a x : Arg) → x ≡ a → (nodes.argument_of c a).value ≡ nodes.value_of c (out-Arg x).value
value_is c a x is = value_in c a ∙ ap (λ y. nodes.value_of c (out-Arg y).value) (sym is)

-- the first argument of `new` and of `dispose`
pub new_first : (r : Result KeptForm NoMemory) (c : Context) (args : List Arg) (x : Arg) → 0 < length args → x ≡ get_or args 0 x
    → IfOk r (λ f. f ≡ kept_form (heap_form c true (place_or_lost (nodes.value_of c (out-Arg x).value).access)))
    → IfOk r (λ f. f ≡ kept_form (new_form c (map (nodes.argument_of c) args)))
new_first r c [] x some is put = absurd (omega (arith, some))
new_first r c (a ∷ args) x some is put = rw (value_is c a x is) put

pub dispose_first : (r : Result KeptForm NoMemory) (c : Context) (args : List Arg) (x : Arg) → 0 < length args → x ≡ get_or args 0 x
    → IfOk r (λ f. f ≡ kept_form (heap_form c false (nodes.value_of c (out-Arg x).value).node))
    → IfOk r (λ f. f ≡ kept_form (dispose_form c (map (nodes.argument_of c) args)))
dispose_first r c [] x some is put = absurd (omega (arith, some))
dispose_first r c (a ∷ args) x some is put = rw (value_is c a x is) put

-- the labels of one arm more
pub arms_turn : (env : Env) (n : ℕ) (arms : List Arm) (i : ℕ) (x : Arm) → i < length arms → x ≡ get_or arms i x
    → case_labels env n (map arm_constants (drop i arms)) ≡ map (case_label env n) (out-Arm x).constants ++ case_labels env (n + 1) (map arm_constants (drop (i + 1) arms))
arms_turn env n [] i x inside is = absurd (omega (arith, inside))
arms_turn env n (y ∷ ys) zero x inside is =
    ap (λ ks. map (case_label env n) ks ++ case_labels env (n + 1) (map arm_constants ys)) (ap (λ z. (out-Arm z).constants) (sym is))
arms_turn env n (y ∷ ys) (suc i) x inside is =
    let next : suc i + 1 ≡ suc (i + 1) = omega arith in
    arms_turn env n ys i x (omega (arith, inside)) is
    ∙ ap (λ k. map (case_label env n) (out-Arm x).constants ++ case_labels env (n + 1) (map arm_constants (drop k (y ∷ ys)))) (sym next)
