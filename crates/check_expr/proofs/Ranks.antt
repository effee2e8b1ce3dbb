-- An argument, a member and an access by their parts.
use Rattle.std.proofs.Common.{◌≡◌, List, [], ◌∷◌, Option, Some, None, map, refl, ap, sym, ◌∙◌, option_map}
use Rattle.pascal_tree.specs.declared.expr.Expr.{Expr}
use Rattle.pascal_tree.specs.declared.expr.RelPart.{RelPart}
use Rattle.pascal_tree.specs.declared.expr.SumExpr.{SumExpr}
use Rattle.pascal_tree.specs.declared.expr.AddPart.{AddPart}
use Rattle.pascal_tree.specs.declared.expr.Term.{Term}
use Rattle.pascal_tree.specs.declared.expr.MulPart.{MulPart}
use Rattle.pascal_tree.specs.declared.expr.Factor.{Factor}
use Rattle.pascal_tree.specs.declared.expr.Access.{Access, out-Access}
use Rattle.pascal_tree.specs.declared.expr.AccessPart.{AccessPart}
use Rattle.pascal_tree.specs.declared.expr.Arg.{Arg, out-Arg, map-Arg}
use Rattle.pascal_tree.specs.declared.expr.SetMember.{SetMember, out-SetMember, map-SetMember}
use Rattle.pascal_tree.specs.declared.expr.AccessPart.TheFolds.{fold_out-Arg, fold_out-SetMember, fold_out-Access}
use Rattle.expression_rules.specs.declared.notes.Env.{Env}
use Rattle.expression_rules.specs.declared.notes.Place.{Place}
use Rattle.expression_rules.specs.Values.{Reached, Value, Argument}
use Rattle.expression_rules.specs.Accesses.{entity_at, first_place, place_after, is_nil}
use Rattle.expression_rules.specs.ExpressionRules.{Step, Adding, Multiplying, Relation, Member, last_judgement, in_part, in_factor, in_access, in_adding, in_arg, in_expr, in_multiplying, in_relation, in_member, in_sum, in_term}
use Rattle.expression_rules.specs.Expressions.{sum_of, term_of, factor_of, adding_of, multiplying_of, relation_of, value_of, access_of, part_of, argument_of, member_of}
use Rattle.check_expr.specs.Reaching.{reached}

argument_by : (env : Env) (a : Expr) (b : Option Expr) → in_arg env (map-Arg AccessPart Factor Access AddPart Arg Expr MulPart RelPart SetMember SumExpr Term Step Value Reached Adding Argument Value Multiplying Relation Member Value Value (part_of env) (factor_of env) (access_of env) (adding_of env) (argument_of env) (value_of env) (multiplying_of env) (relation_of env) (member_of env) (sum_of env) (term_of env) (record { value = a; width = b })) ≡ record { value = value_of env a; width = option_map (value_of env) b }
argument_by env a None = refl
argument_by env a (Some b) = refl

pub argument_is : (env : Env) (a : Arg) → argument_of env a ≡ record { value = value_of env (out-Arg a).value; width = option_map (value_of env) (out-Arg a).width }
unfolding part_of factor_of access_of adding_of argument_of value_of multiplying_of relation_of member_of sum_of term_of
argument_is env a = fold_out-Arg Step Value Reached Adding Argument Value Multiplying Relation Member Value Value (in_part env) (in_factor env) (in_access env) (in_adding env) (in_arg env) (in_expr env) (in_multiplying env) (in_relation env) (in_member env) (in_sum env) (in_term env) a ∙ argument_by env (out-Arg a).value (out-Arg a).width

member_by : (env : Env) (a : Expr) (b : Option Expr) → in_member env (map-SetMember AccessPart Factor Access AddPart Arg Expr MulPart RelPart SetMember SumExpr Term Step Value Reached Adding Argument Value Multiplying Relation Member Value Value (part_of env) (factor_of env) (access_of env) (adding_of env) (argument_of env) (value_of env) (multiplying_of env) (relation_of env) (member_of env) (sum_of env) (term_of env) (record { first = a; last = b })) ≡ ((value_of env a).judged, last_judgement (option_map (value_of env) b))
member_by env a None = refl
member_by env a (Some b) = refl

pub member_is : (env : Env) (m : SetMember) → member_of env m ≡ ((value_of env (out-SetMember m).first).judged, last_judgement (option_map (value_of env) (out-SetMember m).last))
unfolding part_of factor_of access_of adding_of argument_of value_of multiplying_of relation_of member_of sum_of term_of
member_is env m = fold_out-SetMember Step Value Reached Adding Argument Value Multiplying Relation Member Value Value (in_part env) (in_factor env) (in_access env) (in_adding env) (in_arg env) (in_expr env) (in_multiplying env) (in_relation env) (in_member env) (in_sum env) (in_term env) m ∙ member_by env (out-SetMember m).first (out-SetMember m).last

pub nil_map : {A B : Type 0} (f : A → B) (xs : List A) → is_nil (map f xs) ≡ is_nil xs
nil_map f [] = refl
nil_map f (x ∷ xs) = refl

access_is : (env : Env) (a : Access) → access_of env a ≡ record { ident = (out-Access a).ident; entity = entity_at env (out-Access a).ident; place = place_after (first_place (entity_at env (out-Access a).ident)) (map (part_of env) (out-Access a).parts); whole = is_nil (map (part_of env) (out-Access a).parts) }
unfolding access_of part_of
access_is env a = fold_out-Access Step Value Reached Adding Argument Value Multiplying Relation Member Value Value (in_part env) (in_factor env) (in_access env) (in_adding env) (in_arg env) (in_expr env) (in_multiplying env) (in_relation env) (in_member env) (in_sum env) (in_term env) a

-- an access by the place behind its parts
pub reached_by : (env : Env) (a : Access) (p : Place) → p ≡ place_after (first_place (entity_at env (out-Access a).ident)) (map (part_of env) (out-Access a).parts) → access_of env a ≡ reached env a p
reached_by env a p is =
    access_is env a
    ∙ (ap (λ w. record { ident = (out-Access a).ident; entity = entity_at env (out-Access a).ident; place = place_after (first_place (entity_at env (out-Access a).ident)) (map (part_of env) (out-Access a).parts); whole = w }) (nil_map (part_of env) (out-Access a).parts)
    ∙ ap (reached env a) (sym is))

pub reached_is : (env : Env) (a : Access) → access_of env a ≡ reached env a (access_of env a).place
reached_is env a = reached_by env a (access_of env a).place (ap (λ r. r.place) (access_is env a))
