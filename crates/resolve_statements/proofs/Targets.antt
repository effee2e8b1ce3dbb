-- Parts, one longer; targets; arguments.
use Rattle.std.proofs.Common.{◌≡◌, ◌<◌, if◌then◌else◌, Bool, true, false, List, [], ◌∷◌, length, map, refl, ap, ◌∙◌, arith}
use Rattle.pascal_tree.specs.declared.expr.Access.{Access, out-Access}
use Rattle.pascal_tree.specs.declared.expr.AccessPart.TheFolds.{fold_out-Access}
use Rattle.expression_rules.specs.Accesses.{is_nil, entity_at}
use Rattle.resolve_expr.specs.declared.context.Context.{Context}
use Rattle.resolve_expr.specs.Nodes.{Resolved, Accessed, Argument}
use Rattle.resolve_expr.specs.Expressions.{Step, Adding, Multiplying, Relation, Member, in_part, in_factor, in_access, in_adding, in_arg, in_expr, in_multiplying, in_relation, in_member, in_sum, in_term, access_of, part_of}
use Rattle.resolve_statements.specs.Forms.{target_of, target_node}

access_is : (c : Context) (a : Access) → access_of c a ≡ in_access c (record { ident = (out-Access a).ident; parts = map (part_of c) (out-Access a).parts })
unfolding access_of part_of
access_is c a = fold_out-Access Step Resolved Accessed Adding Argument Resolved Multiplying Relation Member Resolved Resolved (in_part c) (in_factor c) (in_access c) (in_adding c) (in_arg c) (in_expr c) (in_multiplying c) (in_relation c) (in_member c) (in_sum c) (in_term c) a

no_parts : {A B : Type 0} (f : A → B) (xs : List A) → length xs < 1 → is_nil (map f xs) ≡ true
no_parts f [] none = refl
no_parts f (x ∷ xs) none = absurd (omega (arith, none))

some_parts : {A B : Type 0} (f : A → B) (xs : List A) → 0 < length xs → is_nil (map f xs) ≡ false
some_parts f [] some = absurd (omega (arith, some))
some_parts f (x ∷ xs) some = refl

by_whole : (c : Context) (a : Accessed) (w : Bool) → a.whole ≡ w → target_node c a ≡ (if◌then◌else◌ w (target_of c a.place a.entity) a.place)
by_whole c a w is = rw is refl

-- an identifier alone, and an access with parts
pub whole_target : (c : Context) (a : Access) → length (out-Access a).parts < 1
    → target_node c (access_of c a) ≡ target_of c (access_of c a).place (entity_at c.env (out-Access a).ident)
whole_target c a none =
    by_whole c (access_of c a) true (ap (λ r. r.whole) (access_is c a) ∙ no_parts (part_of c) (out-Access a).parts none)
    ∙ ap (λ r. target_of c (access_of c a).place r.entity) (access_is c a)

pub parted_target : (c : Context) (a : Access) → 0 < length (out-Access a).parts → target_node c (access_of c a) ≡ (access_of c a).place
parted_target c a some =
    by_whole c (access_of c a) false (ap (λ r. r.whole) (access_is c a) ∙ some_parts (part_of c) (out-Access a).parts some)
