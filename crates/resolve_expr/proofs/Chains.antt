-- Chains of operators, of parts and of members, one longer.
use Rattle.std.proofs.Common.{IfOk, Result, ◌≡◌, ℕ, zero, suc, ◌+◌, ◌<◌, List, [], ◌∷◌, ◌++◌, length, map, take, drop, get_or, ◌≤◌, refl, ap, sym, ◌∙◌, arith}
use Rattle.std.proofs.lemmas.List.{append_assoc, append-nil}
use Rattle.std.proofs.Math.ListN.{drop_of_length-le}
use Rattle.dice_base.specs.declared.fault.NoMemory.{NoMemory}
use Rattle.resolve_expr.specs.declared.context.KeptCollected.{KeptCollected}
use Rattle.resolve_expr.specs.declared.context.KeptParts.{KeptParts}
use Rattle.check_rules.specs.Typing.{Table}
use Rattle.check_rules.specs.declared.entity.Parameter.{Parameter}
use Rattle.core_tree.specs.declared.op.CoreExpr.{CoreExpr}
use Rattle.resolve_expr.specs.Kept.{kept_parts, with_parts}
use Rattle.resolve_expr.specs.Nodes.{Node, Resolved, Collected, Argument, component_node, components_node, node_after, sum_with, sum_of_all, product_with, product_of_all, kept_collected, with_member, with_members, arguments_for}
use Rattle.resolve_expr.specs.Expressions.{Step, Adding, Multiplying, Member}
use Rattle.resolve_expr.proofs.Keeping.{kept_with_part}

pub components_snoc : (tys : Table) (p : Node) (vs : List Resolved) (v : Resolved) → components_node tys p (vs ++ v ∷ []) ≡ component_node tys (components_node tys p vs) v.node
components_snoc tys p [] v = refl
components_snoc tys p (x ∷ xs) v = components_snoc tys (component_node tys p x.node) xs v

pub steps_snoc : (p : Node) (fs : List Step) (f : Step) → node_after p (fs ++ f ∷ []) ≡ f (node_after p fs)
steps_snoc p [] f = refl
steps_snoc p (g ∷ gs) f = steps_snoc (g p) gs f

pub sums_snoc : (tys : Table) (a : Node) (ms : List Adding) (m : Adding) → sum_of_all tys a (ms ++ m ∷ []) ≡ sum_with tys (sum_of_all tys a ms) m
sums_snoc tys a [] m = refl
sums_snoc tys a (x ∷ xs) m = sums_snoc tys (sum_with tys a x) xs m

pub products_snoc : (tys : Table) (a : Node) (ms : List Multiplying) (m : Multiplying) → product_of_all tys a (ms ++ m ∷ []) ≡ product_with tys (product_of_all tys a ms) m
products_snoc tys a [] m = refl
products_snoc tys a (x ∷ xs) m = products_snoc tys (product_with tys a x) xs m

pub members_snoc : (tys : Table) (s : Collected) (ms : List Member) (m : Member) → with_members tys s (ms ++ m ∷ []) ≡ with_member tys (with_members tys s ms) m
members_snoc tys s [] m = refl
members_snoc tys s (x ∷ xs) m = members_snoc tys (with_member tys s x) xs m

-- parts that are put behind none, one after another
all_behind : (es fs : List CoreExpr) → with_parts (kept_parts es) fs ≡ kept_parts (es ++ fs)
all_behind es [] = ap kept_parts (sym (append-nil es))
all_behind es (f ∷ fs) = rw (kept_with_part es f) (all_behind (es ++ f ∷ []) fs ∙ ap kept_parts (append_assoc es (f ∷ []) fs))

pub all_parts : (fs : List CoreExpr) → with_parts (kept_parts []) fs ≡ kept_parts fs
all_parts fs = all_behind [] fs

-- ---- one turn of a loop over a list

map_next : {A B : Type 0} (f : A → B) (xs : List A) (i : ℕ) (x : A) → i < length xs → x ≡ get_or xs i x → map f (take (i + 1) xs) ≡ map f (take i xs) ++ f x ∷ []
map_next f [] i x inside is = absurd (omega (arith, inside))
map_next f (y ∷ ys) zero x inside is = ap (λ z. f z ∷ []) (sym is)
map_next f (y ∷ ys) (suc i) x inside is =
    let next : suc i + 1 ≡ suc (i + 1) = omega arith in
    ap (λ k. map f (take k (y ∷ ys))) next ∙ ap (λ zs. f y ∷ zs) (map_next f ys i x (omega (arith, inside)) is)

pub components_turn : {A : Type 0} (tys : Table) (p : Node) (f : A → Resolved) (xs : List A) (i : ℕ) (x : A) → i < length xs → x ≡ get_or xs i x
    → components_node tys p (map f (take (i + 1) xs)) ≡ component_node tys (components_node tys p (map f (take i xs))) (f x).node
components_turn tys p f xs i x inside is = ap (components_node tys p) (map_next f xs i x inside is) ∙ components_snoc tys p (map f (take i xs)) (f x)

pub steps_turn : {A : Type 0} (p : Node) (f : A → Step) (xs : List A) (i : ℕ) (x : A) → i < length xs → x ≡ get_or xs i x
    → node_after p (map f (take (i + 1) xs)) ≡ f x (node_after p (map f (take i xs)))
steps_turn p f xs i x inside is = ap (node_after p) (map_next f xs i x inside is) ∙ steps_snoc p (map f (take i xs)) (f x)

pub sums_turn : {A : Type 0} (tys : Table) (a : Node) (f : A → Adding) (xs : List A) (i : ℕ) (x : A) → i < length xs → x ≡ get_or xs i x
    → sum_of_all tys a (map f (take (i + 1) xs)) ≡ sum_with tys (sum_of_all tys a (map f (take i xs))) (f x)
sums_turn tys a f xs i x inside is = ap (sum_of_all tys a) (map_next f xs i x inside is) ∙ sums_snoc tys a (map f (take i xs)) (f x)

pub products_turn : {A : Type 0} (tys : Table) (a : Node) (f : A → Multiplying) (xs : List A) (i : ℕ) (x : A) → i < length xs → x ≡ get_or xs i x
    → product_of_all tys a (map f (take (i + 1) xs)) ≡ product_with tys (product_of_all tys a (map f (take i xs))) (f x)
products_turn tys a f xs i x inside is = ap (product_of_all tys a) (map_next f xs i x inside is) ∙ products_snoc tys a (map f (take i xs)) (f x)

pub members_turn : {A : Type 0} (tys : Table) (s : Collected) (f : A → Member) (xs : List A) (i : ℕ) (x : A) → i < length xs → x ≡ get_or xs i x
    → with_members tys s (map f (take (i + 1) xs)) ≡ with_member tys (with_members tys s (map f (take i xs))) (f x)
members_turn tys s f xs i x inside is = ap (with_members tys s) (map_next f xs i x inside is) ∙ members_snoc tys s (map f (take i xs)) (f x)

pub no_arguments : (tys : Table) (ps : List Parameter) → arguments_for tys ps [] ≡ []
no_arguments tys [] = refl
no_arguments tys (p ∷ ps) = refl

-- the loop over arguments comes to the end of one of the two lists
pub arguments_end : {A : Type 0} (tys : Table) (f : A → Argument) (ps left : List Parameter) (args : List A) (i : ℕ) (parts : KeptParts) → length args ≤ i
    → with_parts (kept_parts []) (arguments_for tys ps (map f args)) ≡ with_parts parts (arguments_for tys left (map f (drop i args)))
    → parts ≡ kept_parts (arguments_for tys ps (map f args))
arguments_end tys f ps left args i parts done same =
    sym (ap (λ es. with_parts parts (arguments_for tys left (map f es))) (drop_of_length-le args done) ∙ ap (with_parts parts) (no_arguments tys left))
    ∙ (sym same ∙ all_parts (arguments_for tys ps (map f args)))

no_parameters : (parts : KeptParts) (tys : Table) (left : List Parameter) (args : List Argument) → length left < 1 → parts ≡ with_parts parts (arguments_for tys left args)
no_parameters parts tys [] args short = refl
no_parameters parts tys (p ∷ ps) args short = absurd (omega (arith, short))

pub parameters_end : {A : Type 0} (tys : Table) (f : A → Argument) (ps left : List Parameter) (args : List A) (i : ℕ) (parts : KeptParts) → length left < 1
    → with_parts (kept_parts []) (arguments_for tys ps (map f args)) ≡ with_parts parts (arguments_for tys left (map f (drop i args)))
    → parts ≡ kept_parts (arguments_for tys ps (map f args))
parameters_end tys f ps left args i parts done same =
    no_parameters parts tys left (map f (drop i args)) done ∙ (sym same ∙ all_parts (arguments_for tys ps (map f args)))

-- what was put into a set of members, over the same table and for the same member
pub member_over : (r : Result KeptCollected NoMemory) (tys uys : Table) (x : Collected) (m n : Member) → IfOk r (λ k. k ≡ kept_collected (with_member tys x m))
    → tys ≡ uys → n ≡ m → IfOk r (λ k. k ≡ kept_collected (with_member uys x n))
member_over r tys uys x m n put table member = rw member (rw (sym table) put)
