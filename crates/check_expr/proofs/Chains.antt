-- Notes of arguments one after another, and members, one longer.
use Rattle.std.proofs.Common.{◌≡◌, ℕ, zero, suc, ◌+◌, ◌-◌, ◌<◌, ◌≤◌, min, Bool, true, false, ◌||◌, nat_eq, List, [], ◌∷◌, ◌++◌, length, map, take, drop, get_or, refl, ap, sym, ◌∙◌, arith}
use Rattle.std.proofs.lemmas.List.{append_assoc, append-nil}
use Rattle.std.proofs.Math.ListN.{drop_of_length-le}
use Rattle.std.proofs.Math.Nat.{min_comm}
use Rattle.std.proofs.Math.Dec.{eqb-zero-suc, eqb-suc-zero, eqb-suc-suc}
use Rattle.check_rules.specs.declared.kinds.TheConstants.{CLEAN, WRONG_ARGUMENTS}
use Rattle.check_rules.specs.declared.entity.Parameter.{Parameter}
use Rattle.check_rules.specs.declared.entity.Standard.{Standard}
use Rattle.check_rules.specs.Typing.{Table}
use Rattle.check_rules.specs.Faults.{kind_unless}
use Rattle.check_rules.specs.declared.typing.Typing.{Typing}
use Rattle.expression_rules.specs.declared.notes.Notes.{Notes}
use Rattle.expression_rules.specs.declared.notes.Judged.{Judged}
use Rattle.expression_rules.specs.Values.{VariableName, Argument, Members, judgement, no_notes, notes_of_both, notes_with, members_from}
use Rattle.expression_rules.specs.Accesses.{is_nil, all_notes, argument_notes, arguments_notes, argument_notes_for, one_argument_value, result_of}
use Rattle.expression_rules.specs.ExpressionRules.{Member}
use Rattle.check_expr.specs.Steps.{whole_notes, plain_notes, notes_for, notes_from, matched, behind, kind_of_one, with_member}

-- ---- notes together

same_notes : (j k : ℕ) (xs ys : List VariableName) → j ≡ k → xs ≡ ys → ◌≡◌ {A = Notes} (record { kind = j; passed = xs }) (record { kind = k; passed = ys })
same_notes j k xs ys kinds lists = rw kinds (rw lists refl)

min_assoc : (a b c : ℕ) → min (min a b) c ≡ min a (min b c)
min_assoc a b c = omega arith

pub both_assoc : (a b c : Notes) → notes_of_both (notes_of_both a b) c ≡ notes_of_both a (notes_of_both b c)
both_assoc a b c = same_notes _ _ _ _ (min_assoc a.kind b.kind c.kind) (append_assoc a.passed b.passed c.passed)

pub both_none : (a : Notes) → notes_of_both a no_notes ≡ notes_of_both no_notes a
both_none a = same_notes _ _ _ _ (min_comm a.kind CLEAN) (append-nil a.passed)

-- ---- one more

all_snoc : (args : List Argument) (a : Argument) → all_notes (args ++ a ∷ []) ≡ notes_of_both (all_notes args) (whole_notes a)
all_snoc [] a = both_none (whole_notes a)
all_snoc (b ∷ args) a = ap (notes_of_both (whole_notes b)) (all_snoc args a) ∙ sym (both_assoc (whole_notes b) (all_notes args) (whole_notes a))

plain_snoc : (args : List Argument) (a : Argument) → argument_notes (args ++ a ∷ []) ≡ notes_of_both (argument_notes args) (plain_notes a)
plain_snoc [] a = both_none (plain_notes a)
plain_snoc (b ∷ args) a = ap (notes_of_both (plain_notes b)) (plain_snoc args a) ∙ sym (both_assoc (plain_notes b) (argument_notes args) (plain_notes a))

members_snoc : (tys : Table) (s : Members) (ms : List Member) (m : Member) → members_from tys s (ms ++ m ∷ []) ≡ with_member tys (members_from tys s ms) m
members_snoc tys s [] (a, b) = refl
members_snoc tys s ((a, b) ∷ ms) m = members_snoc tys (with_member tys s (a, b)) ms m

-- ---- one turn of a loop over a list

map_next : {A B : Type 0} (f : A → B) (xs : List A) (i : ℕ) (x : A) → i < length xs → x ≡ get_or xs i x → map f (take (i + 1) xs) ≡ map f (take i xs) ++ f x ∷ []
map_next f [] i x inside is = absurd (omega (arith, inside))
map_next f (y ∷ ys) zero x inside is = ap (λ z. f z ∷ []) (sym is)
map_next f (y ∷ ys) (suc i) x inside is =
    let next : suc i + 1 ≡ suc (i + 1) = omega arith in
    ap (λ k. map f (take k (y ∷ ys))) next ∙ ap (λ zs. f y ∷ zs) (map_next f ys i x (omega (arith, inside)) is)

pub all_turn : {A : Type 0} (f : A → Argument) (xs : List A) (i : ℕ) (x : A) → i < length xs → x ≡ get_or xs i x
    → all_notes (map f (take (i + 1) xs)) ≡ notes_of_both (all_notes (map f (take i xs))) (whole_notes (f x))
all_turn f xs i x inside is = ap all_notes (map_next f xs i x inside is) ∙ all_snoc (map f (take i xs)) (f x)

plain_turn : {A : Type 0} (f : A → Argument) (xs : List A) (i : ℕ) (x : A) → i < length xs → x ≡ get_or xs i x
    → argument_notes (map f (take (i + 1) xs)) ≡ notes_of_both (argument_notes (map f (take i xs))) (plain_notes (f x))
plain_turn f xs i x inside is = ap argument_notes (map_next f xs i x inside is) ∙ plain_snoc (map f (take i xs)) (f x)

pub members_turn : {A : Type 0} (tys : Table) (s : Members) (f : A → Member) (xs : List A) (i : ℕ) (x : A) → i < length xs → x ≡ get_or xs i x
    → members_from tys s (map f (take (i + 1) xs)) ≡ with_member tys (members_from tys s (map f (take i xs))) (f x)
members_turn tys s f xs i x inside is = ap (members_from tys s) (map_next f xs i x inside is) ∙ members_snoc tys s (map f (take i xs)) (f x)

pub plain_next : {A : Type 0} (f : A → Argument) (xs : List A) (i : ℕ) (x : A) (n more m : Notes) → i < length xs → x ≡ get_or xs i x
    → n ≡ argument_notes (map f (take i xs)) → more ≡ plain_notes (f x) → m ≡ notes_of_both n more → m ≡ argument_notes (map f (take (i + 1) xs))
plain_next f xs i x n more m inside is before one both =
    both ∙ (ap (λ k. notes_of_both k more) before ∙ (ap (notes_of_both (argument_notes (map f (take i xs)))) one ∙ sym (plain_turn f xs i x inside is)))

take_all : {A : Type 0} (i : ℕ) (xs : List A) → length xs ≤ i → take i xs ≡ xs
take_all zero [] done = refl
take_all (suc i) [] done = refl
take_all zero (x ∷ xs) done = absurd (omega (arith, done))
take_all (suc i) (x ∷ xs) done = ap (λ ys. x ∷ ys) (take_all i xs (omega (arith, done)))

all_behind : {A : Type 0} (xs : List A) → take (length xs - 1) (drop 1 xs) ≡ drop 1 xs
all_behind [] = refl
all_behind (x ∷ xs) = let e : suc (length xs) - 1 ≡ length xs = omega arith in rw e (take_all (length xs) xs (omega arith))

pub behind_end : {A : Type 0} (f : A → Argument) (xs : List A) (i : ℕ) (n : Notes) → length (take (length xs - 1) (drop 1 xs)) ≤ i
    → n ≡ argument_notes (map f (take i (take (length xs - 1) (drop 1 xs)))) → n ≡ argument_notes (map f (drop 1 xs))
behind_end f xs i n done is = is ∙ ap (λ ys. argument_notes (map f ys)) (take_all i (take (length xs - 1) (drop 1 xs)) done ∙ all_behind xs)

-- ---- arguments beside parameters

drop_next : {A : Type 0} (xs : List A) (i : ℕ) (x : A) → i < length xs → x ≡ get_or xs i x → drop i xs ≡ x ∷ drop (i + 1) xs
drop_next [] i x inside is = absurd (omega (arith, inside))
drop_next (y ∷ ys) zero x inside is = ap (λ z. z ∷ ys) (sym is)
drop_next (y ∷ ys) (suc i) x inside is =
    let next : suc i + 1 ≡ suc (i + 1) = omega arith in
    drop_next ys i x (omega (arith, inside)) is ∙ ap (λ k. x ∷ drop k (y ∷ ys)) (sym next)

pub matched_turn : {A : Type 0} (tys : Table) (over : Bool) (left : List Parameter) (f : A → Argument) (xs : List A) (i : ℕ) (x : A) (so_far : Notes) → i < length xs → x ≡ get_or xs i x
    → notes_of_both so_far (matched tys over left (map f (drop i xs)))
    ≡ notes_of_both (notes_of_both so_far (notes_for tys over left (f x))) (matched tys (over || is_nil left) (behind left) (map f (drop (i + 1) xs)))
matched_turn tys over left f xs i x so_far inside is =
    ap (λ ys. notes_of_both so_far (matched tys over left (map f ys))) (drop_next xs i x inside is)
    ∙ sym (both_assoc so_far (notes_for tys over left (f x)) (matched tys (over || is_nil left) (behind left) (map f (drop (i + 1) xs))))

matched_over : (tys : Table) (ps : List Parameter) (args : List Argument) → matched tys true ps args ≡ all_notes args
matched_over tys ps [] = refl
matched_over tys ps (a ∷ args) = ap (notes_of_both (whole_notes a)) (matched_over tys (behind ps) args)

abbrev fitting : List Parameter → List Argument → ℕ
fitting ps args = kind_unless (nat_eq (length ps) (length args)) WRONG_ARGUMENTS

with_assoc : (a b : Notes) (k : ℕ) → notes_with (notes_of_both a b) k ≡ notes_of_both a (notes_with b k)
with_assoc a b k = same_notes _ _ _ _ (min_assoc a.kind b.kind k) refl

arguments_are : (tys : Table) (ps : List Parameter) (args : List Argument) → arguments_notes tys ps args ≡ notes_with (matched tys false ps args) (fitting ps args)
arguments_are tys [] [] = refl
arguments_are tys [] (a ∷ args) =
    ap (λ n. notes_with (notes_of_both (notes_for tys false [] a) n) WRONG_ARGUMENTS) (sym (matched_over tys [] args))
    ∙ ap (λ fits. notes_with (matched tys false [] (a ∷ args)) (kind_unless fits WRONG_ARGUMENTS)) (sym (eqb-zero-suc (length args)))
arguments_are tys (p ∷ ps) [] = ap (λ fits. notes_with no_notes (kind_unless fits WRONG_ARGUMENTS)) (sym (eqb-suc-zero (length ps)))
arguments_are tys (p ∷ ps) (a ∷ args) =
    ap (notes_of_both (argument_notes_for tys p a)) (arguments_are tys ps args)
    ∙ (sym (with_assoc (argument_notes_for tys p a) (matched tys false ps args) (fitting ps args))
    ∙ ap (λ fits. notes_with (matched tys false (p ∷ ps) (a ∷ args)) (kind_unless fits WRONG_ARGUMENTS)) (sym (eqb-suc-suc (length ps) (length args))))

same_length : {A B : Type 0} (f : A → B) (xs : List A) → length (map f xs) ≡ length xs
same_length f [] = refl
same_length f (x ∷ xs) = ap suc (same_length f xs)

clean_least : (m k : ℕ) → k ≤ CLEAN → min (min CLEAN m) k ≡ min m k
clean_least m k small = omega (arith, small)

with_clean : (n m : Notes) (k : ℕ) → k ≤ CLEAN → notes_of_both no_notes m ≡ notes_of_both n no_notes → notes_with n k ≡ notes_with m k
with_clean n m k small is =
    same_notes _ _ _ _
    (sym (clean_least n.kind k small) ∙ (ap (λ j. min j k) (min_comm CLEAN n.kind) ∙ (sym (ap (λ o. min o.kind k) is) ∙ clean_least m.kind k small)))
    (sym (ap (λ o. o.passed) is ∙ append-nil n.passed))

fitting_small : (fits : Bool) → kind_unless fits WRONG_ARGUMENTS ≤ CLEAN
fitting_small true = omega arith
fitting_small false = omega arith

pub arguments_end : {A : Type 0} (tys : Table) (over : Bool) (f : A → Argument) (ps left : List Parameter) (args : List A) (i : ℕ) (notes : Notes) → length args ≤ i
    → notes_of_both no_notes (matched tys false ps (map f args)) ≡ notes_of_both notes (matched tys over left (map f (drop i args)))
    → notes_with notes (kind_unless (nat_eq (length ps) (length args)) WRONG_ARGUMENTS) ≡ arguments_notes tys ps (map f args)
arguments_end tys over f ps left args i notes done same =
    with_clean notes (matched tys false ps (map f args)) (kind_unless (nat_eq (length ps) (length args)) WRONG_ARGUMENTS) (fitting_small (nat_eq (length ps) (length args)))
    (same ∙ ap (λ ys. notes_of_both notes (matched tys over left (map f ys))) (drop_of_length-le args done))
    ∙ (ap (λ k. notes_with (matched tys false ps (map f args)) (kind_unless (nat_eq (length ps) k) WRONG_ARGUMENTS)) (sym (same_length f args))
    ∙ sym (arguments_are tys ps (map f args)))

-- ---- a predeclared function of one argument

one_is : {A : Type 0} (tys : Table) (function : Standard) (f : A → Argument) (args : List A) (x : A) → 0 < length args → x ≡ get_or args 0 x
    → one_argument_value tys function (map f args)
    ≡ judgement (result_of tys function (f x).value.judged.typing)
    (notes_with (notes_from (f x).value.judged.notes (map f args)) (kind_of_one tys function (f x).value.judged.typing (nat_eq (length args) 1)))
one_is tys function f [] x some is = absurd (omega (arith, some))
one_is tys function f (y ∷ []) x some is = rw is refl
one_is tys function f (y ∷ (z ∷ ys)) x some is =
    rw is (ap (λ only. judgement (result_of tys function (f y).value.judged.typing) (notes_with (notes_from (f y).value.judged.notes (map f (y ∷ (z ∷ ys)))) (kind_of_one tys function (f y).value.judged.typing only)))
    (sym (eqb-suc-suc (suc (length ys)) 0 ∙ eqb-suc-zero (length ys))))

pub one_by : {A : Type 0} (tys uys vys : Table) (function : Standard) (f : A → Argument) (args : List A) (x : A) (v : Judged) (n m : Notes) (k : ℕ) (t : Typing)
    → 0 < length args → x ≡ get_or args 0 x → uys ≡ tys → vys ≡ tys → v ≡ (f x).value.judged → n ≡ notes_from v.notes (map f args)
    → k ≡ kind_of_one uys function v.typing (nat_eq (length args) 1) → t ≡ result_of vys function v.typing → m ≡ notes_with n k
    → ◌≡◌ {A = Judged} (record { typing = t; notes = m }) (one_argument_value tys function (map f args))
one_by tys uys vys function f args x v n m k t some is table table' value notes kind made noted =
    rw (one_is tys function f args x some is) (rw made (rw noted (rw kind (rw notes (rw value (rw table (rw table' refl)))))))
