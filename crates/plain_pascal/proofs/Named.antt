-- What is found by its name in the table and in the list of routines.
use Rattle.std.proofs.Common.{◌≡◌, ℕ, Bool, true, false, List, [], ◌∷◌, ◌++◌, Option, Some, None, option_map, refl, sym, ap, ◌∙◌, subst, arith}
use Rattle.std.specs.Prelude.{◌==◌, find, if◌then◌else◌}
use Rattle.std.specs.List.{AllByRecursion}
use Rattle.std.proofs.lemmas.Bool.Decides.{nat_tests}
use Rattle.core_tree.specs.Control.{MachineRow, RoutineRow as ListedRoutine}
use Rattle.plain_pascal.specs.Program.{Program, Row, RoutineRow, row_in, statement_in, row_of, routine_in, routine_of}

-- ---- all of a list

pub every_front : {A : Type 0} (T : A → Type 0) (xs ys : List A) → AllByRecursion T (xs ++ ys) → AllByRecursion T xs
every_front T [] ys h = tt
every_front T (x ∷ xs) ys h = (h.0, every_front T xs ys h.1)

pub every_back : {A : Type 0} (T : A → Type 0) (xs ys : List A) → AllByRecursion T (xs ++ ys) → AllByRecursion T ys
every_back T [] ys h = h
every_back T (x ∷ xs) ys h = every_back T xs ys h.1

pub every_join : {A : Type 0} (T : A → Type 0) (xs ys : List A) → AllByRecursion T xs → AllByRecursion T ys → AllByRecursion T (xs ++ ys)
every_join T [] ys h k = k
every_join T (x ∷ xs) ys h k = (h.0, every_join T xs ys h.1 k)

pub found_in : {A : Type 0} (T : A → Type 0) (test : A → Bool) (xs : List A) (x : A) → AllByRecursion T xs → find test xs ≡ Some x → T x
found_in T test [] x h e = absurd (grind (arith, e))
found_in T test (y ∷ ys) x h e = by (test y) e (λ k. found_in T test ys x h.1 k)
  where
    by : (b : Bool) → (if b then Some y else find test ys) ≡ Some x → (find test ys ≡ Some x → T x) → T x
    by true e rest = let is : y ≡ x = cc e in subst T is h.0
    by false e rest = rest e

-- ---- statements

-- where it is a statement, this holds of it
abbrev pub OfRow : (Row → Type 0) → Option Row → Type 0
OfRow T None = Unit {0}
OfRow T (Some x) = T x

abbrev pub OfStatements : (Row → Type 0) → MachineRow → Type 0
OfStatements T r = OfRow T (statement_in r r.next r.form)

pub statement_found : (P : Program) (T : Row → Type 0) (n : ℕ) (x : Row) → AllByRecursion (OfStatements T) P.rows → row_of P n ≡ Some x → T x
statement_found P T n x h e = by (find (λ r. r.name == n) P.rows) refl e
  where
    by : (o : Option MachineRow) → find (λ r. r.name == n) P.rows ≡ o → row_in o ≡ Some x → T x
    by None at e = absurd (grind (arith, e))
    by (Some r) at e = subst (OfRow T) e (found_in (OfStatements T) (λ r. r.name == n) P.rows r h at)

-- ---- routines

abbrev pub OfRoutines : (P : Program) → (RoutineRow → Type 0) → ListedRoutine → Type 0
OfRoutines P T r = T (routine_in P.rows r)

pub routine_found : (P : Program) (T : RoutineRow → Type 0) (n : ℕ) (x : RoutineRow) → AllByRecursion (OfRoutines P T) P.routines → routine_of P n ≡ Some x → T x
routine_found P T n x h e = by (find (λ r. r.head.name == n) P.routines) refl e
  where
    by : (o : Option ListedRoutine) → find (λ r. r.head.name == n) P.routines ≡ o → option_map (routine_in P.rows) o ≡ Some x → T x
    by None at e = absurd (grind (arith, e))
    by (Some r) at e = let is : routine_in P.rows r ≡ x = cc e in subst T is (found_in (OfRoutines P T) (λ r. r.head.name == n) P.routines r h at)

listed_named : (rs : List ListedRoutine) (n : ℕ) (r : ListedRoutine) → find (λ x. x.head.name == n) rs ≡ Some r → r.head.name ≡ n
listed_named [] n r e = absurd (grind (arith, e))
listed_named (x ∷ rs) n r e = by (x.head.name == n) refl e (λ h. listed_named rs n r h)
  where
    by : (b : Bool) → (x.head.name == n) ≡ b → (if b then Some x else find (λ y. y.head.name == n) rs) ≡ Some r → (find (λ y. y.head.name == n) rs ≡ Some r → r.head.name ≡ n) → r.head.name ≡ n
    by true t h rest = let same : x ≡ r = cc h in let k : x.head.name ≡ n = grind (arith, nat_tests, t) in sym (ap (λ y. y.head.name) same) ∙ k
    by false t h rest = rest h

-- what is found by a name bears it
pub row_named : (P : Program) (n : ℕ) (r : RoutineRow) → routine_of P n ≡ Some r → r.name ≡ n
row_named P n r e = by (find (λ x. x.head.name == n) P.routines) refl e
  where
    by : (o : Option ListedRoutine) → find (λ x. x.head.name == n) P.routines ≡ o → option_map (routine_in P.rows) o ≡ Some r → r.name ≡ n
    by None at e = absurd (grind (arith, e))
    by (Some x) at e = let is : routine_in P.rows x ≡ r = cc e in sym (ap (λ y. y.name) is) ∙ listed_named P.routines n x at
