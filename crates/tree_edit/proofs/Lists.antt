-- One element of a list, changed.
use Rattle.std.proofs.Common.{◌≡◌, ℕ, zero, suc, ◌+◌, ◌<◌, ◌&&◌, List, [], ◌∷◌, ◌++◌, length, map, take, drop, Some, None, refl, ap, ◌∙◌, subst, arith, Bool, true, false}
use Rattle.std.specs.Prelude.{slice_get, if◌then◌else◌}
use Rattle.std.specs.List.{list_all}
use Rattle.std.proofs.lemmas.Bool.{eq-eqb, ne_eqb}
use Rattle.tree_edit.specs.Place.{change, change_if}

pub change_map : {A B : Type 0} (h : A → B) (f : A → A) (g : B → B) → ((a : A) → h (f a) ≡ g (h a)) → (i : ℕ) (xs : List A) → map h (change f i xs) ≡ change g i (map h xs)
change_map h f g e i [] = refl
change_map {A} {B} h f g e zero (x ∷ xs) = ap (λ (y : B). y ∷ map h xs) (e x)
change_map {A} {B} h f g e (suc i) (x ∷ xs) = ap (λ (ys : List B). h x ∷ ys) (change_map h f g e i xs)

-- elements that stay as they are
pub change_kept : {A B : Type 0} (h : A → B) (g : B → B) → ((a : A) → g (h a) ≡ h a) → (i : ℕ) (xs : List A) → change g i (map h xs) ≡ map h xs
change_kept h g e i [] = refl
change_kept {A} {B} h g e zero (x ∷ xs) = ap (λ (y : B). y ∷ map h xs) (e x)
change_kept {A} {B} h g e (suc i) (x ∷ xs) = ap (λ (ys : List B). h x ∷ ys) (change_kept h g e i xs)

pub change_front : {A : Type 0} (f : A → A) (i : ℕ) (xs ys : List A) → i < length xs → change f i (xs ++ ys) ≡ change f i xs ++ ys
change_front f i [] ys lt = absurd (omega (arith, lt))
change_front f zero (x ∷ xs) ys lt = refl
change_front {A} f (suc i) (x ∷ xs) ys lt = ap (λ (zs : List A). x ∷ zs) (change_front f i xs ys (omega (arith, lt)))

pub change_rest : {A : Type 0} (f : A → A) (j i : ℕ) (xs ys : List A) → i ≡ j + length xs → change f i (xs ++ ys) ≡ xs ++ change f j ys
change_rest {A} f j i [] ys e = ap (λ (n : ℕ). change f n ys) (omega (arith, e))
change_rest f j zero (x ∷ xs) ys e = absurd (omega (arith, e))
change_rest {A} f j (suc i) (x ∷ xs) ys e = ap (λ (zs : List A). x ∷ zs) (change_rest f j i xs ys (omega (arith, e)))

pub change_past : {A : Type 0} (f : A → A) (i : ℕ) (xs : List A) → slice_get xs i ≡ None → change f i xs ≡ xs
change_past f i [] e = refl
change_past f zero (x ∷ xs) e = absurd cc
change_past {A} f (suc i) (x ∷ xs) e = ap (λ (ys : List A). x ∷ ys) (change_past f i xs e)

change_split : {A : Type 0} (f : A → A) (i : ℕ) (x : A) (xs : List A) → slice_get xs i ≡ Some x → change f i xs ≡ (take i xs ++ f x ∷ []) ++ drop (suc i) xs
change_split f i x [] e = absurd cc
change_split {A} f zero x (y ∷ xs) e = (let same : y ≡ x = cc in ap (λ (z : A). f z ∷ xs) same)
change_split {A} f (suc i) x (y ∷ xs) e = ap (λ (ys : List A). y ∷ ys) (change_split f i x xs e)

-- the change as what stands before, the changed element, and what stands after
pub change_at : {A : Type 0} (f : A → A) (i : ℕ) (x : A) (xs : List A) → slice_get xs i ≡ Some x → change f i xs ≡ (take i xs ++ f x ∷ []) ++ drop (i + 1) xs
change_at {A} f i x xs e = (let next : suc i ≡ i + 1 = omega arith in subst (λ (n : ℕ). change f i xs ≡ (take i xs ++ f x ∷ []) ++ drop n xs) next (change_split f i x xs e))

-- ---- lists of one element, and of two

pub change_if_here : {A : Type 0} (f : A → A) (i j : ℕ) (x : A) → i ≡ j → change_if f i j x ≡ f x
change_if_here {A} f i j x e = ap (λ (t : Bool). if t then f x else x) (eq-eqb i j e)

pub change_if_other : {A : Type 0} (f : A → A) (i j : ℕ) (x : A) → (i ≡ j → ⊥) → change_if f i j x ≡ x
change_if_other {A} f i j x ne = ap (λ (t : Bool). if t then f x else x) (ne_eqb i j ne)

pub change_single : {A : Type 0} (f : A → A) (i : ℕ) (x : A) → change_if f i 0 x ∷ [] ≡ change f i (x ∷ [])
change_single {A} f zero x = ap (λ (y : A). y ∷ []) (change_if_here f 0 0 x refl)
change_single {A} f (suc i) x = ap (λ (y : A). y ∷ []) (change_if_other f (suc i) 0 x (λ e. omega (arith, e)))

change_second : {A : Type 0} (f : A → A) (i : ℕ) (y : A) → change_if f (suc i) 1 y ∷ [] ≡ change f i (y ∷ [])
change_second {A} f zero y = ap (λ (z : A). z ∷ []) (change_if_here f (suc zero) 1 y (omega arith))
change_second {A} f (suc i) y = ap (λ (z : A). z ∷ []) (change_if_other f (suc (suc i)) 1 y (λ e. omega (arith, e)))

pub change_two : {A : Type 0} (f : A → A) (i : ℕ) (x y : A) → change_if f i 0 x ∷ change_if f i 1 y ∷ [] ≡ change f i (x ∷ y ∷ [])
change_two {A} f zero x y =
    ap (λ (z : A). z ∷ change_if f 0 1 y ∷ []) (change_if_here f 0 0 x refl) ∙ ap (λ (z : A). f x ∷ z ∷ []) (change_if_other f 0 1 y (λ e. omega (arith, e)))
change_two {A} f (suc i) x y =
    ap (λ (z : A). z ∷ change_if f (suc i) 1 y ∷ []) (change_if_other f (suc i) 0 x (λ e. omega (arith, e))) ∙ ap (λ (zs : List A). x ∷ zs) (change_second f i y)

-- ---- a test of each element

first_out : (q p b a : Bool) → (q && (p && (b && a))) ≡ (p && ((q && b) && a))
first_out true true b a = refl
first_out true false b a = refl
first_out false true b a = refl
first_out false false b a = refl

list_all-split : {A B : Type 0} (p : B → Bool) (h : A → B) (f : A → A) (i : ℕ) (x : A) (xs : List A) → slice_get xs i ≡ Some x
    → list_all p (map h (change f i xs)) ≡ (p (h (f x)) && (list_all p (map h (take i xs)) && list_all p (map h (drop (suc i) xs))))
list_all-split p h f i x [] e = absurd cc
list_all-split {A} p h f zero x (y ∷ xs) e = (let same : y ≡ x = cc in ap (λ (z : A). p (h (f z)) && list_all p (map h xs)) same)
list_all-split p h f (suc i) x (y ∷ xs) e =
    ap (λ (t : Bool). p (h y) && t) (list_all-split p h f i x xs e) ∙ first_out (p (h y)) (p (h (f x))) (list_all p (map h (take i xs))) (list_all p (map h (drop (suc i) xs)))

-- the changed element is looked at first, and then those before and after it
pub all_but : {A B : Type 0} (p : B → Bool) (h : A → B) (f : A → A) (i : ℕ) (x : A) (xs : List A) → slice_get xs i ≡ Some x
    → list_all p (map h (change f i xs)) ≡ (p (h (f x)) && (list_all p (map h (take i xs)) && list_all p (map h (drop (i + 1) xs))))
all_but p h f i x xs e =
    (let next : suc i ≡ i + 1 = omega arith in
    subst (λ (n : ℕ). list_all p (map h (change f i xs)) ≡ (p (h (f x)) && (list_all p (map h (take i xs)) && list_all p (map h (drop n xs))))) next (list_all-split p h f i x xs e))
