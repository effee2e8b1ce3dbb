-- Lists from which some numbers were left out.
use Rattle.std.proofs.Common.{◌≡◌, ℕ, false, List, [], ◌∷◌, ◌++◌, eqb}
use Rattle.std.specs.List.{AllByRecursion, IsDistinct}

pub data Sublist : List ℕ → List ℕ → Type 0 where
  none : Sublist [] []
  keep : (x : ℕ) {xs ys : List ℕ} → Sublist xs ys → Sublist (x ∷ xs) (x ∷ ys)
  skip : (y : ℕ) {xs ys : List ℕ} → Sublist xs ys → Sublist xs (y ∷ ys)

pub sublist_behind : (front : List ℕ) {xs ys : List ℕ} → Sublist xs ys → Sublist xs (front ++ ys)
sublist_behind [] s = s
sublist_behind (y ∷ front) s = skip y (sublist_behind front s)

pub sublist_append : {vs ws xs ys : List ℕ} → Sublist vs ws → Sublist xs ys → Sublist (vs ++ xs) (ws ++ ys)
sublist_append none t = t
sublist_append (keep v s) t = keep v (sublist_append s t)
sublist_append (skip w s) t = skip w (sublist_append s t)

pub sublist_all : (P : ℕ → Type 0) {xs ys : List ℕ} → Sublist xs ys → AllByRecursion P ys → AllByRecursion P xs
sublist_all P none h = tt
sublist_all P (keep x s) h = (h.0, sublist_all P s h.1)
sublist_all P (skip y s) h = sublist_all P s h.1

pub sublist_distinct : {xs ys : List ℕ} → Sublist xs ys → IsDistinct eqb ys → IsDistinct eqb xs
unfolding IsDistinct
sublist_distinct none h = tt
sublist_distinct (keep x s) h = (sublist_all (λ y. eqb x y ≡ false) s h.0, sublist_distinct s h.1)
sublist_distinct (skip y s) h = sublist_distinct s h.1
