-- What is known of numbers in turn: they lie between the first and the last, and differ.
use Rattle.std.proofs.Common.{◌≡◌, ◌≢◌, ◌≤◌, ◌<◌, ◌⊎◌, ℕ, ◌+◌, false, true, List, [], ◌∷◌, length, eqb, arith, inl, inr}
use Rattle.std.specs.List.{AllByRecursion, IsDistinct}
use Rattle.std.proofs.lemmas.Bool.Decides.{eqb_tells}
use Rattle.pascal_tree.specs.Names.{Counts}

pub counts_length : (a b : ℕ) (xs : List ℕ) → Counts a xs b → a + length xs ≡ b
counts_length a b [] p = omega (arith, p)
counts_length a b (x ∷ xs) p = omega (arith, counts_length (a + 1) b xs p.1)

from_below : (a b c : ℕ) (xs : List ℕ) → c ≤ a → AllByRecursion (λ n. (a ≤ n) × (n < b)) xs → AllByRecursion (λ n. (c ≤ n) × (n < b)) xs
from_below a b c [] le p = tt
from_below a b c (x ∷ xs) le p = ((omega (arith, le, p.0.0), p.0.1), from_below a b c xs le p.1)

pub counts_within : (a b : ℕ) (xs : List ℕ) → Counts a xs b → AllByRecursion (λ n. (a ≤ n) × (n < b)) xs
counts_within a b [] p = tt
counts_within a b (x ∷ xs) p =
    ((omega (arith, p.0), omega (arith, p.0, counts_length (a + 1) b xs p.1)), from_below (a + 1) b a xs (omega arith) (counts_within (a + 1) b xs p.1))

unequal : (a b : ℕ) → a < b → eqb a b ≡ false
unequal a b less = go (eqb_tells a b)
  where
    go : ((eqb a b ≡ true) × (a ≡ b)) ⊎ ((eqb a b ≡ false) × (a ≢ b)) → eqb a b ≡ false
    go (inl e) = absurd (omega (arith, less, e.1))
    go (inr e) = e.0

apart : (x a b : ℕ) (xs : List ℕ) → x < a → AllByRecursion (λ n. (a ≤ n) × (n < b)) xs → AllByRecursion (λ n. eqb x n ≡ false) xs
apart x a b [] less p = tt
apart x a b (y ∷ ys) less p = (unequal x y (omega (arith, less, p.0.0)), apart x a b ys less p.1)

pub counts_distinct : (a b : ℕ) (xs : List ℕ) → Counts a xs b → IsDistinct eqb xs
unfolding IsDistinct
counts_distinct a b [] p = tt
counts_distinct a b (x ∷ xs) p = (apart x (a + 1) b xs (omega (arith, p.0)) (counts_within (a + 1) b xs p.1), counts_distinct (a + 1) b xs p.1)
