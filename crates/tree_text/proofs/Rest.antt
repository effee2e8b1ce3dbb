-- What a loop over a list has still to add.
use Rattle.std.proofs.Common.{◌≡◌, ℕ, ◌+◌, ◌<◌, ◌≤◌, Bool, true, false, List, [], ◌∷◌, ◌++◌, map, get_or, length, refl, add-one}
use Rattle.std.proofs.Math.ListN.{drop, drop_of_length-le}
use Rattle.std.proofs.Math.Seq.{drop-cons}
use Rattle.pascal_tree.specs.Joined.{behind_each, join, separator}

-- the items, with the separator before each but, where it is the first of all, the first
abbrev pub still : {A B : Type 0} → A → (B → List A) → Bool → List B → List A
still sep f true xs = join (sep ∷ []) (map f xs)
still sep f false xs = behind_each (sep ∷ []) (map f xs)

pub still_end : {A B : Type 0} (sep : A) (f : B → List A) (first : Bool) (xs : List B) (i : ℕ) → length xs ≤ i → still sep f first (drop i xs) ≡ []
still_end sep f true xs i le = rw (drop_of_length-le xs le) refl
still_end sep f false xs i le = rw (drop_of_length-le xs le) refl

pub still_step : {A B : Type 0} (sep : A) (f : B → List A) (first : Bool) (xs : List B) (i : ℕ) (d : B) → i < length xs → still sep f first (drop i xs) ≡ separator sep first ++ (f (get_or xs i d) ++ still sep f false (drop (i + 1) xs))
still_step sep f true xs i d lt = rw (add-one, drop-cons xs i d lt) refl
still_step sep f false xs i d lt = rw (add-one, drop-cons xs i d lt) refl
