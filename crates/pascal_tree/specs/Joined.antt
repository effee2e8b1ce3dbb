-- Lists put together, as the tokens of lists in a program are.
use Rattle.std.specs.Prelude.{Bool, true, false, List, [], ◌∷◌, ◌++◌, Option, Some, None}

-- one list after the other
abbrev pub flat : {A : Type 0} → List (List A) → List A
flat [] = []
flat (x ∷ xs) = x ++ flat xs

-- one list after the other, with the separator before each
abbrev pub behind_each : {A : Type 0} → List A → List (List A) → List A
behind_each sep [] = []
behind_each sep (x ∷ xs) = sep ++ (x ++ behind_each sep xs)

-- one list after the other, with the separator between
abbrev pub join : {A : Type 0} → List A → List (List A) → List A
join sep [] = []
join sep (x ∷ xs) = x ++ behind_each sep xs

-- what may be left out: nothing, where it is
abbrev pub optional_part : {A : Type 0} → Option (List A) → List A
optional_part None = []
optional_part (Some x) = x

-- the same with an item before it, as the colon before the width of an argument
abbrev pub optional_part_after : {A : Type 0} → A → Option (List A) → List A
optional_part_after a None = []
optional_part_after a (Some x) = a ∷ x

-- the separator before an item of a list, unless the item is the first
abbrev pub separator : {A : Type 0} → A → Bool → List A
separator sep true = []
separator sep false = sep ∷ []
