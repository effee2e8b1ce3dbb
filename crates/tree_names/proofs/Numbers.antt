-- Items in front of what a numbering gives.
use Rattle.std.proofs.Common.{ℕ, List, ◌++◌}

abbrev pub with_front : {A : Type 0} → List A → List A × ℕ → List A × ℕ
with_front front r = (front ++ r.0, r.1)
