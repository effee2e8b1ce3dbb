-- The row of a word that lies in a run of words: where no row begins or ends within the run, all its words have one row.
use Rattle.std.proofs.Common.{◌≡◌, ℕ, ◌+◌, ◌-◌, ◌<◌, ◌≤◌, Bool, true, false, List, [], ◌∷◌, Option, Some, None, refl, arith}
use Rattle.std.specs.Prelude.{nat_lt, nat_le, find, ◌&&◌, ◌||◌, if◌then◌else◌}
use Rattle.std.specs.Option.{option_map}
use Rattle.std.proofs.lemmas.Bool.Decides.{nat_tests}
use Rattle.pdp11_code.specs.declared.table.Shape.{Shape}
use Rattle.pdp11_code.specs.declared.table.Row.{Row}
use Rattle.pdp11_code.specs.declared.table.TheConstants.{ROWS}
use Rattle.pdp11_code.specs.Code.{is_in, shape_at}

-- the row holds the whole run
abbrev covers : ℕ → ℕ → Row → Bool
covers low high row = nat_le row.first low && nat_le high (row.first + row.count)

-- the row holds nothing of the run
abbrev misses : ℕ → ℕ → Row → Bool
misses low high row = nat_le high row.first || nat_le (row.first + row.count) low

-- the shape of the words from low up to high, or none where a row parts them
abbrev pub shape_of_run : ℕ → ℕ → List Row → Option (Option Shape)
shape_of_run low high [] = Some None
shape_of_run low high (row ∷ rows) = if covers low high row then Some (Some row.shape) else (if misses low high row then shape_of_run low high rows else None)

holds : (f n low high w : ℕ) → nat_le f low && nat_le high (f + n) ≡ true → low ≤ w → w < high → nat_le f w && nat_lt (w - f) n ≡ true
holds f n low high w e a b = grind (arith, nat_tests)

lacks : (f n low high w : ℕ) → nat_le high f || nat_le (f + n) low ≡ true → low ≤ w → w < high → nat_le f w && nat_lt (w - f) n ≡ false
lacks f n low high w e a b = grind (arith, nat_tests)

pub in_run : (rows : List Row) (low high w : ℕ) (o : Option Shape) → low ≤ w → w < high → shape_of_run low high rows ≡ Some o → o ≡ option_map (λ row. row.shape) (find (is_in w) rows)
in_run [] low high w o a b e = cc
in_run (row ∷ rows) low high w o a b e = by_row row rows low high w o a b (covers low high row) refl (misses low high row) refl e (in_run rows low high w o a b)
  where
    by_row : (row : Row) (rows : List Row) (low high w : ℕ) (o : Option Shape) → low ≤ w → w < high → (c : Bool) → covers low high row ≡ c → (m : Bool) → misses low high row ≡ m → (if c then Some (Some row.shape) else (if m then shape_of_run low high rows else None)) ≡ Some o → (shape_of_run low high rows ≡ Some o → o ≡ option_map (λ row. row.shape) (find (is_in w) rows)) → o ≡ option_map (λ row. row.shape) (find (is_in w) (row ∷ rows))
    by_row row rows low high w o a b true c m d e next = rw (holds row.first row.count low high w c a b) cc
    by_row row rows low high w o a b false c true d e next = rw (lacks row.first row.count low high w d a b) (next e)
    by_row row rows low high w o a b false c false d e next = cc

pub found : (low high w : ℕ) (o : Option Shape) → low ≤ w → w < high → shape_of_run low high ROWS ≡ Some o → o ≡ shape_at w
found low high w o a b e = in_run ROWS low high w o a b e
