-- What a reading leaves of the input is bytes, as the input was, and its value goes into a word.
use Rattle.std.proofs.Common.{ℕ, ◌+◌, ◌-◌, ◌*◌, ◌<◌, ℤ, pos, Bool, true, false, List, [], ◌∷◌}
use Rattle.std.specs.Prelude.{neg_ℤ, ◌==◌, if◌then◌else◌}
use Rattle.std.specs.List.{AllByRecursion}
use Rattle.plain_pascal.specs.Integers.{is_integer}
use Rattle.plain_pascal.specs.Reading.{Reading, Read, Unread, is_blank, is_digit, unblanked, digits_read, number_read, signed_read, in_integers, integer_read, character_read, behind_line, line_read}

abbrev pub AreBytes : List ℕ → Type 0
AreBytes = AllByRecursion (λ b. b < 256)

abbrev pub LeavesBytes : Reading → Type 0
LeavesBytes (Read z rest) = AreBytes rest
LeavesBytes (Unread e) = Unit {0}

unblanked_bytes : (cs : List ℕ) → AreBytes cs → AreBytes (unblanked cs)
unblanked_bytes [] h = tt
unblanked_bytes (c ∷ cs) h = by (is_blank c) (unblanked_bytes cs h.1)
  where
    by : (b : Bool) → AreBytes (unblanked cs) → AreBytes (if b then unblanked cs else c ∷ cs)
    by true rest = rest
    by false rest = h

digits_bytes : (signed : ℕ → ℤ) (n : ℕ) (cs : List ℕ) → AreBytes cs → LeavesBytes (digits_read signed n cs)
digits_bytes signed n [] h = tt
digits_bytes signed n (c ∷ cs) h = by (is_digit c) (digits_bytes signed (10 * n + (c - 48)) cs h.1)
  where
    by : (b : Bool) → LeavesBytes (digits_read signed (10 * n + (c - 48)) cs) → LeavesBytes (if b then digits_read signed (10 * n + (c - 48)) cs else Read (signed n) (c ∷ cs))
    by true rest = rest
    by false rest = h

number_bytes : (signed : ℕ → ℤ) (cs : List ℕ) → AreBytes cs → LeavesBytes (number_read signed cs)
number_bytes signed [] h = tt
number_bytes signed (c ∷ cs) h = by (is_digit c)
  where
    by : (b : Bool) → LeavesBytes (if b then digits_read signed 0 (c ∷ cs) else Unread 12)
    by true = digits_bytes signed 0 (c ∷ cs) h
    by false = tt

signed_bytes : (cs : List ℕ) → AreBytes cs → LeavesBytes (signed_read cs)
signed_bytes [] h = tt
signed_bytes (c ∷ cs) h = by (c == 45) (c == 43)
  where
    by : (a b : Bool) → LeavesBytes (if a then number_read (λ n. neg_ℤ (pos n)) cs else (if b then number_read pos cs else number_read pos (c ∷ cs)))
    by true b = number_bytes (λ n. neg_ℤ (pos n)) cs h.1
    by false true = number_bytes pos cs h.1
    by false false = number_bytes pos (c ∷ cs) h

integers_bytes : (r : Reading) → LeavesBytes r → LeavesBytes (in_integers r)
integers_bytes (Unread e) h = tt
integers_bytes (Read z rest) h = by (is_integer z)
  where
    by : (b : Bool) → LeavesBytes (if b then Read z rest else Unread 3)
    by true = h
    by false = tt

pub integer_bytes : (cs : List ℕ) → AreBytes cs → LeavesBytes (integer_read cs)
integer_bytes cs h = integers_bytes (signed_read (unblanked cs)) (signed_bytes (unblanked cs) (unblanked_bytes cs h))

pub character_bytes : (cs : List ℕ) → AreBytes cs → LeavesBytes (character_read cs)
character_bytes [] h = tt
character_bytes (c ∷ cs) h = h.1

behind_bytes : (cs : List ℕ) → AreBytes cs → AreBytes (behind_line cs)
behind_bytes [] h = tt
behind_bytes (c ∷ cs) h = by (c == 10) (behind_bytes cs h.1)
  where
    by : (b : Bool) → AreBytes (behind_line cs) → AreBytes (if b then cs else behind_line cs)
    by true rest = h.1
    by false rest = rest

pub line_bytes : (cs : List ℕ) → AreBytes cs → LeavesBytes (line_read cs)
line_bytes [] h = tt
line_bytes (c ∷ cs) h = behind_bytes (c ∷ cs) h
