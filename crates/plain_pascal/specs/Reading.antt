-- What `read` and `readln` take from the input (ISO 7185:1990, 6.9.1, 6.9.2): a line ends with the byte 10. Where a
-- reading ends in an error, it takes nothing.
use Rattle.std.specs.Prelude.{ℕ, ◌+◌, ◌-◌, ◌*◌, ℤ, pos, neg_ℤ, Bool, true, false, ◌&&◌, ◌||◌, nat_le, ◌==◌, if◌then◌else◌, List, [], ◌∷◌}
use Rattle.plain_pascal.specs.Integers.{is_integer}

-- what was read and the input that is left, or a run-time error
pub data Reading : Type 0 where
  Read : (value : ℤ) → (rest : List ℕ) → Reading
  Unread : (error : ℕ) → Reading

abbrev pub is_end_of_file : List ℕ → Bool
is_end_of_file [] = true
is_end_of_file (c ∷ cs) = false

abbrev pub is_end_of_line : List ℕ → Bool
is_end_of_line [] = true
is_end_of_line (c ∷ cs) = c == 10

abbrev pub is_blank : ℕ → Bool
is_blank c = c == 32 || c == 10

abbrev pub is_digit : ℕ → Bool
is_digit c = nat_le 48 c && nat_le c 57

-- the input from the first byte on that is no blank
abbrev pub unblanked : List ℕ → List ℕ
unblanked [] = []
unblanked (c ∷ cs) = if is_blank c then unblanked cs else c ∷ cs

-- digits behind a value
abbrev pub digits_read : (ℕ → ℤ) → ℕ → List ℕ → Reading
digits_read signed n [] = Read (signed n) []
digits_read signed n (c ∷ cs) = if is_digit c then digits_read signed (10 * n + (c - 48)) cs else Read (signed n) (c ∷ cs)

abbrev pub number_read : (ℕ → ℤ) → List ℕ → Reading
number_read signed [] = Unread 12
number_read signed (c ∷ cs) = if is_digit c then digits_read signed 0 (c ∷ cs) else Unread 12

abbrev pub signed_read : List ℕ → Reading
signed_read [] = Unread 10
signed_read (c ∷ cs) = if c == 45 then number_read (λ n. neg_ℤ (pos n)) cs else (if c == 43 then number_read pos cs else number_read pos (c ∷ cs))

abbrev pub in_integers : Reading → Reading
in_integers (Unread e) = Unread e
in_integers (Read z rest) = if is_integer z then Read z rest else Unread 3

abbrev pub integer_read : List ℕ → Reading
integer_read input = in_integers (signed_read (unblanked input))

-- a line's end is read as a space
abbrev pub character_read : List ℕ → Reading
character_read [] = Unread 10
character_read (c ∷ cs) = Read (pos (if c == 10 then 32 else c)) cs

-- the input behind the next line end
abbrev pub behind_line : List ℕ → List ℕ
behind_line [] = []
behind_line (c ∷ cs) = if c == 10 then cs else behind_line cs

abbrev pub line_read : List ℕ → Reading
line_read [] = Unread 10
line_read (c ∷ cs) = Read (pos 0) (behind_line (c ∷ cs))
