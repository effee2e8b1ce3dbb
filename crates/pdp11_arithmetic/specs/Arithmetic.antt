-- Multiplication, division and shifts of signed words: PDP-11/40 Processor Handbook, chapter 7, extended instruction set.
-- A signed number is a sign and a magnitude here.
use Rattle.std.specs.Prelude.{ℕ, ◌+◌, ◌-◌, ◌*◌, ◌/◌, ◌%◌, ◌^◌, Bool, ◌||◌, nat_lt, nat_le, nat_eq, if◌then◌else◌, Option, Some, None}
use Rattle.pdp11_arithmetic.specs.Bits.{not, differs}

-- the sign bit of a word is set
abbrev pub is_negative : ℕ → Bool
is_negative w = nat_le 32768 w

-- the magnitude of a word's signed value
abbrev pub magnitude : ℕ → ℕ
magnitude w = if is_negative w then 65536 - w else w

-- the number of this sign and magnitude, in so many values
abbrev pub with_sign : ℕ → Bool → ℕ → ℕ
with_sign values negative n = if negative then (values - n) % values else n

-- a number of this sign and magnitude does not fit a signed word
abbrev pub leaves_word : Bool → ℕ → Bool
leaves_word negative n = if negative then nat_lt 32768 n else nat_lt 32767 n

-- the magnitude of a product
abbrev pub product_magnitude : ℕ → ℕ → ℕ
product_magnitude a b = magnitude a * magnitude b

-- the product in 32 bits
abbrev pub product : ℕ → ℕ → ℕ
product a b = with_sign 4294967296 (differs (is_negative a) (is_negative b)) (product_magnitude a b)

-- the magnitude of the signed value of two words
abbrev pub pair_magnitude : ℕ → ℕ → ℕ
pair_magnitude high low =
    if is_negative high then 4294967296 - (65536 * high + low) else 65536 * high + low

-- the quotient of a pair by a word that is not 0, towards 0, and the remainder, which has the pair's sign; none where the
-- quotient does not fit a word
abbrev pub division : ℕ → ℕ → ℕ → Option (ℕ × ℕ)
division high low divisor =
    let negative = differs (is_negative high) (is_negative divisor) in
    let pair = pair_magnitude high low in
    if leaves_word negative (pair / magnitude divisor) then None
    else Some (
      with_sign 65536 negative (pair / magnitude divisor),
      with_sign 65536 (is_negative high) (pair % magnitude divisor),
    )

-- a word shifted left, in as many bits as it then has
abbrev pub wide_left : ℕ → ℕ → ℕ
wide_left w count = w * 2 ^ count

-- the bits that stood at the sign on the way were not all the same
abbrev pub sign_changes : ℕ → ℕ → Bool
sign_changes w count =
    not (nat_eq (wide_left w count / 32768) 0 || nat_eq (wide_left w count / 32768 + 1) (2 * 2 ^ count))

-- a word in 48 bits, with its sign extended
abbrev pub wide_right : ℕ → ℕ
wide_right w = if is_negative w then 281474976645120 + w else w
