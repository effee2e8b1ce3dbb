-- Sums and differences of words and bytes: PDP-11/40 Processor Handbook, chapter 4. A value is negative from half of its
-- range on.
use Rattle.std.specs.Prelude.{ℕ, ◌+◌, ◌-◌, ◌%◌, Bool, false, ◌&&◌, nat_lt, nat_le, if◌then◌else◌}

-- how many values a byte or a word has
abbrev pub whole : Bool → ℕ
whole byte = if byte then 256 else 65536

-- the least of them that is negative: the sign bit alone
abbrev pub half : Bool → ℕ
half byte = if byte then 128 else 32768

-- the sum of two words does not fit a signed word: both have one sign, and the sum's low word the other
abbrev pub sum_overflows : ℕ → ℕ → Bool
sum_overflows a b =
    if nat_le 32768 a
    then nat_le 32768 b && nat_lt (a + b) 98304
    else nat_lt b 32768 && nat_le 32768 (a + b)

-- the difference in the bits of a byte or a word
abbrev pub difference : Bool → ℕ → ℕ → ℕ
difference byte a b = (a + whole byte - b) % whole byte

-- the difference of two bytes or words does not fit a signed one: they have two signs, and it has that of the second
abbrev pub difference_leaves : Bool → ℕ → ℕ → Bool
difference_leaves byte a b =
    if nat_le (half byte) a then nat_lt b (half byte) && nat_lt (difference byte a b) (half byte)
    else nat_le (half byte) b && nat_le (half byte) (difference byte a b)

-- the same of words
abbrev pub difference_overflows : ℕ → ℕ → Bool
difference_overflows = difference_leaves false
