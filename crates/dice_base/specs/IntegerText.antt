-- The text of an integer: ISO 7185:1990, 6.9.3.2.
use Rattle.std.specs.Prelude.{ℕ, ℤ, pos, negsuc, ◌+◌, ◌-◌, List, [], ◌∷◌, ◌++◌, length, replicate}
use Rattle.std.specs.Fmt.{decimal}
use Rattle.dice_base.specs.Word.{signed_value}

-- a sign where it is negative, and its decimal digits
abbrev pub signed_text : ℤ → List ℕ
signed_text (pos n) = decimal n
signed_text (negsuc n) = 45 ∷ decimal (n + 1)

-- the text of a word as a signed number
abbrev pub number_text : ℕ → List ℕ
number_text word = signed_text (signed_value word)

-- padded with spaces on the left to the width, and never cut
abbrev pub integer_text : ℕ → ℕ → List ℕ
integer_text word width = replicate (width - length (number_text word)) 32 ++ number_text word
