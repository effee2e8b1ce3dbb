-- The words of a line: what stands between blanks. Bytes are those of ASCII (RFC 20).
use Rattle.std.specs.Prelude.{ℕ, Bool, true, false, not, ◌&&◌, ◌||◌, ◌==◌, nat_le, if◌then◌else◌, List, [], ◌∷◌, None, Some}
use Rattle.std.specs.declared.option.Option.{Option}
use Rattle.dice_base.specs.Lexemes.{class, is_letter, digit_byte, word_byte, value_of}
use Rattle.pascal_scanner.specs.Longest.{front, past}

-- a space or a tab
abbrev pub is_blank : ℕ → Bool
is_blank b = b == 32 || b == 9

-- any other byte; which of them a line may have is asked of the whole line
abbrev pub is_word_byte : ℕ → Bool
is_word_byte b = not (is_blank b)

-- a tab or a printing character
abbrev pub is_text_byte : ℕ → Bool
is_text_byte b = b == 9 || (nat_le 32 b && nat_le b 126)

-- all elements pass
abbrev pub every : (ℕ → Bool) → List ℕ → Bool
every p [] = true
every p (b ∷ bs) = p b && every p bs

abbrev pub is_empty : List ℕ → Bool
is_empty [] = true
is_empty (b ∷ bs) = false

-- the first word, which is empty where there is none, and what stands behind it
abbrev pub word_of : List ℕ → List ℕ
word_of text = front is_word_byte (past is_blank text)

abbrev pub after_word : List ℕ → List ℕ
after_word text = past is_word_byte (past is_blank text)

-- a number is decimal digits with a value from 1 to 1,000,000
abbrev pub number_of : List ℕ → Option ℕ
number_of word =
    if every digit_byte word && (nat_le 1 (value_of word) && nat_le (value_of word) 1000000)
    then Some (value_of word) else None

-- a letter, and then letters and digits
abbrev pub is_identifier : List ℕ → Bool
is_identifier [] = false
is_identifier (c ∷ cs) = is_letter (class c) && every word_byte cs
