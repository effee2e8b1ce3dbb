-- Fronts of a text: a token is the longest one that can be taken there (ISO 7185:1990, 6.1).
use Rattle.std.specs.Prelude.{ℕ, ◌+◌, Bool, ◌&&◌, ◌==◌, if◌then◌else◌, List, [], ◌∷◌, Option, Some, None, option_map}
use Rattle.dice_base.specs.Lexemes.{sign_of, alternative_of, string_byte}

-- the longest front whose bytes pass
abbrev pub front : (ℕ → Bool) → List ℕ → List ℕ
front p [] = []
front p (c ∷ cs) = if p c then c ∷ front p cs else []

-- what stands behind that front
abbrev pub past : (ℕ → Bool) → List ℕ → List ℕ
past p [] = []
past p (c ∷ cs) = if p c then past p cs else c ∷ cs

-- ---- signs

-- the first of two answers that there is
abbrev pub first_of_two : Option ℕ → Option ℕ → Option ℕ
first_of_two (Some k) other = Some k
first_of_two None other = other

-- the sign of a spelling: of the table of signs, or an alternative token (6.1.9)
abbrev pub spelled_sign : List ℕ → Option ℕ
spelled_sign w = first_of_two (sign_of w) (alternative_of w)

-- the sign of two bytes at the front, and that of one
abbrev pub pair_sign : List ℕ → Option ℕ
pair_sign [] = None
pair_sign (c ∷ []) = None
pair_sign (c ∷ d ∷ rest) = spelled_sign (c ∷ d ∷ [])

abbrev pub single_sign : List ℕ → Option ℕ
single_sign [] = None
single_sign (c ∷ rest) = spelled_sign (c ∷ [])

-- ---- strings (6.1.7)

-- the character that the front of a text stands for within a string
abbrev pub element_of : List ℕ → Option ℕ
element_of [] = None
element_of (c ∷ []) = if c == 39 then None else if string_byte c then Some c else None
element_of (c ∷ d ∷ rest) =
    if c == 39 then (if d == 39 then Some 39 else None)
    else if string_byte c then Some c else None

-- ---- comments (6.1.8)

-- the length of the `{` or `(*` at the front of a text at which a comment opens
abbrev pub opening_len : List ℕ → ℕ
opening_len [] = 0
opening_len (c ∷ rest) = if c == 123 then 1 else 2

-- the length of the `}` or `*)` at the front of a text
abbrev pub closing_len : List ℕ → Option ℕ
closing_len [] = None
closing_len (c ∷ []) = if c == 125 then Some 1 else None
closing_len (c ∷ d ∷ rest) = if c == 125 then Some 1 else if c == 42 && d == 41 then Some 2 else None

-- the length of a text up to its first closing, and with it
abbrev pub closed_len : List ℕ → Option ℕ
closed_len [] = None
closed_len (c ∷ cs) = first_of_two (closing_len (c ∷ cs)) (option_map (λ n. n + 1) (closed_len cs))
