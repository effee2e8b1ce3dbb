-- The tokens of a text (ISO 7185:1990, 6.1). The bytes are those of ASCII.
--
-- This is a profile of the standard: a text is cut by longest match alone, numbers are unsigned integers up to 32767,
-- the characters of a string are tab and 32 to 126, any byte may stand in a comment, and `#` is a token of its own.
use Rattle.std.specs.Prelude.{◌≡◌, ℕ, ◌+◌, ◌*◌, ◌-◌, ◌<◌, ◌≤◌, Bool, true, false, ◌&&◌, ◌||◌, ◌==◌, nat_le, if◌then◌else◌, List, [], ◌∷◌, ◌++◌, map, length, codes, Option, Some, None, bytes_eq}
use Rattle.std.specs.List.{position_from, AllByRecursion}
use Rattle.dice_base.specs.declared.byte.ByteClass.{ByteClass}
use Rattle.dice_base.specs.declared.byte.ByteClass.TheVariants.{Letter, Digit, Separator, Mark}
use Rattle.dice_base.specs.declared.token.TokenKind.{TokenKind}
use Rattle.dice_base.specs.declared.token.TokenKind.TheVariants.{Word, Ident, Number, Str, Sign, Hole}
use Rattle.dice_base.specs.declared.symbols.TheConstants.{WORD_SYMBOLS, SIGNS}

-- the letters of either case; 0 to 9; tab, line feed, carriage return and space; and all others
abbrev pub class : ℕ → ByteClass
class c =
    if (nat_le 65 c && nat_le c 90) || (nat_le 97 c && nat_le c 122) then Letter
    else if nat_le 48 c && nat_le c 57 then Digit
    else if c == 9 || c == 10 || c == 13 || c == 32 then Separator
    else Mark

abbrev pub is_letter : ByteClass → Bool
is_letter Letter = true
is_letter _ = false

abbrev pub is_digit : ByteClass → Bool
is_digit Digit = true
is_digit _ = false

-- a byte of a number, and one behind the first letter of an identifier
abbrev pub digit_byte : ℕ → Bool
digit_byte c = is_digit (class c)

abbrev pub word_byte : ℕ → Bool
word_byte c = is_letter (class c) || is_digit (class c)

-- a character of a string: tab, or space to `~`
abbrev pub string_byte : ℕ → Bool
string_byte c = c == 9 || (nat_le 32 c && nat_le c 126)

-- the largest number, maxint (6.7.2.2)
abbrev pub largest_number : ℕ
largest_number = 32767

-- the value of decimal digits
abbrev pub value_from : ℕ → List ℕ → ℕ
value_from n [] = n
value_from n (c ∷ w) = value_from (10 * n + (c - 48)) w

abbrev pub value_of : List ℕ → ℕ
value_of = value_from 0

-- letters of either case are alike
abbrev pub lower : ℕ → ℕ
lower c = if nat_le 65 c && nat_le c 90 then c + 32 else c

-- the place of a text in a table
abbrev pub place_of : List (List ℕ) → List ℕ → Option ℕ
place_of table w = position_from (λ entry. bytes_eq entry w) 0 table

-- the number of a word symbol, and of a sign
unfoldable pub word_symbol : List ℕ → Option ℕ
word_symbol = place_of (map (λ w. w.now) WORD_SYMBOLS)

unfoldable pub sign_of : List ℕ → Option ℕ
sign_of = place_of (map (λ s. s.now) SIGNS)

-- the sign that an alternative token is (6.1.9)
unfoldable pub alternative_of : List ℕ → Option ℕ
alternative_of w =
    if bytes_eq w (codes "@") then sign_of (codes "^")
    else if bytes_eq w (codes "(.") then sign_of (codes "[")
    else if bytes_eq w (codes ".)") then sign_of (codes "]")
    else None

-- the characters of a string with each apostrophe twice (6.1.7)
abbrev pub doubled_apostrophes : List ℕ → List ℕ
doubled_apostrophes [] = []
doubled_apostrophes (c ∷ cs) =
    if c == 39 then 39 ∷ 39 ∷ doubled_apostrophes cs else c ∷ doubled_apostrophes cs

-- a word symbol, and any other word is an identifier
abbrev pub named_by : Option ℕ → List ℕ → TokenKind
named_by (Some k) w = Word k
named_by None w = Ident w

abbrev pub named : List ℕ → TokenKind
named w = named_by (word_symbol (map lower w)) (map lower w)

-- the text is one token
pub data Lexeme : List ℕ → TokenKind → Type 0 where
  word : (c : ℕ) (cs : List ℕ) → class c ≡ Letter → AllByRecursion (λ b. word_byte b ≡ true) cs → Lexeme (c ∷ cs) (named (c ∷ cs))
  number : (c : ℕ) (cs : List ℕ) → class c ≡ Digit → AllByRecursion (λ b. digit_byte b ≡ true) cs → value_of (c ∷ cs) ≤ largest_number → Lexeme (c ∷ cs) (Number (value_of (c ∷ cs)))
  string : (cs : List ℕ) → 0 < length cs → AllByRecursion (λ b. string_byte b ≡ true) cs
      → Lexeme (39 ∷ doubled_apostrophes cs ++ 39 ∷ []) (Str cs)
  sign : (w : List ℕ) (k : ℕ) → sign_of w ≡ Some k → Lexeme w (Sign k)
  alternative : (w : List ℕ) (k : ℕ) → alternative_of w ≡ Some k → Lexeme w (Sign k)
  hole : Lexeme (35 ∷ []) Hole

-- what opens a comment (6.1.8)
pub data Opens : List ℕ → Type 0 where
  brace_opens : Opens (codes "{")
  star_opens : Opens (codes "(*")

-- what closes a comment; it need not match what opened it
pub data Closes : List ℕ → Type 0 where
  brace_closes : Closes (codes "}")
  star_closes : Closes (codes "*)")

-- the text is a comment: either opening, then a text that contains no closing, then either closing
pub record IsComment (text : List ℕ) : Type 0 where
  pub opening : List ℕ
  pub commentary : List ℕ
  pub closing : List ℕ
  pub parts : text ≡ opening ++ commentary ++ closing
  pub opens : Opens opening
  pub inside : (before w after : List ℕ) → commentary ≡ before ++ w ++ after → Closes w → ⊥
  pub closes : Closes closing

-- a comment opens at the front of a text: `{` or `(*`
abbrev pub opens_comment : List ℕ → Bool
opens_comment [] = false
opens_comment (c ∷ []) = c == 123
opens_comment (c ∷ d ∷ rest) = c == 123 || (c == 40 && d == 42)

-- a string opens at the front of a text
abbrev pub opens_string : List ℕ → Bool
opens_string [] = false
opens_string (c ∷ rest) = c == 39

-- what stands behind a token may stand there: no digit behind a number, and no apostrophe behind a string
abbrev pub MayFollow : TokenKind → List ℕ → Type 0
MayFollow (Number n) (c ∷ rest) = digit_byte c ≡ false
MayFollow (Str s) rest = opens_string rest ≡ false
MayFollow _ _ = Unit {0}

-- the text begins with this token, no longer one begins there, and no comment opens there
pub record Takes (text : List ℕ) (token : TokenKind) (rest : List ℕ) : Type 0 where
  pub lexeme : List ℕ
  pub parts : text ≡ lexeme ++ rest
  pub is : Lexeme lexeme token
  pub longest : (w r : List ℕ) (other : TokenKind) → text ≡ w ++ r → Lexeme w other → length w ≤ length lexeme
  pub follows : MayFollow token rest
  pub plain : opens_comment text ≡ false

-- the text begins with what separates tokens: a blank or an end of line, or a comment
pub data Skips : List ℕ → List ℕ → Type 0 where
  blank : (c : ℕ) (rest : List ℕ) → class c ≡ Separator → Skips (c ∷ rest) rest
  comment : (w rest : List ℕ) → IsComment w → Skips (w ++ rest) rest

-- the text begins with these tokens, up to the rest
pub data LexesTo (rest : List ℕ) : List ℕ → List TokenKind → Type 0 where
  ends : LexesTo rest rest []
  skips : {text more : List ℕ} {tokens : List TokenKind} → Skips text more → LexesTo rest more tokens → LexesTo rest text tokens
  takes : {text more : List ℕ} {token : TokenKind} {tokens : List TokenKind} → Takes text token more → LexesTo rest more tokens → LexesTo rest text (token ∷ tokens)

-- the text is these tokens
abbrev pub Lexes : List ℕ → List TokenKind → Type 0
Lexes text tokens = LexesTo [] text tokens
