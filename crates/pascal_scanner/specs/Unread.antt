-- Where the reading of a text stops.
use Rattle.std.specs.Prelude.{◌≡◌, ℕ, ◌+◌, ◌<◌, List, ◌++◌, length, true, false}
use Rattle.std.specs.List.{AllByRecursion}
use Rattle.dice_base.specs.declared.token.TokenKind.{TokenKind}
use Rattle.dice_base.specs.declared.token.TokenKind.TheVariants.{Number}
use Rattle.dice_base.specs.Lexemes.{digit_byte, value_of, largest_number, opens_comment, opens_string, Takes, Skips, LexesTo, Lexes, MayFollow}
use Rattle.pascal_scanner.specs.declared.fault.ScanFault.{ScanFault}
use Rattle.pascal_scanner.specs.declared.fault.ScanFault.TheVariants.{BadCharacter, OpenComment, OpenString, NumberTooLarge, TextTooLong, NoMemory}
use Rattle.pascal_scanner.specs.declared.limits.TheConstants.{MAX_TEXT_BYTES}

-- a text begins with no token and with nothing that stands between tokens
pub record IsStuck (text : List ℕ) : Type 0 where
  pub some : 0 < length text
  pub no_token : (token : TokenKind) (rest : List ℕ) → Takes text token rest → ⊥
  pub no_gap : (rest : List ℕ) → Skips text rest → ⊥

-- ---- why it is stuck: each reason excludes the others

-- a comment opens, and as the text is stuck, it is not closed
abbrev pub HasOpenComment : List ℕ → Type 0
HasOpenComment text = opens_comment text ≡ true

-- a string opens, and as the text is stuck, it is not closed, or has no character
abbrev pub HasOpenString : List ℕ → Type 0
HasOpenString text = opens_string text ≡ true

-- a text begins with the digits of a number that is too large
pub record HasLargeNumber (text : List ℕ) : Type 0 where
  pub digits : List ℕ
  pub rest : List ℕ
  pub parts : text ≡ digits ++ rest
  pub all : AllByRecursion (λ b. digit_byte b ≡ true) digits
  pub last : MayFollow (Number 0) rest
  pub large : largest_number < value_of digits

-- a text begins with a byte that is no digit
abbrev pub HasNoDigit : List ℕ → Type 0
HasNoDigit text = MayFollow (Number 0) text

-- no comment, no string and no number opens
pub record HasBadCharacter (text : List ℕ) : Type 0 where
  pub no_comment : opens_comment text ≡ false
  pub no_string : opens_string text ≡ false
  pub no_digit : HasNoDigit text

-- ---- what a fault says

-- the text before this place is tokens, and at this place it cannot be read on, for this reason
pub record IsUnread (text : List ℕ) (at : ℕ) (Reason : List ℕ → Type 0) : Type 0 where
  pub tokens : List TokenKind
  pub left : List ℕ
  pub front : LexesTo left text tokens
  pub place : length text ≡ at + length left
  pub stuck : IsStuck left
  pub reason : Reason left

-- no list of tokens is the text
abbrev pub HasNoTokens : List ℕ → Type 0
HasNoTokens text = (tokens : List TokenKind) → Lexes text tokens → ⊥

-- what a fault says of the text; of want of memory nothing
abbrev pub Reports : ScanFault → List ℕ → Type 0
Reports (BadCharacter at) text = IsUnread text at HasBadCharacter × HasNoTokens text
Reports (OpenComment at) text = IsUnread text at HasOpenComment × HasNoTokens text
Reports (OpenString at) text = IsUnread text at HasOpenString × HasNoTokens text
Reports (NumberTooLarge at) text = IsUnread text at HasLargeNumber × HasNoTokens text
Reports TextTooLong text = MAX_TEXT_BYTES < length text
Reports NoMemory text = Unit {0}
