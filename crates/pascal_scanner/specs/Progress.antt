-- How far a text was read, token by token (ISO 7185:1990, 6.1).
use Rattle.std.specs.Prelude.{ℕ, ◌<◌, ◌≤◌, List, map, drop, length}
use Rattle.dice_base.specs.declared.token.Token.{Token}
use Rattle.dice_base.specs.declared.token.TokenKind.{TokenKind}
use Rattle.dice_base.specs.Lexemes.{Takes, Skips, LexesTo}
use Rattle.pascal_scanner.specs.declared.front.Step.{Step}
use Rattle.pascal_scanner.specs.declared.front.Step.TheVariants.{Gap, Lexed}
use Rattle.pascal_scanner.specs.declared.front.Stop.{Stop}
use Rattle.pascal_scanner.specs.declared.front.Stop.TheVariants.{Memory, Character, Comment, String, Number}
use Rattle.pascal_scanner.specs.Spans.{StandWithin}
use Rattle.pascal_scanner.specs.Unread.{IsStuck, HasBadCharacter, HasOpenComment, HasOpenString, HasLargeNumber}

-- the kinds of tokens
abbrev pub kinds : List Token → List TokenKind
kinds = map (λ t. t.kind)

-- up to this place the text is these tokens
pub record IsRead (text : List ℕ) (at : ℕ) (tokens : List Token) : Type 0 where
  pub within : at ≤ length text
  pub front : LexesTo (drop at text) text (kinds tokens)
  pub stand : StandWithin text 0 at tokens

-- what stands at the front of a text
abbrev pub Steps : List ℕ → Step → Type 0
Steps text (Gap n) = (0 < n) × (n ≤ length text) × Skips text (drop n text)
Steps text (Lexed kind n) = (0 < n) × (n ≤ length text) × Takes text kind (drop n text)

-- why a text is not read on
abbrev pub Stops : List ℕ → Stop → Type 0
Stops text Memory = Unit {0}
Stops text Character = IsStuck text × HasBadCharacter text
Stops text Comment = IsStuck text × HasOpenComment text
Stops text String = IsStuck text × HasOpenString text
Stops text Number = IsStuck text × HasLargeNumber text
