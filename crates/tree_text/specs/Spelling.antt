-- How a token is written (ISO 7185:1990, 6.1).
use Rattle.std.specs.Prelude.{ℕ, ◌==◌, if◌then◌else◌, List, [], ◌∷◌, ◌++◌, map, slice_index_or}
use Rattle.std.specs.Fmt.{decimal}
use Rattle.dice_base.specs.declared.token.TokenKind.{TokenKind}
use Rattle.dice_base.specs.declared.token.TokenKind.TheVariants.{Word, Ident, Number, Str, Sign, Hole}
use Rattle.dice_base.specs.Lexemes.{doubled_apostrophes}
use Rattle.dice_base.specs.declared.symbols.TheConstants.{WORD_SYMBOLS, SIGNS}

-- the spelling of a word symbol by its number in the table of dice_base, and that of a sign
unfoldable pub word_spelling : ℕ → List ℕ
word_spelling k = slice_index_or (map (λ w. w.now) WORD_SYMBOLS) k []

unfoldable pub sign_spelling : ℕ → List ℕ
sign_spelling k = slice_index_or (map (λ s. s.now) SIGNS) k []

-- a string is written between apostrophes, and `#` is written for what is left out of an own text
unfoldable pub spelling_of : TokenKind → List ℕ
spelling_of (Word k) = word_spelling k
spelling_of (Ident x) = x
spelling_of (Number n) = decimal n
spelling_of (Str x) = 39 ∷ doubled_apostrophes x ++ 39 ∷ []
spelling_of (Sign k) = sign_spelling k
spelling_of Hole = 35 ∷ []
