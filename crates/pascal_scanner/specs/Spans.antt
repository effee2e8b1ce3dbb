-- Where tokens stand in their text.
use Rattle.std.specs.Prelude.{ℕ, ◌<◌, ◌≤◌, List, [], ◌∷◌, drop, length}
use Rattle.dice_base.specs.declared.token.Token.{Token}
use Rattle.dice_base.specs.Lexemes.{Takes, LexesTo}

-- between these two places of the text nothing but separators and comments stands
abbrev pub IsGap : List ℕ → ℕ → ℕ → Type 0
IsGap text from to = (from ≤ to) × LexesTo (drop to text) (drop from text) []

-- between these two places of the text, the tokens are taken where their spans say, and all else is gaps
abbrev pub StandWithin : List ℕ → ℕ → ℕ → List Token → Type 0
StandWithin text from to [] = IsGap text from to
StandWithin text from to (t ∷ ts) =
    IsGap text from t.span.from × (t.span.from < t.span.to)
    × Takes (drop t.span.from text) t.kind (drop t.span.to text) × StandWithin text t.span.to to ts

-- the tokens stand in the text in order
abbrev pub Stand : List ℕ → List Token → Type 0
Stand text tokens = StandWithin text 0 (length text) tokens
