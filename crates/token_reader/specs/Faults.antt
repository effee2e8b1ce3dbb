-- What a list of tokens that nothing spells has as its fault, by a form for each number of levels.
use Rattle.std.specs.Prelude.{◌≡◌, ◌⊎◌, ℕ, suc, ◌-◌, Bool, if◌then◌else◌, ◌==◌, [], ◌∷◌, ◌++◌, length, Result, Ok, Err}
use Rattle.dice_base.specs.declared.token.TokenKind.{TokenKind}
use Rattle.dice_base.specs.Tokens.{Toks}
use Rattle.dice_base.specs.Forms.{Form}
use Rattle.token_reader.specs.Readers.{Outcome, Parser, is_deep}
use Rattle.token_reader.specs.declared.stop.Stop.{Stop}

module _ {A : Type 0} (g : ℕ → Form A) where
  -- with at most n levels
  abbrev pub Spelled : ℕ → Toks → Type 0
  Spelled n ts = (a : A) × (w : Bool) × (g n).full a w ts

  -- with any number of levels
  abbrev pub Begins : Toks → Type 0
  Begins ts = (d : ℕ) × (g d).front ts

  abbrev pub SpelledDeep : Toks → Type 0
  SpelledDeep ts = (d : ℕ) × Spelled d ts

  -- the tokens in front of number i begin a spelling within n levels, and with it they begin none at all
  pub record Unexpected (n i : ℕ) (ts : Toks) : Type 0 where
    pub front : Toks
    pub bad : TokenKind
    pub others : Toks
    pub parts : ts ≡ front ++ bad ∷ others
    pub place : length front ≡ i
    pub begins : Begins front
    pub within : (g n).front front
    pub none : Begins (front ++ bad ∷ []) → ⊥

  -- a token that begins a spelling with those in front of it, but not within n levels
  pub record Passes (n : ℕ) (ts : Toks) : Type 0 where
    pub front : Toks
    pub token : TokenKind
    pub others : Toks
    pub parts : ts ≡ front ++ token ∷ others
    pub begins : Begins (front ++ token ∷ [])
    pub none : (g n).front (front ++ token ∷ []) → ⊥

  abbrev pub TooDeep : ℕ → Toks → Type 0
  TooDeep n ts = Passes n ts ⊎ (SpelledDeep ts × (Spelled n ts → ⊥))

  abbrev pub EndsEarly : ℕ → Toks → Type 0
  EndsEarly n ts = (g n).front ts × (SpelledDeep ts → ⊥)

-- ---- what is answered

pub data Fault : Type 0 where
  UnexpectedAt : ℕ → Fault
  PassesLevels : Fault
  EndsInside : Fault

-- of an outcome that is not too deep, for so many tokens
abbrev pub settled : {A : Type 0} → Result A Stop → Toks → ℕ → Result A Fault
settled (Ok a) [] n = Ok a
settled (Ok a) (t ∷ r) n = Err (UnexpectedAt (n - suc (length r)))
settled (Err e) [] n = Err EndsInside
settled (Err e) (t ∷ r) n = Err (UnexpectedAt (n - suc (length r)))

-- of the outcome with one level more, which stops where the first did
abbrev pub second : {A : Type 0} → Result A Stop → Toks → ℕ → Result A Fault
second (Ok a) [] n = Err PassesLevels
second (Ok a) (t ∷ r) n = settled (Ok a) (t ∷ r) n
second (Err e) r n = settled (Err e) r n

abbrev pub judge : {A : Type 0} → Outcome A → Outcome A → ℕ → Result A Fault
judge o more n = if is_deep o.0 then (if length more.1 == length o.1 then second more.0 more.1 n else Err PassesLevels) else settled o.0 o.1 n

-- reads with at most n levels, and once more with one level more where that is too deep
abbrev pub read_whole : {A : Type 0} → (ℕ → Parser A) → ℕ → Toks → Result A Fault
read_whole p n ts = judge (p n ts) (p (suc n) ts) (length ts)

abbrev pub Said : {A : Type 0} → (ℕ → Form A) → ℕ → Toks → Result A Fault → Type 0
Said g n ts (Ok a) = (w : Bool) × (g n).full a w ts
Said g n ts (Err (UnexpectedAt i)) = Unexpected g n i ts
Said g n ts (Err PassesLevels) = TooDeep g n ts
Said g n ts (Err EndsInside) = EndsEarly g n ts
