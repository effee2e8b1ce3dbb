-- What is answered for a list of tokens, unless memory runs out.
use Rattle.std.specs.Prelude.{◌≡◌, ℕ, Bool, if◌then◌else◌, ◌==◌, List, map, length, Result, Ok, Err}
use Rattle.std.specs.declared.alloc.Global.{Global}
use denote.Ref.{MutBor}
use Rattle.dice_base.specs.declared.token.Token.{Token}
use Rattle.dice_base.specs.Tokens.{Toks}
use Rattle.dice_base.specs.Forms.{Form}
use Rattle.token_reader.specs.Readers.{Outcome, Parser, Reads}
use Rattle.token_reader.specs.Faults.{Fault, UnexpectedAt, PassesLevels, EndsInside, Unexpected, TooDeep, EndsEarly, second}
use Rattle.token_reader.specs.declared.stop.Stop.{Stop}
use Rattle.token_reader.specs.declared.stop.Stop.TheVariants.{Memory, At, Deep}
use Rattle.token_reader.specs.declared.fault.ParseFault.{ParseFault}
use Rattle.token_reader.specs.declared.fault.ParseFault.TheVariants as fault

-- the grammar sees the kinds of tokens, not where they stand
abbrev pub kinds : List Token → Toks
kinds tokens = map (λ t. t.kind) tokens

-- what a result says of the tokens: a value that is made of what they spell within n levels, or their fault
abbrev pub Says : {A B : Type 0} → (ℕ → Form A) → ℕ → (A → B) → Toks → Result B ParseFault → Type 0
Says {A} g n make ts (Ok b) = (a : A) × (w : Bool) × (g n).full a w ts × (b ≡ make a)
Says g n make ts (Err (fault.Unexpected i)) = Unexpected g n i ts
Says g n make ts (Err fault.EndsEarly) = EndsEarly g n ts
Says g n make ts (Err fault.TooDeep) = TooDeep g n ts
Says g n make ts (Err fault.NoMemory) = Unit {0}

-- this result, unless memory ran out
abbrev pub IsUnlessMemory : {B : Type 0} → Result B ParseFault → Result B ParseFault → Type 0
IsUnlessMemory (Err fault.NoMemory) v = Unit {0}
IsUnlessMemory (Ok b) v = v ≡ Ok b
IsUnlessMemory (Err (fault.Unexpected i)) v = v ≡ Err (fault.Unexpected i)
IsUnlessMemory (Err fault.EndsEarly) v = v ≡ Err fault.EndsEarly
IsUnlessMemory (Err fault.TooDeep) v = v ≡ Err fault.TooDeep

-- the result says what holds of the tokens, and whatever else holds of them is said, unless memory ran out
pub record IsReading {A B : Type 0} (g : ℕ → Form A) (n : ℕ) (make : A → B) (ts : Toks) (result : Result B ParseFault)
    : Type 0 where
  pub says : Says g n make ts result
  pub only : (v : Result B ParseFault) → (v ≡ Err fault.NoMemory → ⊥) → Says g n make ts v → IsUnlessMemory result v

-- ---- the answer of a reader that is called once, and once more with one level more

abbrev pub Answers : {A : Type 0} → Result A Fault → Result A ParseFault → Type 0
Answers v (Ok a) = v ≡ Ok a
Answers v (Err (fault.Unexpected i)) = v ≡ Err (UnexpectedAt i)
Answers v (Err fault.EndsEarly) = v ≡ Err EndsInside
Answers v (Err fault.TooDeep) = v ≡ Err PassesLevels
Answers v (Err fault.NoMemory) = Unit {0}

-- a result that is made of another: a value of its value, unless memory runs out, or its fault
abbrev pub Makes : {A B : Type 0} → (A → B) → Result A ParseFault → Result B ParseFault → Type 0
Makes make (Ok a) (Ok b) = b ≡ make a
Makes make (Ok a) (Err fault.NoMemory) = Unit {0}
Makes make (Ok a) (Err (fault.Unexpected i)) = ⊥
Makes make (Ok a) (Err fault.EndsEarly) = ⊥
Makes make (Ok a) (Err fault.TooDeep) = ⊥
Makes make (Err e) result = result ≡ Err e

-- of the outcome with one level more, where the first left so many tokens
abbrev pub judged_again : {A : Type 0} → Outcome A → ℕ → ℕ → Result A Fault
judged_again more left n = if length more.1 == left then second more.0 more.1 n else Err PassesLevels

-- of an outcome that comes to this
abbrev pub Settles : {A : Type 0} → Result A Stop → Result A Fault → Result A ParseFault → Type 0
Settles (Ok a) v result = Answers v result
Settles (Err Memory) v result = result ≡ Err fault.NoMemory
Settles (Err At) v result = Answers v result
Settles (Err Deep) v result = Answers v result

-- a function value that may be called with any number of levels, and then answers what the reader answers
pub record ReadsAs {A : Type 0} (p : ℕ → Parser A) (pre : Global → MutBor Toks → ℕ → Type 0)
    (post : Global → MutBor Toks → ℕ → Result A Stop → MutBor Toks → Type 0) : Type 0 where
  pub callable : (alloc : Global) (old : MutBor Toks) (d : ℕ) → pre alloc old d
  pub reads : (alloc : Global) (old new : MutBor Toks) (d : ℕ) (r : Result A Stop) →
      post alloc old d r new → Reads (p d old.now) r new.now
