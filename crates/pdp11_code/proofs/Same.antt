-- What is read is written as the words that were read.
use Rattle.std.proofs.Common.{◌≡◌, ℕ, suc, ◌+◌, ◌/◌, ◌%◌, ◌<◌, Bool, true, false, List, [], ◌∷◌, length, get_or, Option, Some, None, refl, ap, ◌∙◌, take}
use Rattle.std.specs.Prelude.{slice_get, IfSome, option_and_then, nat_le, if◌then◌else◌}
use Rattle.std.specs.Option.{option_map}
use Rattle.pdp11_code.specs.declared.instr.Ea.{Ea}
use Rattle.pdp11_code.specs.declared.instr.Instr.{Instr}
use Rattle.pdp11_code.specs.declared.instr.Instr.TheVariants.{Two, Extended, One, Jsr}
use Rattle.pdp11_code.specs.declared.table.Shape.{Shape}
use Rattle.pdp11_code.specs.declared.table.Shape.TheVariants.{DoubleOperand, SingleOperand, RegisterOperand, JumpToSubroutine, ReturnFromSubroutine, SubtractOneAndBranch, BranchOffset, EmulatorTrap, ProgramTrap, ConditionCodes, NoOperand}
use Rattle.pdp11_code.specs.Code.{shape_at, wants_next, read_as, instruction_at}
use Rattle.pdp11_code.specs.Write.{next_words, following_words, words_of}
use Rattle.pdp11_code.proofs.Laws.{IsListed, first_listed}

-- the words behind the first are those that were read there
abbrev IsFollowed : ℕ → List ℕ → Instr × ℕ → Type 0
IsFollowed w rest read = (read.1 ≡ suc (length (following_words read.0))) × (w ∷ following_words read.0 ≡ take read.1 (w ∷ rest))

-- an instruction of one operand, whatever else it says
one_followed : (w : ℕ) (rest : List ℕ) (mode register : ℕ) (make : Ea → Instr) → ((e : Ea) → following_words (make e) ≡ next_words e.next) → (b : Bool) → IfSome (option_map (λ (d : Ea × ℕ). (make d.0, d.1)) (if b then option_map (λ next. (record { mode = mode; register = register; next = Some next }, 2)) (slice_get (w ∷ rest) 1) else Some (record { mode = mode; register = register; next = None }, 1))) (IsFollowed w rest)
one_followed w [] mode register make same true = tt
one_followed w (x ∷ rest) mode register make same true = rw (same (record { mode = mode; register = register; next = Some x })) (refl, refl)
one_followed w rest mode register make same false = rw (same (record { mode = mode; register = register; next = None })) (refl, refl)

-- an instruction of two operands
two_followed : (w : ℕ) (rest : List ℕ) (op sm sr dm dr : ℕ) (high : Bool) (b c : Bool) → IfSome (option_and_then (λ (s : Ea × ℕ). option_map (λ (d : Ea × ℕ). (Two op high s.0 d.0, d.1)) (if c then option_map (λ next. (record { mode = dm; register = dr; next = Some next }, s.1 + 1)) (slice_get (w ∷ rest) s.1) else Some (record { mode = dm; register = dr; next = None }, s.1))) (if b then option_map (λ next. (record { mode = sm; register = sr; next = Some next }, 2)) (slice_get (w ∷ rest) 1) else Some (record { mode = sm; register = sr; next = None }, 1))) (IsFollowed w rest)
two_followed w [] op sm sr dm dr high true c = tt
two_followed w (x ∷ []) op sm sr dm dr high true true = tt
two_followed w (x ∷ y ∷ rest) op sm sr dm dr high true true = (refl, refl)
two_followed w (x ∷ rest) op sm sr dm dr high true false = (refl, refl)
two_followed w [] op sm sr dm dr high false true = tt
two_followed w (x ∷ rest) op sm sr dm dr high false true = (refl, refl)
two_followed w rest op sm sr dm dr high false false = (refl, refl)

read_followed : (s : Shape) (w : ℕ) (rest : List ℕ) → IfSome (read_as s w (w ∷ rest)) (IsFollowed w rest)
read_followed DoubleOperand w rest = two_followed w rest (w / 4096 % 8) (w / 64 / 8 % 8) (w / 64 % 8) (w / 8 % 8) (w % 8) (nat_le 32768 w) (wants_next (w / 64 / 8 % 8) (w / 64 % 8)) (wants_next (w / 8 % 8) (w % 8))
read_followed SingleOperand w rest = one_followed w rest (w / 8 % 8) (w % 8) (One (w / 64 % 256) (nat_le 32768 w)) (λ e. refl) (wants_next (w / 8 % 8) (w % 8))
read_followed RegisterOperand w rest = one_followed w rest (w / 8 % 8) (w % 8) (Extended (w / 512 % 8) (w / 64 % 8)) (λ e. refl) (wants_next (w / 8 % 8) (w % 8))
read_followed JumpToSubroutine w rest = one_followed w rest (w / 8 % 8) (w % 8) (Jsr (w / 64 % 8)) (λ e. refl) (wants_next (w / 8 % 8) (w % 8))
read_followed ReturnFromSubroutine w rest = (refl, refl)
read_followed SubtractOneAndBranch w rest = (refl, refl)
read_followed BranchOffset w rest = (refl, refl)
read_followed EmulatorTrap w rest = (refl, refl)
read_followed ProgramTrap w rest = (refl, refl)
read_followed ConditionCodes w rest = (refl, refl)
read_followed NoOperand w rest = (refl, refl)

first_followed : (w : ℕ) (rest : List ℕ) → IfSome (instruction_at (w ∷ rest)) (IsFollowed w rest)
first_followed w rest = followed_by w rest (shape_at w)
  where
    followed_by : (w : ℕ) (rest : List ℕ) (o : Option Shape) → IfSome (option_and_then (λ shape. read_as shape w (w ∷ rest)) o) (IsFollowed w rest)
    followed_by w rest None = tt
    followed_by w rest (Some s) = read_followed s w rest

same_by : (w : ℕ) (rest : List ℕ) (o : Option (Instr × ℕ)) → IsListed w o → IfSome o (IsFollowed w rest) → IfSome o (λ read. words_of read.0 ≡ take read.1 (w ∷ rest))
same_by w rest None h k = tt
same_by w rest (Some read) h k = ap (λ x. x ∷ following_words read.0) h.1 ∙ k.1

count_by : (w : ℕ) (rest : List ℕ) (o : Option (Instr × ℕ)) → IfSome o (IsFollowed w rest) → IfSome o (λ read. read.1 ≡ length (words_of read.0))
count_by w rest None k = tt
count_by w rest (Some read) k = k.0

-- what is read is written as the words that were read
pub decoded_same : (words : List ℕ) → ((i : ℕ) → get_or words i 0 < 65536) → IfSome (instruction_at words) (λ read. words_of read.0 ≡ take read.1 words)
decoded_same [] fits = tt
decoded_same (w ∷ rest) fits = same_by w rest (instruction_at (w ∷ rest)) (first_listed w rest (fits 0)) (first_followed w rest)

-- the number that is read counts the words
pub decoded_number : (words : List ℕ) → IfSome (instruction_at words) (λ read. read.1 ≡ length (words_of read.0))
decoded_number [] = tt
decoded_number (w ∷ rest) = count_by w rest (instruction_at (w ∷ rest)) (first_followed w rest)
