-- How words are read as instructions by the table of src/table.rt: the instruction formats of the PDP-11/40 Processor
-- Handbook, chapters 3, 4 and 7.
--
-- This project's own: all words that stand in no row are reserved, among them JMP and JSR to a register, DIV of an odd
-- register, and WAIT, RESET, MARK, ASHC and the instructions of memory management and of floating point.
use Rattle.std.specs.Prelude.{ℕ, option_and_then, ◌+◌, ◌-◌, ◌/◌, ◌%◌, Bool, ◌&&◌, ◌||◌, nat_lt, nat_le, nat_eq, if◌then◌else◌, Option, Some, None, List, [], ◌∷◌, slice_get, find}
use Rattle.std.specs.Option.{option_map}
use Rattle.pdp11_code.specs.declared.instr.Ea.{Ea}
use Rattle.pdp11_code.specs.declared.instr.Instr.{Instr}
use Rattle.pdp11_code.specs.declared.instr.Instr.TheVariants.{Two, Extended, One, Jsr, Rts, Sob, Branch, Emt, Trap, Flags, Bare}
use Rattle.pdp11_code.specs.declared.table.Shape.{Shape}
use Rattle.pdp11_code.specs.declared.table.Shape.TheVariants.{DoubleOperand, SingleOperand, RegisterOperand, JumpToSubroutine, ReturnFromSubroutine, SubtractOneAndBranch, BranchOffset, EmulatorTrap, ProgramTrap, ConditionCodes, NoOperand}
use Rattle.pdp11_code.specs.declared.table.Row.{Row}
use Rattle.pdp11_code.specs.declared.table.TheConstants.{ROWS}

-- the word stands in the row
abbrev pub is_in : ℕ → Row → Bool
is_in word row = nat_le row.first word && nat_lt (word - row.first) row.count

-- how a word is read, or none where it is reserved
abbrev pub shape_at : ℕ → Option Shape
shape_at word = option_map (λ row. row.shape) (find (is_in word) ROWS)

-- a word follows the operand: an index, or an immediate operand or an absolute address, which PC steps over
abbrev pub wants_next : ℕ → ℕ → Bool
wants_next mode register = nat_le 6 mode || (nat_eq register 7 && (nat_eq mode 2 || nat_eq mode 3))

-- the operand in the six low bits of the field, its word at this index, and the index after it
abbrev pub ea_at : List ℕ → ℕ → ℕ → Option (Ea × ℕ)
ea_at words at field =
    let mode = field / 0o10 % 8 in
    let register = field % 8 in
    if wants_next mode register
    then option_map (λ next. (record { mode = mode; register = register; next = Some next }, at + 1)) (slice_get words at)
    else Some (record { mode = mode; register = register; next = None }, at)

-- the instruction of this shape that begins with the word, and how many words it has
abbrev pub read_as : Shape → ℕ → List ℕ → Option (Instr × ℕ)
read_as DoubleOperand word words =
    option_and_then (λ s.
    option_map (λ d. (Two (word / 0o10000 % 8) (nat_le 0o100000 word) s.0 d.0, d.1)) (ea_at words s.1 word))
    (ea_at words 1 (word / 0o100))
read_as SingleOperand word words =
    option_map (λ d. (One (word / 0o100 % 0o400) (nat_le 0o100000 word) d.0, d.1)) (ea_at words 1 word)
read_as RegisterOperand word words =
    option_map (λ d. (Extended (word / 0o1000 % 8) (word / 0o100 % 8) d.0, d.1)) (ea_at words 1 word)
read_as JumpToSubroutine word words = option_map (λ d. (Jsr (word / 0o100 % 8) d.0, d.1)) (ea_at words 1 word)
read_as ReturnFromSubroutine word words = Some (Rts (word % 8), 1)
read_as SubtractOneAndBranch word words = Some (Sob (word / 0o100 % 8) (word % 0o100), 1)
read_as BranchOffset word words = Some (Branch (word / 0o400) (word % 0o400), 1)
read_as EmulatorTrap word words = Some (Emt (word % 0o400), 1)
read_as ProgramTrap word words = Some (Trap (word % 0o400), 1)
read_as ConditionCodes word words = Some (Flags (nat_eq (word / 0o20 % 2) 1) (word % 0o20), 1)
read_as NoOperand word words = Some (Bare (word % 0o400), 1)

-- the instruction that begins the words, and how many of them it has
abbrev pub instruction_at : List ℕ → Option (Instr × ℕ)
instruction_at [] = None
instruction_at (word ∷ rest) = option_and_then (λ shape. read_as shape word (word ∷ rest)) (shape_at word)
