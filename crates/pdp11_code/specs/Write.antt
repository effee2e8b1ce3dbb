-- How instructions are written as words, and which there are: the instruction formats of the PDP-11/40 Processor
-- Handbook, chapters 3, 4 and 7.
use Rattle.std.specs.Prelude.{◌≡◌, ℕ, ◌+◌, ◌*◌, ◌<◌, Bool, if◌then◌else◌, Option, Some, None, List, [], ◌∷◌, ◌++◌, is_some}
use Rattle.pdp11_code.specs.declared.instr.Ea.{Ea}
use Rattle.pdp11_code.specs.declared.instr.Instr.{Instr}
use Rattle.pdp11_code.specs.declared.instr.Instr.TheVariants.{Two, Extended, One, Jsr, Rts, Sob, Branch, Emt, Trap, Flags, Bare}
use Rattle.pdp11_code.specs.declared.table.Shape.{Shape}
use Rattle.pdp11_code.specs.declared.table.Shape.TheVariants.{DoubleOperand, SingleOperand, RegisterOperand, JumpToSubroutine, ReturnFromSubroutine, SubtractOneAndBranch, BranchOffset, EmulatorTrap, ProgramTrap, ConditionCodes, NoOperand}
use Rattle.pdp11_code.specs.Code.{shape_at, wants_next}

-- bit 15: bytes in place of words, or SUB in place of ADD
abbrev pub high_bit : Bool → ℕ
high_bit high = if high then 0o100000 else 0

-- the six bits of an operand: mode and register
abbrev pub field_of : Ea → ℕ
field_of e = e.mode * 0o10 + e.register

-- the first word, by its fields from the left
abbrev pub first_word : Instr → ℕ
first_word (Two op high source target) =  -- MOV .. ADD, MOVB .. BISB, SUB
    high_bit high + op * 0o10000 + field_of source * 0o100 + field_of target
first_word (Extended op register source) =  -- MUL, DIV, ASH, XOR
    0o070000 + op * 0o1000 + register * 0o100 + field_of source
first_word (Jsr register target) =  -- JSR
    0o004000 + register * 0o100 + field_of target
first_word (Rts register) =  -- RTS
    0o000200 + register
first_word (Sob register back) =  -- SOB
    0o077000 + register * 0o100 + back
first_word (One op high target) =  -- JMP, SWAB, CLR .. ASL, SXT
    high_bit high + op * 0o100 + field_of target
first_word (Branch high low) =  -- BR .. BLE, BPL .. BCS
    high * 0o400 + low
first_word (Emt n) =  -- EMT
    0o104000 + n
first_word (Trap n) =  -- TRAP
    0o104400 + n
first_word (Flags set bits) =  -- NOP, CLC .. CCC, SEC .. SCC
    0o000240 + (if set then 0o20 else 0) + bits
first_word (Bare n) = n  -- HALT, RTI, BPT, IOT, RTT

-- the word that follows an operand, if any
abbrev pub next_words : Option ℕ → List ℕ
next_words None = []
next_words (Some next) = next ∷ []

-- the words that follow the first
abbrev pub following_words : Instr → List ℕ
following_words (Two op high source target) = next_words source.next ++ next_words target.next
following_words (Extended op register source) = next_words source.next
following_words (One op high target) = next_words target.next
following_words (Jsr register target) = next_words target.next
following_words _ = []

-- the words of an instruction
abbrev pub words_of : Instr → List ℕ
words_of i = first_word i ∷ following_words i

-- an operand: a word follows exactly where its mode and register want one
abbrev pub IsEa : Ea → Type 0
IsEa e = (e.mode < 8) × (e.register < 8) × (is_some e.next ≡ wants_next e.mode e.register)

-- the first word stands in a row of this shape
abbrev pub HasShape : Instr → Shape → Type 0
HasShape i shape = shape_at (first_word i) ≡ Some shape

-- an instruction of the table: its fields are in range, and its first word stands in a row of its shape
abbrev pub IsInstr : Instr → Type 0
IsInstr (Two op high source target) =
    (op < 8) × IsEa source × IsEa target × HasShape (Two op high source target) DoubleOperand
IsInstr (Extended op register source) =
    (op < 8) × (register < 8) × IsEa source × HasShape (Extended op register source) RegisterOperand
IsInstr (Jsr register target) =
    (register < 8) × IsEa target × HasShape (Jsr register target) JumpToSubroutine
IsInstr (Rts register) =
    (register < 8) × HasShape (Rts register) ReturnFromSubroutine
IsInstr (Sob register back) =
    (register < 8) × (back < 64) × HasShape (Sob register back) SubtractOneAndBranch
IsInstr (One op high target) =
    (op < 256) × IsEa target × HasShape (One op high target) SingleOperand
IsInstr (Branch high low) = (low < 256) × HasShape (Branch high low) BranchOffset
IsInstr (Emt n) = (n < 256) × HasShape (Emt n) EmulatorTrap
IsInstr (Trap n) = (n < 256) × HasShape (Trap n) ProgramTrap
IsInstr (Flags set bits) = (bits < 16) × HasShape (Flags set bits) ConditionCodes
IsInstr (Bare n) = HasShape (Bare n) NoOperand
