-- What clauses see of a machine, and its smallest parts: the memory, the general registers and the processor status
-- word of the PDP-11/40 Processor Handbook, chapters 2 and 3.
use Rattle.std.specs.Prelude.{◌≡◌, ℕ, ◌+◌, ◌*◌, ◌/◌, ◌%◌, ◌<◌, Bool, false, ◌&&◌, nat_lt, nat_eq, if◌then◌else◌, Option, Some, None, List, length, slice_index, slice_set, replicate}
use Rattle.pdp11_arithmetic.specs.Bits.{bit_of}
use Rattle.pdp11_machine.specs.declared.size.TheConstants.{MEMORY_BYTES, MEMORY_WORDS, REGISTERS}

-- the condition codes N, Z, V and C
pub record Flags : Type 0 where
  pub negative : Bool
  pub zero : Bool
  pub overflow : Bool
  pub carry : Bool

-- the words of the memory; R0 to R5, SP (6) and PC (7); the condition codes; and bits 4 to 15 of the status word, which
-- are kept and have no effect
pub record MachineState : Type 0 where
  pub memory : List ℕ
  pub registers : List ℕ
  pub flags : Flags
  pub upper : ℕ

-- the word in a register
abbrev pub reg : MachineState → ℕ → ℕ
reg s r = slice_index s.registers r

-- the machine with this word in a register
abbrev pub with_reg : MachineState → ℕ → ℕ → MachineState
with_reg s r word = record s { registers = slice_set s.registers r word }

-- the address is that of a word of the memory
abbrev pub is_place : ℕ → Bool
is_place a = nat_eq (a % 2) 0 && nat_lt a MEMORY_BYTES

-- the word at an address, or none at a bus trap
abbrev pub word_at : MachineState → ℕ → Option ℕ
word_at s a = if is_place a then Some (slice_index s.memory (a / 2)) else None

-- the machine with this word at an even address
abbrev pub with_word : MachineState → ℕ → ℕ → MachineState
with_word s a word = record s { memory = slice_set s.memory (a / 2) word }

-- the processor status word: N Z V C are bits 3 to 0
abbrev pub status_of : MachineState → ℕ
status_of s =
    16 * s.upper + 8 * bit_of s.flags.negative + 4 * bit_of s.flags.zero + 2 * bit_of s.flags.overflow + bit_of s.flags.carry

-- the condition codes in a status word
abbrev pub flags_in : ℕ → Flags
flags_in word = record {
  negative = nat_eq (word / 8 % 2) 1;
  zero = nat_eq (word / 4 % 2) 1;
  overflow = nat_eq (word / 2 % 2) 1;
  carry = nat_eq (word % 2) 1;
}

-- the machine with this status word
abbrev pub with_status : MachineState → ℕ → MachineState
with_status s word = record s { flags = flags_in word; upper = word / 16 }

-- what is so of every machine
pub record IsMachine (s : MachineState) : Type 0 where
  pub memory_length : length s.memory ≡ MEMORY_WORDS
  pub register_count : length s.registers ≡ REGISTERS
  pub upper_bits : s.upper < 0o10000

-- zero memory, registers and status
unfoldable pub zero_machine : MachineState
zero_machine = record {
  memory = replicate MEMORY_WORDS 0;
  registers = replicate REGISTERS 0;
  flags = record { negative = false; zero = false; overflow = false; carry = false };
  upper = 0;
}
