-- Where operands are: the addressing modes of the PDP-11/40 Processor Handbook, chapter 3.
--
-- This project's own, where the handbook leaves it open: the words of operands are fetched one by one, each when its
-- operand's address is worked out, and PC steps once its word is fetched; a register change remains once it is made,
-- also where a bus trap follows.
use Rattle.std.specs.Prelude.{ℕ, ◌+◌, ◌-◌, ◌*◌, ◌/◌, ◌%◌, ◌<◌, Bool, ◌&&◌, nat_lt, nat_le, nat_eq, if◌then◌else◌, Option, Some, None, slice_index}
use Rattle.pdp11_machine.specs.declared.Place.{Place}
use Rattle.pdp11_machine.specs.declared.size.TheConstants.{MEMORY_BYTES, REGISTERS}
use Rattle.pdp11_machine.specs.declared.Place.TheVariants.{Register, Cell}
use Rattle.pdp11_machine.specs.State.{MachineState, Flags, reg, with_reg, is_place, word_at, with_word}

-- a step that may come to a bus trap (none), and then another; after a bus trap the second is not made
abbrev pub and_then : {A B : Type 0} → MachineState × Option A → (MachineState → A → MachineState × Option B) → MachineState × Option B
and_then (s, None) f = (s, None)
and_then (s, Some x) f = f s x

-- the next word of the program; PC steps once it is fetched
abbrev pub after_fetch : MachineState → MachineState × Option ℕ
after_fetch s =
    if is_place (reg s 7)
    then (with_reg s 7 ((reg s 7 + 2) % 65536), Some (slice_index s.memory (reg s 7 / 2)))
    else (s, None)

-- a register steps by 1 where it goes over bytes, but SP and PC always by 2, since they point to words
abbrev pub step_of : Bool → ℕ → ℕ
step_of bytes r = if bytes && nat_lt r 6 then 1 else 2

-- the address in a register, which then steps up; at PC the step is that of a fetch
abbrev pub after_increment : Bool → ℕ → MachineState → MachineState × Option ℕ
after_increment bytes r s =
    if nat_eq r 7
    then and_then (after_fetch s) (λ t _. (t, Some (reg s 7)))
    else (with_reg s r ((reg s r + step_of bytes r) % 65536), Some (reg s r))

-- the address in a register that has stepped down before
abbrev pub after_decrement : Bool → ℕ → MachineState → MachineState × Option ℕ
after_decrement bytes r s =
    let below = (reg s r + (65536 - step_of bytes r)) % 65536 in (with_reg s r below, Some below)

-- the sum of a register and the next word of the program; PC counts as it is after that word's fetch
abbrev pub after_index : ℕ → MachineState → MachineState × Option ℕ
after_index r s = and_then (after_fetch s) (λ t x. (t, Some ((reg t r + x) % 65536)))

-- the address itself, or, in a deferred mode, the word there
abbrev pub deferred_address : Bool → MachineState → ℕ → Option ℕ
deferred_address deferred s a = if deferred then word_at s a else Some a

-- the same as a step, which changes nothing
abbrev pub after_deferral : Bool → MachineState → ℕ → MachineState × Option ℕ
after_deferral deferred s a = (s, deferred_address deferred s a)

-- the address of an operand that is no register, of a word or a byte
abbrev pub operand_address : Bool → ℕ → ℕ → MachineState → MachineState × Option ℕ
operand_address byte mode r s =
    if nat_eq mode 1 then (s, Some (reg s r))  -- (R)
    else (if nat_le mode 3 then  -- (R)+, @(R)+
    and_then (after_increment (byte && nat_eq mode 2) r s) (after_deferral (nat_eq mode 3))
    else (if nat_le mode 5 then  -- -(R), @-(R)
    and_then (after_decrement (byte && nat_eq mode 4) r s) (after_deferral (nat_eq mode 5))
    else and_then (after_index r s) (after_deferral (nat_eq mode 7))))  -- X(R), @X(R)

-- the register of a place is one of the eight
abbrev pub IsRegistered : Place → Type 0
IsRegistered (Register r) = r < REGISTERS
IsRegistered (Cell a) = Unit {0}

-- where an operand is: mode 0 is the register itself, and every other mode an address
abbrev pub operand_place : Bool → ℕ → ℕ → MachineState → MachineState × Option Place
operand_place byte mode r s =
    if nat_eq mode 0 then (s, Some (Register r))
    else and_then (operand_address byte mode r s) (λ t a. (t, Some (Cell a)))

-- the byte at an address: the low byte of a word at its even address, the high byte at the odd one
abbrev pub byte_at : MachineState → ℕ → Option ℕ
byte_at s a =
    if nat_lt a MEMORY_BYTES
    then Some (if nat_eq (a % 2) 0 then slice_index s.memory (a / 2) % 256 else slice_index s.memory (a / 2) / 256)
    else None

-- a word of which the byte of this address is replaced
abbrev pub with_byte : ℕ → ℕ → ℕ → ℕ
with_byte a word byte =
    if nat_eq (a % 2) 0 then word / 256 * 256 + byte % 256 else byte % 256 * 256 + word % 256

-- the word at a place
abbrev pub word_in : MachineState → Place → Option ℕ
word_in s (Register r) = Some (reg s r)
word_in s (Cell a) = word_at s a

-- the byte at a place; a register's is its low one
abbrev pub byte_in : MachineState → Place → Option ℕ
byte_in s (Register r) = Some (reg s r % 256)
byte_in s (Cell a) = byte_at s a

-- the byte or word at a place
abbrev pub value_in : Bool → MachineState → Place → Option ℕ
value_in byte s p = if byte then byte_in s p else word_in s p

-- a word is stored at a place
abbrev pub after_store : MachineState → Place → ℕ → MachineState × Option Unit
after_store s (Register r) word = (with_reg s r word, Some tt)
after_store s (Cell a) word = if is_place a then (with_word s a word, Some tt) else (s, None)

-- a byte is stored at a place; a register keeps its high byte
abbrev pub after_byte_store : MachineState → Place → ℕ → MachineState × Option Unit
after_byte_store s (Register r) byte = (with_reg s r (reg s r / 256 * 256 + byte % 256), Some tt)
after_byte_store s (Cell a) byte =
    if nat_lt a MEMORY_BYTES
    then (with_word s a (with_byte a (slice_index s.memory (a / 2)) byte), Some tt)
    else (s, None)

-- a byte or a word is stored at a place
abbrev pub after_value_store : Bool → MachineState → Place → ℕ → MachineState × Option Unit
after_value_store byte s p value = if byte then after_byte_store s p value else after_store s p value

-- the flags are set once a store was not stopped by a bus trap (this project's own: at a bus trap they stay)
abbrev pub with_flags : Flags → MachineState × Option Unit → MachineState × Option Unit
with_flags f p = and_then p (λ s _. (record s { flags = f }, Some tt))
