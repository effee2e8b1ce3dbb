-- The instructions of two operands: PDP-11/40 Processor Handbook, chapter 4, double operand instructions.
--
-- This project's own: the source is fetched before the destination's address is worked out, also where it is a
-- register that the destination's mode steps. At a bus trap the flags stay.
use Rattle.std.specs.Prelude.{ℕ, ◌+◌, ◌-◌, ◌%◌, Bool, true, false, ◌&&◌, nat_lt, nat_le, nat_eq, if◌then◌else◌, Option, Some, bit_and, bit_or}
use Rattle.pdp11_code.specs.declared.instr.Ea.{Ea}
use Rattle.pdp11_machine.specs.declared.Place.{Place}
use Rattle.pdp11_machine.specs.declared.Place.TheVariants.{Register}
use Rattle.pdp11_machine.specs.State.{MachineState, with_reg}
use Rattle.pdp11_machine.specs.Operands.{and_then, operand_place, word_in, value_in, after_store, after_value_store, with_flags}
use Rattle.pdp11_machine.specs.Words.{flags_of, flags_by}
use Rattle.pdp11_arithmetic.specs.Bits.{not}
use Rattle.pdp11_arithmetic.specs.Words.{sum_overflows, difference, difference_leaves}

-- a byte as a word of the same signed value
abbrev pub sign_extension : ℕ → ℕ
sign_extension byte = if nat_le 0o200 byte then 0o177400 + byte else byte

-- a byte is moved into a register with its sign extended, as MOVB alone does
abbrev pub after_move_store : Bool → MachineState → Place → ℕ → MachineState × Option Unit
after_move_store true s (Register r) value = (with_reg s r (sign_extension value), Some tt)
after_move_store byte s target value = after_value_store byte s target value

-- MOV, MOVB: C stays
abbrev pub after_move : Bool → MachineState → ℕ → Place → MachineState × Option Unit
after_move byte s value target =
    with_flags (flags_by byte value false s.flags.carry) (after_move_store byte s target value)

-- CMP, CMPB: source minus destination; C is the borrow
abbrev pub after_compare : Bool → MachineState → ℕ → Place → MachineState × Option Unit
after_compare byte s value target =
    and_then (s, value_in byte s target) (λ t old. (
      record t {
        flags = flags_by byte (difference byte value old) (difference_leaves byte value old) (nat_lt value old);
      },
      Some tt,
    ))

-- BIT, BITB: C stays
abbrev pub after_bit_test : Bool → MachineState → ℕ → Place → MachineState × Option Unit
after_bit_test byte s value target =
    and_then (s, value_in byte s target) (λ t old. (
      record t {
        flags = flags_by byte (bit_and value old) false t.flags.carry;
      },
      Some tt,
    ))

-- an operand becomes this, as the result of a logical instruction: V is cleared, and C stays
abbrev pub after_logic_store : Bool → MachineState → Place → ℕ → MachineState × Option Unit
after_logic_store byte s target value =
    with_flags (flags_by byte value false s.flags.carry) (after_value_store byte s target value)

-- BIC, BICB
abbrev pub after_bit_clear : Bool → MachineState → ℕ → Place → MachineState × Option Unit
after_bit_clear byte s value target =
    and_then (s, value_in byte s target) (λ t old. after_logic_store byte t target (bit_and old (65535 - value)))

-- BIS, BISB
abbrev pub after_bit_set : Bool → MachineState → ℕ → Place → MachineState × Option Unit
after_bit_set byte s value target =
    and_then (s, value_in byte s target) (λ t old. after_logic_store byte t target (bit_or old value))

-- ADD: C is the carry out of bit 15
abbrev pub after_add : MachineState → ℕ → Place → MachineState × Option Unit
after_add s word target =
    and_then (s, word_in s target) (λ t old.
    with_flags (flags_of ((old + word) % 65536) (sum_overflows old word) (nat_le 65536 (old + word)))
    (after_store t target ((old + word) % 65536)))

-- SUB: destination minus source; C is the borrow
abbrev pub after_subtract : MachineState → ℕ → Place → MachineState × Option Unit
after_subtract s word target =
    and_then (s, word_in s target) (λ t old.
    with_flags (flags_of (difference false old word) (difference_leaves false old word) (nat_lt old word))
    (after_store t target (difference false old word)))

-- what an instruction does with its source's value and its destination, by bits 12 to 14 and bit 15
abbrev pub after_operation : ℕ → Bool → MachineState → ℕ → Place → MachineState × Option Unit
after_operation op high s value target =
    if nat_eq op 0o1 then after_move high s value target  -- MOV, MOVB
    else (if nat_eq op 0o2 then after_compare high s value target  -- CMP, CMPB
    else (if nat_eq op 0o3 then after_bit_test high s value target  -- BIT, BITB
    else (if nat_eq op 0o4 then after_bit_clear high s value target  -- BIC, BICB
    else (if nat_eq op 0o5 then after_bit_set high s value target  -- BIS, BISB
    else (if high then after_subtract s value target  -- SUB
    else after_add s value target)))))  -- ADD

-- bit 15 says that the operands are bytes; but ADD and SUB, which it tells apart, have words
abbrev pub is_byte : ℕ → Bool → Bool
is_byte op high = high && not (nat_eq op 0o6)

-- an instruction of two operands
abbrev pub after_double_operand : ℕ → Bool → Ea → Ea → MachineState → MachineState × Option Unit
after_double_operand op high source target s =
    let byte = is_byte op high in
    and_then (operand_place byte source.mode source.register s) (λ s1 p.
    and_then (s1, value_in byte s1 p) (λ s2 value.
    and_then (operand_place byte target.mode target.register s2) (λ s3 q.
    after_operation op high s3 value q)))
