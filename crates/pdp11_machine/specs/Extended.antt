-- The instructions of a register and an operand: PDP-11/40 Processor Handbook, chapter 7, extended instruction set, and
-- XOR of chapter 4.
--
-- This project's own: all flags of MUL, DIV and ASH; a pair that stays where it cannot be divided; and the register,
-- which is taken after the operand's address is worked out, but that of XOR, its source, before.
use Rattle.std.specs.Prelude.{ℕ, ◌+◌, ◌-◌, ◌*◌, ◌/◌, ◌%◌, ◌^◌, Bool, true, false, nat_lt, nat_le, nat_eq, if◌then◌else◌, Option, Some, None, bit_xor}
use Rattle.pdp11_code.specs.declared.instr.Ea.{Ea}
use Rattle.pdp11_machine.specs.State.{MachineState, Flags, reg, with_reg}
use Rattle.pdp11_machine.specs.Operands.{and_then, operand_place, word_in}
use Rattle.pdp11_machine.specs.Words.{flags_of}
use Rattle.pdp11_machine.specs.Double.{after_logic_store}
use Rattle.pdp11_arithmetic.specs.Bits.{differs}
use Rattle.pdp11_arithmetic.specs.Arithmetic.{is_negative, leaves_word, product, product_magnitude, division, wide_left, wide_right, sign_changes}

-- the second register of a pair: the one after an even register, and an odd one itself
abbrev pub pair_of : ℕ → ℕ
pair_of r = r / 2 * 2 + 1

-- the flags of a product of 32 bits: C where it does not fit a signed word
abbrev pub product_flags : ℕ → ℕ → Flags
product_flags a b = record {
  negative = nat_le 2_147_483_648 (product a b);
  zero = nat_eq (product a b) 0;
  overflow = false;
  carry = leaves_word (differs (is_negative a) (is_negative b)) (product_magnitude a b);
}

-- an even register and the next take both words of a product, an odd one the low word
abbrev pub with_product : ℕ → ℕ → MachineState → MachineState
with_product r p s =
    if nat_eq (r % 2) 0
    then with_reg (with_reg s r (p / 65536)) (pair_of r) (p % 65536)
    else with_reg s r (p % 65536)

-- MUL
abbrev pub after_multiply : ℕ → ℕ → MachineState → MachineState
after_multiply r word s =
    record (with_product r (product (reg s r) word) s) { flags = product_flags (reg s r) word }

-- the flags of a division that gives nothing: C tells a division by 0 from a quotient that fits no word
abbrev pub undivided_flags : Bool → Flags
undivided_flags by_zero = record { negative = false; zero = false; overflow = true; carry = by_zero }

-- the quotient is stored in the register, and the remainder in the next; where there is none, both stay
abbrev pub with_division : ℕ → MachineState → Option (ℕ × ℕ) → MachineState
with_division r s None = record s { flags = undivided_flags false }
with_division r s (Some found) =
    record (with_reg (with_reg s r found.0) (pair_of r) found.1) { flags = flags_of found.0 false false }

-- DIV: an even register and the next, by the operand
abbrev pub after_divide : ℕ → ℕ → MachineState → MachineState
after_divide r word s =
    if nat_eq word 0
    then record s { flags = undivided_flags true }
    else with_division r s (division (reg s r) (reg s (pair_of r)) word)

-- ASH to the left: V tells that the sign changed on the way, and C is the last bit that went out
abbrev pub after_left_shift : ℕ → ℕ → MachineState → MachineState
after_left_shift r count s =
    let wide = wide_left (reg s r) count in
    record (with_reg s r (wide % 65536)) {
      flags = flags_of (wide % 65536) (sign_changes (reg s r) count) (nat_eq (wide / 65536 % 2) 1);
    }

-- ASH to the right: C is the last bit that went out
abbrev pub after_right_shift : ℕ → ℕ → MachineState → MachineState
after_right_shift r count s =
    let wide = wide_right (reg s r) in
    record (with_reg s r (wide / 2 ^ count % 65536)) {
      flags = flags_of (wide / 2 ^ count % 65536) false (nat_eq (wide / 2 ^ (count - 1) % 2) 1);
    }

-- ASH: the low six bits of the operand are a signed count, of shifts to the left or, below 0, to the right
abbrev pub after_shift : ℕ → ℕ → MachineState → MachineState
after_shift r word s =
    if nat_lt (word % 64) 32 then after_left_shift r (word % 64) s else after_right_shift r (64 - word % 64) s

-- what an instruction does with a register and its operand's word, by bits 9 to 11
unfoldable pub after_arithmetic : ℕ → ℕ → ℕ → MachineState → MachineState
after_arithmetic op r word s =
    if nat_eq op 0o0 then after_multiply r word s  -- MUL
    else (if nat_eq op 0o1 then after_divide r word s  -- DIV
    else after_shift r word s)  -- ASH

-- XOR: the register is the source, and the operand the destination
abbrev pub after_exclusive_or : ℕ → Ea → MachineState → MachineState × Option Unit
after_exclusive_or r target s =
    let word = reg s r in
    and_then (operand_place false target.mode target.register s) (λ t p.
    and_then (t, word_in t p) (λ u old. after_logic_store false u p (bit_xor old word)))

-- MUL, DIV and ASH, by an operand
abbrev pub after_operand_arithmetic : ℕ → ℕ → Ea → MachineState → MachineState × Option Unit
after_operand_arithmetic op r source s =
    and_then (operand_place false source.mode source.register s) (λ t p.
    and_then (t, word_in t p) (λ u word. (after_arithmetic op r word u, Some tt)))

-- an instruction of a register and an operand, by bits 9 to 11
abbrev pub after_register_operand : ℕ → ℕ → Ea → MachineState → MachineState × Option Unit
after_register_operand op r operand s =
    if nat_eq op 0o4 then after_exclusive_or r operand s  -- XOR
    else after_operand_arithmetic op r operand s  -- MUL, DIV, ASH
