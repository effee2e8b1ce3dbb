-- The instructions of one operand: PDP-11/40 Processor Handbook, chapter 4, single operand instructions, and JMP.
--
-- This project's own: V of SWAB and of SXT is 0; by mode 2 JMP goes to the register as it was before its step. At a bus
-- trap the flags stay.
use Rattle.std.specs.Prelude.{ℕ, ◌+◌, ◌*◌, ◌/◌, ◌%◌, Bool, true, false, nat_eq, if◌then◌else◌, Option, Some}
use Rattle.pdp11_code.specs.declared.instr.Ea.{Ea}
use Rattle.pdp11_arithmetic.specs.declared.outcome.Outcome.{Outcome}
use Rattle.pdp11_machine.specs.State.{MachineState, Flags, with_reg}
use Rattle.pdp11_arithmetic.specs.Bits.{not}
use Rattle.pdp11_machine.specs.Operands.{and_then, operand_address, operand_place, word_in, value_in, after_store, after_value_store, with_flags}
use Rattle.pdp11_machine.specs.Words.{flags_of, flags_by}
use Rattle.pdp11_arithmetic.specs.Outcome.{outcome_of}

-- JMP: PC goes to the operand's address, which may be odd
abbrev pub after_jump : Ea → MachineState → MachineState × Option Unit
after_jump target s =
    and_then (operand_address false target.mode target.register s) (λ t a. (with_reg t 7 a, Some tt))

-- CLR, CLRB
abbrev pub after_clear : Bool → Ea → MachineState → MachineState × Option Unit
after_clear byte target s =
    and_then (operand_place byte target.mode target.register s) (λ t p.
    with_flags (flags_of 0 false false) (after_value_store byte t p 0))

-- TST, TSTB
abbrev pub after_test : Bool → Ea → MachineState → MachineState × Option Unit
after_test byte target s =
    and_then (operand_place byte target.mode target.register s) (λ t p.
    and_then (t, value_in byte t p) (λ u v. (record u { flags = flags_by byte v false false }, Some tt)))

-- SWAB; N and Z are by the new low byte
abbrev pub after_swap : Ea → MachineState → MachineState × Option Unit
after_swap target s =
    and_then (operand_place false target.mode target.register s) (λ t p.
    and_then (t, word_in t p) (λ u v.
    with_flags (flags_by true (v / 256) false false) (after_store u p (v / 256 + v % 256 * 256))))

-- SXT: -1 or 0 by N; Z is set where N is 0
abbrev pub after_sign_extend : Ea → MachineState → MachineState × Option Unit
after_sign_extend target s =
    and_then (operand_place false target.mode target.register s) (λ t p.
    with_flags (record t.flags { zero = not t.flags.negative; overflow = false })
    (after_store t p (if t.flags.negative then 0o177777 else 0)))

-- the flags of what an instruction made of its operand
abbrev pub flags_after : Bool → Outcome → Flags
flags_after byte made = flags_by byte made.value made.overflow made.carry

-- the instructions that put a new value in place of the old one
abbrev pub after_change : ℕ → Bool → Ea → MachineState → MachineState × Option Unit
after_change op byte target s =
    and_then (operand_place byte target.mode target.register s) (λ t p.
    and_then (t, value_in byte t p) (λ u v.
    with_flags (flags_after byte (outcome_of op byte u.flags.carry v))
    (after_value_store byte u p (outcome_of op byte u.flags.carry v).value)))

-- an instruction of one operand, by bits 6 to 14 and bit 15
abbrev pub after_single_operand : ℕ → Bool → Ea → MachineState → MachineState × Option Unit
after_single_operand op high target s =
    if nat_eq op 0o001 then after_jump target s  -- JMP
    else (if nat_eq op 0o003 then after_swap target s  -- SWAB
    else (if nat_eq op 0o050 then after_clear high target s  -- CLR, CLRB
    else (if nat_eq op 0o057 then after_test high target s  -- TST, TSTB
    else (if nat_eq op 0o067 then after_sign_extend target s  -- SXT
    else after_change op high target s))))  -- COM .. SBC, ROR .. ASL
