-- Branches, condition codes, subroutines and returns from traps: PDP-11/40 Processor Handbook, chapter 4, program
-- control and miscellaneous instructions.
--
-- This project's own: by mode 2 JSR goes to the register as it was before its step; JSR SP pushes SP as it is after the
-- step of that push; SP has stepped where a push or a pop comes to a bus trap; RTI and RTT are alike, and load all
-- sixteen bits of PS.
use Rattle.std.specs.Prelude.{ℕ, ◌+◌, ◌-◌, ◌*◌, ◌/◌, ◌%◌, Bool, true, false, ◌||◌, nat_le, nat_eq, if◌then◌else◌, Option, Some}
use Rattle.pdp11_code.specs.declared.instr.Ea.{Ea}
use Rattle.pdp11_machine.specs.declared.Place.TheVariants.{Cell}
use Rattle.pdp11_machine.specs.State.{MachineState, Flags, reg, with_reg, word_at, with_status}
use Rattle.pdp11_arithmetic.specs.Bits.{not, differs}
use Rattle.pdp11_machine.specs.Operands.{and_then, operand_address, after_store}

-- the branch of this high byte is taken
abbrev pub is_taken : ℕ → Flags → Bool
is_taken high f =
    if nat_eq high 0o001 then true  -- BR
    else (if nat_eq high 0o002 then not f.zero  -- BNE
    else (if nat_eq high 0o003 then f.zero  -- BEQ
    else (if nat_eq high 0o004 then not (differs f.negative f.overflow)  -- BGE
    else (if nat_eq high 0o005 then differs f.negative f.overflow  -- BLT
    else (if nat_eq high 0o006 then not (f.zero || differs f.negative f.overflow)  -- BGT
    else (if nat_eq high 0o007 then f.zero || differs f.negative f.overflow  -- BLE
    else (if nat_eq high 0o200 then not f.negative  -- BPL
    else (if nat_eq high 0o201 then f.negative  -- BMI
    else (if nat_eq high 0o202 then not (f.carry || f.zero)  -- BHI
    else (if nat_eq high 0o203 then f.carry || f.zero  -- BLOS
    else (if nat_eq high 0o204 then not f.overflow  -- BVC
    else (if nat_eq high 0o205 then f.overflow  -- BVS
    else (if nat_eq high 0o206 then not f.carry  -- BCC
    else f.carry)))))))))))))  -- BCS

-- PC goes by the signed low byte, in words: twice the byte, less 0o1000 from 0o200 on
abbrev pub after_branch : ℕ → MachineState → MachineState
after_branch low s =
    with_reg s 7 ((reg s 7 + 2 * low + (if nat_le 0o200 low then 0o177000 else 0)) % 65536)

-- the flags that bits 3 to 0 name are set or cleared
abbrev pub with_codes : Bool → ℕ → Flags → Flags
with_codes set bits f = record {
  negative = if nat_eq (bits / 8 % 2) 1 then set else f.negative;
  zero = if nat_eq (bits / 4 % 2) 1 then set else f.zero;
  overflow = if nat_eq (bits / 2 % 2) 1 then set else f.overflow;
  carry = if nat_eq (bits % 2) 1 then set else f.carry;
}

-- SP steps down, and then a register is stored where it points
abbrev pub after_push : ℕ → MachineState → MachineState × Option Unit
after_push r s = let t = with_reg s 6 ((reg s 6 + 65534) % 65536) in after_store t (Cell (reg t 6)) (reg t r)

-- the word where SP points; SP steps up before it is fetched
abbrev pub after_pop : MachineState → MachineState × Option ℕ
after_pop s = let t = with_reg s 6 ((reg s 6 + 2) % 65536) in (t, word_at t (reg s 6))

-- JSR: the address is worked out before the link register is pushed
abbrev pub after_call : ℕ → Ea → MachineState → MachineState × Option Unit
after_call r target s =
    and_then (operand_address false target.mode target.register s) (λ t a.
    and_then (after_push r t) (λ u _. (with_reg (with_reg u r (reg u 7)) 7 a, Some tt)))

-- RTS: PC goes to the link register, which is popped
abbrev pub after_return : ℕ → MachineState → MachineState × Option Unit
after_return r s =
    and_then (after_pop (with_reg s 7 (reg s r))) (λ t word. (with_reg t r word, Some tt))

-- RTI, RTT: PC and then PS are popped
abbrev pub after_resume : MachineState → MachineState × Option Unit
after_resume s =
    and_then (after_pop s) (λ t place.
    and_then (after_pop (with_reg t 7 place)) (λ u status. (with_status u status, Some tt)))

-- SOB: a register counts down, and PC goes back while it is not 0
abbrev pub after_count_down : ℕ → ℕ → MachineState → MachineState
after_count_down r back s =
    let left = (reg s r + 65535) % 65536 in
    let t = with_reg s r left in
    if nat_eq left 0 then t else with_reg t 7 ((reg t 7 + 65536 - 2 * back) % 65536)
