-- One step of the machine (PDP-11/40 Processor Handbook, chapter 2, processor traps, and chapter 4).
--
-- This project's own: a step tells a trap and leaves it to the caller to take it; the words after the first are not
-- looked at before they are fetched as operands, so that one that is not there is a bus trap; which words are reserved is
-- said by the table of pdp11_code.
use Rattle.std.specs.Prelude.{ℕ, nat_eq, if◌then◌else◌, Option, Some, None, [], ◌∷◌}
use Rattle.pdp11_code.specs.declared.instr.Instr.{Instr}
use Rattle.pdp11_code.specs.declared.instr.Instr.TheVariants.{Two, Extended, One, Jsr, Rts, Sob, Branch, Emt, Trap as TrapInstr, Flags as FlagsInstr, Bare}
use Rattle.pdp11_code.specs.Code.{instruction_at}
use Rattle.pdp11_machine.specs.declared.StepEnd.{StepEnd}
use Rattle.pdp11_machine.specs.declared.StepEnd.TheVariants.{Went, Halted, Trap}
use Rattle.pdp11_machine.specs.declared.vectors.TheConstants as vector
use Rattle.pdp11_machine.specs.State.{MachineState}
use Rattle.pdp11_machine.specs.Operands.{after_fetch}
use Rattle.pdp11_machine.specs.Double.{after_double_operand}
use Rattle.pdp11_machine.specs.Single.{after_single_operand}
use Rattle.pdp11_machine.specs.Extended.{after_register_operand}
use Rattle.pdp11_machine.specs.Control.{is_taken, after_branch, with_codes, after_call, after_return, after_resume, after_count_down}

-- a bus trap ends the step, and tells the instruction's word
abbrev pub end_at : ℕ → Option Unit → StepEnd
end_at word None = Trap vector.BUS_ERROR word
end_at word (Some _) = Went

-- an instruction's state, with the end of its step
abbrev pub with_end : ℕ → MachineState × Option Unit → MachineState × StepEnd
with_end word p = (p.0, end_at word p.1)

-- the instructions with no field, by their word
abbrev pub after_bare : ℕ → ℕ → MachineState → MachineState × StepEnd
after_bare n word s =
    if nat_eq n 0o000000 then (s, Halted)  -- HALT
    else (if nat_eq n 0o000003 then (s, Trap vector.BREAKPOINT word)  -- BPT
    else (if nat_eq n 0o000004 then (s, Trap vector.INPUT_OUTPUT word)  -- IOT
    else with_end word (after_resume s)))  -- RTI, RTT

-- what an instruction does, and how it ends; its word is told at a trap
abbrev pub after_instruction : Instr → ℕ → MachineState → MachineState × StepEnd
after_instruction (Two op high source target) word s = with_end word (after_double_operand op high source target s)
after_instruction (Extended op register operand) word s = with_end word (after_register_operand op register operand s)
after_instruction (One op high target) word s = with_end word (after_single_operand op high target s)
after_instruction (Jsr register target) word s = with_end word (after_call register target s)
after_instruction (Rts register) word s = with_end word (after_return register s)
after_instruction (Sob register back) word s = (after_count_down register back s, Went)
after_instruction (Branch high low) word s = (if is_taken high s.flags then after_branch low s else s, Went)
after_instruction (Emt n) word s = (s, Trap vector.EMULATOR word)
after_instruction (TrapInstr n) word s = (s, Trap vector.PROGRAM word)
after_instruction (FlagsInstr set bits) word s = (record s { flags = with_codes set bits s.flags }, Went)
after_instruction (Bare n) word s = after_bare n word s

-- an instruction that was read from its word, or a reserved one
abbrev pub after_decode : Option (Instr × ℕ) → ℕ → MachineState → MachineState × StepEnd
after_decode None word s = (s, Trap vector.RESERVED word)
after_decode (Some (i, n)) word s = after_instruction i word s

-- the first word says the instruction; the words of its operands are fetched when their addresses are worked out, so that
-- any two words stand for them here
abbrev pub after_first_word : MachineState × Option ℕ → MachineState × StepEnd
after_first_word (s, None) = (s, Trap vector.BUS_ERROR 0)
after_first_word (s, Some word) = after_decode (instruction_at (word ∷ 0 ∷ 0 ∷ [])) word s

-- the new state and the end of one step; a trap pushes nothing yet
abbrev pub machine_step : MachineState → MachineState × StepEnd
machine_step s = after_first_word (after_fetch s)
