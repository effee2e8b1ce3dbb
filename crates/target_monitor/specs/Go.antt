-- Go: the monitor runs the machine from gate to gate.
--
-- A gate is an instruction word NOP or BPT. One that stands at PC at the beginning is passed first, and counted. At each
-- newly reached gate the run ends as Counted where all gates were passed, or else as AtBreak at a BPT, or else as MustDrain
-- where the output has less free room than is wanted, or else passes it. MustDrain comes also at the very beginning.
use Rattle.std.specs.Prelude.{ℕ, zero, suc, ◌+◌, ◌-◌, ◌%◌, Bool, false, nat_eq, nat_lt, if◌then◌else◌, Option, Some, None}
use Rattle.pdp11_machine.specs.State.{MachineState, reg, with_reg}
use Rattle.console_service.specs.declared.opcodes.TheConstants.{BPT}
use Rattle.console_service.specs.declared.instruction.Stop.{Stop}
use Rattle.console_service.specs.declared.instruction.Stop.TheVariants as stop
use Rattle.console_service.specs.Console.{ConsoleState, output_room}
use Rattle.console_service.specs.Run.{MachineAndConsole, RunStep, Continues, Stops, instruction, word_here, gate_here}
use Rattle.target_monitor.specs.declared.gates.TheConstants.{INSTRUCTION_LIMIT}
use Rattle.target_monitor.specs.declared.gates.GoEnd.{GoEnd}
use Rattle.target_monitor.specs.declared.gates.GoEnd.TheVariants.{Counted, AtBreak, Ended, Error, MustDrain, Overrun, Bus, ConsoleFull}
use Rattle.target_monitor.specs.declared.gates.Went.{Went}

-- what a run leaves, and what it tells
abbrev pub GoResult : Type 0
GoResult = MachineState × ConsoleState × Went

-- what is left on the way to a gate, with the end that came before it, if any
abbrev pub WayEnd : Type 0
WayEnd = MachineState × ConsoleState × Option GoEnd

-- how many instructions may be executed from a gate, or the beginning, to the next gate
abbrev pub instruction_limit : ℕ
instruction_limit = INSTRUCTION_LIMIT

-- how a run ends that an instruction stops
abbrev pub end_of : Stop → GoEnd
end_of stop.Ended = Ended
end_of (stop.Error n) = Error n
end_of stop.Bus = Bus
end_of stop.ConsoleFull = ConsoleFull

-- a gate is passed: PC goes on by 2, and nothing else happens
abbrev pub gate_passed : MachineAndConsole → MachineAndConsole
gate_passed m = (with_reg m.0 7 ((reg m.0 7 + 2) % 65536), m.1)

-- a gate with a break is BPT
abbrev pub is_break_word : Option ℕ → Bool
is_break_word None = false
is_break_word (Some word) = nat_eq word BPT

-- a break stands at PC
abbrev pub break_here : MachineAndConsole → Bool
break_here m = is_break_word (word_here m)

-- a run that has used up its instructions is overrun, unless a gate stands here
abbrev pub if_gate : Bool → GoEnd → Option GoEnd
if_gate here end = if here then None else Some end

-- the rest of the way, unless an instruction stopped the run
abbrev pub way_after : (MachineAndConsole → WayEnd) → RunStep → WayEnd
way_after rest (Continues m) = rest m
way_after rest (Stops stop m) = (m.0, m.1, Some (end_of stop))

-- on to a gate, in at most so many instructions: none where it is reached
unfoldable pub to_gate : ℕ → MachineAndConsole → WayEnd
to_gate zero m = (m.0, m.1, if_gate (gate_here m) Overrun)
to_gate (suc n) m = if gate_here m then (m.0, m.1, None) else way_after (to_gate n) (instruction m)

-- the rest of a run that has passed so many gates, where the next gate is reached
abbrev pub run_after_way : (ℕ → MachineAndConsole → GoResult) → ℕ → WayEnd → GoResult
run_after_way rest passed (s, k, None) = rest passed (s, k)
run_after_way rest passed (s, k, Some end) = (s, k, record { end = end; passed = passed })

-- the output has less free room, in bytes, than is wanted, if any is
abbrev pub must_drain : Option ℕ → ConsoleState → Bool
must_drain None k = false
must_drain (Some room) k = nat_lt (output_room k) room

-- at a newly reached gate, with so many left to pass
abbrev pub run_from_gate : Option ℕ → ℕ → ℕ → MachineAndConsole → GoResult
run_from_gate room zero passed m = (m.0, m.1, record { end = Counted; passed = passed })
run_from_gate room (suc left) passed m =
    if break_here m then (m.0, m.1, record { end = AtBreak; passed = passed })
    else (if must_drain room m.1 then (m.0, m.1, record { end = MustDrain; passed = passed })
    else run_after_way (run_from_gate room left) (passed + 1) (to_gate instruction_limit (gate_passed m)))

-- a run of so many gates that has passed some, on the way to the next
abbrev pub run_on_the_way : Option ℕ → ℕ → ℕ → MachineAndConsole → GoResult
run_on_the_way room gates passed m =
    run_after_way (run_from_gate room (gates - passed)) passed (to_gate instruction_limit m)

-- so many gates, of which one that stands here is the first, with so much free room wanted at each, if any
abbrev pub go_result : Option ℕ → ℕ → MachineState → ConsoleState → GoResult
go_result room gates s k =
    if must_drain room k then (s, k, record { end = MustDrain; passed = 0 })
    else (if gate_here (s, k) then run_on_the_way room gates 1 (gate_passed (s, k))
    else run_on_the_way room gates 0 (s, k))
