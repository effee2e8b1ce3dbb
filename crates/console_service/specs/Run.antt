-- Runs of the machine with its console.
use Rattle.std.specs.Prelude.{ℕ, zero, suc, ◌%◌, Bool, false, ◌&&◌, ◌||◌, nat_eq, nat_le, if◌then◌else◌, Option, Some, None, option_and_then}
use Rattle.pdp11_machine.specs.declared.StepEnd.{StepEnd}
use Rattle.pdp11_machine.specs.declared.StepEnd.TheVariants.{Went, Halted, Trap}
use Rattle.pdp11_machine.specs.State.{MachineState, reg, word_at}
use Rattle.pdp11_machine.specs.Step.{machine_step}
use Rattle.console_service.specs.declared.console.Served.{Served}
use Rattle.console_service.specs.declared.console.Served.TheVariants.{Done, Finished, Error as ServiceError, Full, BadPlace}
use Rattle.console_service.specs.declared.instruction.Stop.{Stop}
use Rattle.console_service.specs.declared.instruction.Stop.TheVariants.{Ended, Error, Bus, ConsoleFull}
use Rattle.console_service.specs.Console.{ConsoleState, is_service, service_result}
use Rattle.console_service.specs.declared.opcodes.TheConstants.{NOP, BPT}
use Rattle.console_service.specs.declared.services.TheConstants.{MAX_ERROR}
use Rattle.pdp11_machine.specs.declared.vectors.TheConstants as vector

-- the machine and its console
abbrev pub MachineAndConsole : Type 0
MachineAndConsole = MachineState × ConsoleState

-- what an instruction leaves: the run goes on, or stops
pub data RunStep : Type 0 where
  Continues : (m : MachineAndConsole) → RunStep
  Stops : (stop : Stop) → (m : MachineAndConsole) → RunStep

-- how a run goes on after a service
abbrev pub after_service : MachineState × ConsoleState × Served → RunStep
after_service (s, k, Done) = Continues (s, k)
after_service (s, k, Finished) = Stops Ended (s, k)
after_service (s, k, ServiceError n) = Stops (Error n) (s, k)
after_service (s, k, Full) = Stops ConsoleFull (s, k)
after_service (s, k, BadPlace) = Stops Bus (s, k)

-- EMT asks for a service, and TRAP 1 to 14 is a run-time error; every other trap ends the run, since nothing serves it
abbrev pub after_trap : ℕ → ℕ → MachineState → ConsoleState → RunStep
after_trap at number s k =
    if nat_eq at vector.EMULATOR && is_service number then after_service (service_result number s k)
    else (if nat_eq at vector.PROGRAM && nat_le 1 number && nat_le number MAX_ERROR then Stops (Error number) (s, k)
    else Stops Bus (s, k))

-- how a run goes on after a step; the low byte of the word at a trap is its number
abbrev pub after_step : ConsoleState → MachineState × StepEnd → RunStep
after_step k (s, Went) = Continues (s, k)
after_step k (s, Halted) = Stops Bus (s, k)
after_step k (s, Trap at word) = after_trap at (word % 256) s k

-- one instruction, with the service that it asks for
abbrev pub instruction : MachineAndConsole → RunStep
instruction m = after_step m.1 (machine_step m.0)

-- what a call that answers the stop of a run leaves
abbrev pub run_step : MachineAndConsole → Option Stop → RunStep
run_step m None = Continues m
run_step m (Some stop) = Stops stop m

-- the word at PC
abbrev pub word_here : MachineAndConsole → Option ℕ
word_here m = word_at m.0 (reg m.0 7)

-- a gate is NOP, or BPT where a break is set
abbrev pub is_gate_word : Option ℕ → Bool
is_gate_word None = false
is_gate_word (Some word) = nat_eq word NOP || nat_eq word BPT

-- a gate stands at PC
abbrev pub gate_here : MachineAndConsole → Bool
gate_here m = is_gate_word (word_here m)

-- the state, where the run goes on
abbrev pub running_state : RunStep → Option MachineAndConsole
running_state (Continues m) = Some m
running_state (Stops stop m) = None

-- an instruction that is no gate, and after which the run goes on
abbrev pub quiet_step : MachineAndConsole → Option MachineAndConsole
quiet_step m = if gate_here m then None else running_state (instruction m)

-- so many of them
abbrev pub quiet_steps : ℕ → MachineAndConsole → Option MachineAndConsole
quiet_steps zero m = Some m
quiet_steps (suc n) m = option_and_then (quiet_steps n) (quiet_step m)
