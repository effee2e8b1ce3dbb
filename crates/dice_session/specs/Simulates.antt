-- The simulation relation of a world and a machine: the machine's memory holds the present program, and its words
-- represent the state of the plain machine.
use Rattle.std.specs.Prelude.{◌≡◌, ℕ, ◌+◌, Bool, false, List, [], ◌∷◌, ◌++◌, length, Option, Some, None}
use Rattle.pdp11_machine.specs.State.{MachineState, zero_machine}
use Rattle.console_service.specs.Console.{ConsoleState}
use Rattle.console_service.specs.Cpu.{Cpu, state_of}
use Rattle.console_service.specs.declared.memory_map.TheConstants.{CODE_WORD, MEMORY_END_WORD}
use Rattle.console_service.specs.Block.{Block}
use Rattle.console_service.specs.Image.{HasImage}
use Rattle.image_plan.specs.Links.{blocks_of}
use Rattle.image_plan.specs.Load.{extent_of, place_of, HasParts}
use Rattle.pascal_tree.specs.declared.program.Tree.{Tree}
use Rattle.pascal_semantics.specs.declared.form.Statement.{Statement}
use Rattle.pascal_semantics.specs.Charge.{program_charge, charges_of}
use Rattle.pascal_semantics.specs.Program.{Row, row_of, program_of}
use Rattle.pascal_semantics.specs.State.{NotStarted, Halted, Activation, State}
use Rattle.statement_code.specs.Forms.{simple}
use Rattle.pascal_semantics.specs.Run.{run_of}
use Rattle.pascal_semantics.specs.Valid.{program_name}
use Rattle.dice_session.specs.World.{World, run_lines, statements_of}
use Rattle.dice_session.specs.Places.{with_words, with_start}
use Rattle.dice_session.specs.Represents.{Represents}
use Rattle.dice_session.specs.Progress.{progress_of, is_over}
use Rattle.dice_session.specs.declared.progress.Progress.TheVariants as progress

-- the program is at the gate of one of its statements, in its own body
abbrev pub IsAtStatement : List Statement → List Activation → Type 0
IsAtStatement ss activations =
    (n : ℕ) × (row : Row) × (row_of (program_of ss) n ≡ Some row)
    × (activations ≡ record { routine = program_name; statement = n; frames = [] } ∷ [])

-- a state of a run of the program: nothing is active before its start, and it stops at its statements alone
pub record IsWellFormed (ss : List Statement) (s : State) : Type 0 where
  pub before : s.status ≡ NotStarted → s.activations ≡ []
  pub halted : s.status ≡ Halted → IsAtStatement ss s.activations

-- the machine as a load leaves it, whatever ran before: the blocks, of so many words together, are written into a zero
-- machine from the begin of the code area on, and SP and PC set. So all other words are 0, R0 to R5 and the status word
pub record IsNewlyLoaded (count : ℕ) (machine : MachineState) : Type 0 where
  pub words : List ℕ
  pub long : length words ≡ count
  pub only : machine ≡ with_start (with_words zero_machine CODE_WORD words)

-- machine and console hold this program in this state: the program's blocks at their places, with no break set, and
-- words that represent the state
pub record HoldsProgram
    (ss : List Statement) (s : State) (machine : MachineState) (console : ConsoleState) : Type 0 where
  pub cpu : Cpu
  pub is : state_of cpu ≡ (machine, console)
  pub long : length cpu.mem ≡ MEMORY_END_WORD
  pub blocks : ℕ → Option Block
  pub places : (n : ℕ) → extent_of (blocks n) ≡ place_of ss n
  pub parts : HasParts blocks
  pub image : HasImage simple (blocks_of (program_of ss)) blocks (λ n. false) cpu.mem
  pub represents : Represents blocks s cpu
  pub fresh : s.status ≡ NotStarted → IsNewlyLoaded (program_charge + charges_of ss) machine

-- the machine simulates a run of the program that is in this state, with any console that is drained
abbrev pub SimulatesRun : List Statement → State → MachineState → Type 0
SimulatesRun ss s machine =
    (console : ConsoleState) → console.output ≡ [] → HoldsProgram ss s machine console

-- the same of the present program; before any load the machine is as it was made
abbrev pub SimulatesIn : Option Tree → State → MachineState → Type 0
SimulatesIn None s machine = machine ≡ zero_machine
SimulatesIn (Some p) s machine = SimulatesRun (statements_of p) s machine

-- the machine simulates the world
abbrev pub Simulates : World → MachineState → Type 0
Simulates w machine = SimulatesIn w.present w.state machine

-- a state that a run can go on from, and a machine that holds the program in it
pub record CanRunFrom
    (ss : List Statement) (s : State) (machine : MachineState) (console : ConsoleState) : Type 0 where
  pub formed : IsWellFormed ss s
  pub can : is_over (progress_of s.status) ≡ false
  pub holds : HoldsProgram ss s machine console

-- a run over so many gates was carried out and told, whether the program is over, and the machine simulates what it left
pub record Ran
    (ss : List Statement) (gates : ℕ) (s : State) (over : Bool) (before after : List ℕ)
    (machine : MachineState) (console : ConsoleState) : Type 0 where
  pub told : after ≡ before ++ run_lines (run_of (program_of ss) gates s)
  pub over_is : over ≡ is_over (progress_of (run_of (program_of ss) gates s).status)
  pub simulates : SimulatesRun ss (run_of (program_of ss) gates s) machine
  pub drained : console.output ≡ []
  pub formed : IsWellFormed ss (run_of (program_of ss) gates s)
  pub started : progress_of (run_of (program_of ss) gates s).status ≡ progress.NotStarted → ⊥
