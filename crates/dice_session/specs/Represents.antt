-- When a machine represents a state of the plain machine, in four parts: the code's place and the status; the variables;
-- the frames; the console. All places are word numbers, and the machine's stack and program stand at whole words.
use Rattle.std.specs.Prelude.{◌≡◌, ℕ, ◌+◌, false, List, [], ◌∷◌, slice_index, Option, Some}
use Rattle.console_service.specs.Run.{gate_here}
use Rattle.console_service.specs.Cpu.{Cpu, state_of}
use Rattle.console_service.specs.declared.memory_map.TheConstants.{CODE_WORD, MEMORY_END_WORD}
use Rattle.console_service.specs.Block.{First, Gate, Block}
use Rattle.console_service.specs.Image.{InWords, end_word, trap_word}
use Rattle.pascal_semantics.specs.Valid.{program_name}
use Rattle.pascal_semantics.specs.State.{Status, NotStarted, Halted, Ended, Failed, Activation, State}
use Rattle.statement_code.specs.ExpressionCode.{HasGlobals}
use Rattle.statement_code.specs.Forms.{HasFrame}

-- the machine stands at the begin of the program's block, and of the code area, where no gate stands
pub record AtBegin (block : Option Block) (c : Cpu) : Type 0 where
  pub lies : Block
  pub is : block ≡ Some lies
  pub begin : lies.part_at First ≡ Some 0
  pub place : c.pc ≡ lies.place
  pub at : c.pc ≡ CODE_WORD
  pub no_gate : gate_here (state_of c) ≡ false

-- the machine stands at the gate of a block, its first word
pub record AtGate (block : Option Block) (c : Cpu) : Type 0 where
  pub lies : Block
  pub is : block ≡ Some lies
  pub gate : lies.part_at Gate ≡ Some 0
  pub place : c.pc ≡ lies.place

-- the machine has executed this word of a block
pub record Behind (block : Option Block) (word : ℕ) (c : Cpu) : Type 0 where
  pub lies : Block
  pub is : block ≡ Some lies
  pub at : ℕ
  pub inside : InWords lies.place lies at
  pub place : c.pc ≡ at + 1
  pub executed : slice_index c.mem at ≡ word

-- the machine stands at the gate of the statement of the newest activation, with nothing half done
abbrev pub AtNewest : (ℕ → Option Block) → List Activation → Cpu → Type 0
AtNewest blocks [] c = ⊥
AtNewest blocks (a ∷ older) c = (a.frames ≡ []) × AtGate (blocks a.statement) c

-- the code's place and the status: at the begin of the code before the start; at the gate of the newest activation's statement;
-- behind the word that ended the program, EMT 0 of the program's block; behind TRAP E in the block of the statement in
-- error
abbrev pub StandsAt : (ℕ → Option Block) → Status → List Activation → Cpu → Type 0
StandsAt blocks NotStarted activations c = AtBegin (blocks program_name) c
StandsAt blocks Halted activations c = AtNewest blocks activations c
StandsAt blocks Ended activations c = Behind (blocks program_name) end_word c
StandsAt blocks (Failed error name) activations c = Behind (blocks name) (trap_word error) c

-- the frames: none before the start; the program's at a gate
abbrev pub HasFrames : Status → Cpu → Type 0
HasFrames NotStarted c = c.sp ≡ MEMORY_END_WORD
HasFrames Halted c = HasFrame c
HasFrames other c = Unit {0}

-- the machine represents the state, whose output is all drained
pub record Represents (blocks : ℕ → Option Block) (s : State) (c : Cpu) : Type 0 where
  pub control : StandsAt blocks s.status s.activations c
  pub variables : HasGlobals s.globals c
  pub frames : HasFrames s.status c
  pub console : c.console.output ≡ []
