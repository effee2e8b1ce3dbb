-- What the code of an expression does: from words that stand for a state, with some values kept on the stack, it comes
-- in so many quiet steps at the most to its end, with the value below them and nothing else changed, or to the trap of
-- the run-time error inside it.
use Rattle.std.specs.Prelude.{◌≡◌, ℕ, ◌+◌, ◌<◌, ◌≤◌, List, length, slice_index}
use Rattle.console_service.specs.Cpu.{Cpu, HasAt, Keeps, Comes}
use Rattle.console_service.specs.declared.memory_map.TheConstants.{GLOBALS_WORD, STACK_WORD, MEMORY_END_WORD}
use Rattle.console_service.specs.Image.{trap_word}
use Rattle.pascal_semantics.specs.declared.limits.TheConstants.{GLOBAL_WORDS}
use Rattle.pascal_semantics.specs.Step.{Evaluation, Value, Error}

-- the value is pushed, and the program goes on behind the words
pub record Pushed (len : ℕ) (c d : Cpu) (v : ℕ) : Type 0 where
  pub comes : Comes len c d
  pub keeps : Keeps STACK_WORD c.sp c d
  pub console : d.console ≡ c.console
  pub stack : d.sp + 1 ≡ c.sp
  pub place : d.pc ≡ c.pc + len
  pub top : slice_index d.mem d.sp ≡ v

-- the program stands at the error's trap, in the words
pub record Trapped (len : ℕ) (c d : Cpu) (number : ℕ) : Type 0 where
  pub comes : Comes len c d
  pub keeps : Keeps STACK_WORD c.sp c d
  pub console : d.console ≡ c.console
  pub trap : slice_index d.mem d.pc ≡ trap_word number
  pub from : c.pc ≤ d.pc
  pub to : d.pc < c.pc + len

-- the code comes to this value, or to this error
abbrev pub Evaluates : ℕ → Cpu → Evaluation → Type 0
Evaluates len c (Value v) = (d : Cpu) × Pushed len c d v
Evaluates len c (Error number) = (d : Cpu) × Trapped len c d number

-- the words of the memory are these globals
pub record HasGlobals (globals : List ℕ) (c : Cpu) : Type 0 where
  pub count : length globals ≡ GLOBAL_WORDS
  pub small : (k : ℕ) → slice_index globals k < 65536
  pub each : (k : ℕ) → k < GLOBAL_WORDS → slice_index c.mem (GLOBALS_WORD + k) ≡ slice_index globals k

-- the machine stands before the words, with these globals and room on the stack
pub record Ready (code globals : List ℕ) (room : ℕ) (c : Cpu) : Type 0 where
  pub here : HasAt c.mem c.pc code
  pub fits : c.pc + length code ≤ GLOBALS_WORD
  pub room_left : STACK_WORD + room ≤ c.sp
  pub within : c.sp ≤ MEMORY_END_WORD
  pub long : length c.mem ≡ MEMORY_END_WORD
  pub globals_are : HasGlobals globals c
