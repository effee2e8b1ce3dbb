-- A machine whose stack and program stand at whole words, and runs between them.
use Rattle.std.specs.Prelude.{◌≡◌, ℕ, ◌+◌, ◌*◌, ◌<◌, ◌≤◌, List, [], ◌∷◌, length, slice_index, Some}
use Rattle.pdp11_machine.specs.State.{Flags}
use Rattle.console_service.specs.Console.{ConsoleState}
use Rattle.console_service.specs.Run.{MachineAndConsole, quiet_steps}

-- the registers, with the stack and the program as word numbers, the memory, the status and the console
pub record Cpu : Type 0 where
  pub r0 : ℕ
  pub r1 : ℕ
  pub r2 : ℕ
  pub r3 : ℕ
  pub r4 : ℕ
  pub r5 : ℕ
  pub sp : ℕ
  pub pc : ℕ
  pub mem : List ℕ
  pub flags : Flags
  pub upper : ℕ
  pub console : ConsoleState

-- the machine and its console, with SP and PC as byte addresses
abbrev pub state_of : Cpu → MachineAndConsole
state_of c = (
  record {
    memory = c.mem;
    registers = c.r0 ∷ c.r1 ∷ c.r2 ∷ c.r3 ∷ c.r4 ∷ c.r5 ∷ (2 * c.sp) ∷ (2 * c.pc) ∷ [];
    flags = c.flags;
    upper = c.upper;
  },
  c.console,
)

-- the words stand in the memory from this place on
abbrev pub HasAt : List ℕ → ℕ → List ℕ → Type 0
HasAt mem p [] = Unit {0}
HasAt mem p (w ∷ ws) = (slice_index mem p ≡ w) × HasAt mem (p + 1) ws

-- the machine keeps R5, and its memory but for the words from one place up to another
pub record Keeps (lo hi : ℕ) (c d : Cpu) : Type 0 where
  pub frame : d.r5 ≡ c.r5
  pub long : length d.mem ≡ length c.mem
  pub low : (k : ℕ) → k < lo → slice_index d.mem k ≡ slice_index c.mem k
  pub high : (k : ℕ) → hi ≤ k → slice_index d.mem k ≡ slice_index c.mem k

-- the machine comes from one to the other in at most so many quiet steps
pub record Comes (most : ℕ) (c d : Cpu) : Type 0 where
  pub count : ℕ
  pub few : count ≤ most
  pub run : quiet_steps count (state_of c) ≡ Some (state_of d)
