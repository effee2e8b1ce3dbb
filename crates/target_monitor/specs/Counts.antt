-- Which requests are counted, and what all others leave as it was.
use Rattle.std.specs.Prelude.{◌≡◌, ℕ, ◌<◌, ◌≤◌, ◌⊎◌, Bool, true, false, slice_index}
use Rattle.pdp11_machine.specs.State.{MachineState}
use Rattle.console_service.specs.declared.memory_map.TheConstants.{CODE_WORD, GLOBALS_WORD}
use Rattle.target_monitor.specs.declared.requests.Request.{Request}
use Rattle.target_monitor.specs.declared.requests.Request.TheVariants.{Reset, Go}
use Rattle.target_monitor.specs.declared.target.ProgramStatus.{ProgramStatus}
use Rattle.target_monitor.specs.declared.target.ProgramStatus.TheVariants.{Unfinished}

-- the request is Reset
abbrev pub is_reset : Request → Bool
is_reset Reset = true
is_reset other = false

-- a Go is carried out while the program has neither ended nor is in an error
abbrev pub goes_on : ProgramStatus → Bool
goes_on Unfinished = true
goes_on other = false

-- the request is a Go that is carried out
abbrev pub is_run : Request → ProgramStatus → Bool
is_run (Go gates) status = goes_on status
is_run other status = false

-- the request is neither Reset nor Go
abbrev pub IsPassive : Request → Type 0
IsPassive Reset = ⊥
IsPassive (Go gates) = ⊥
IsPassive other = Unit {0}

-- the registers and the status word are the same, and all words but those of the code area and the area of patches
pub record SameBesideCode (s u : MachineState) : Type 0 where
  pub registers : u.registers ≡ s.registers
  pub flags : u.flags ≡ s.flags
  pub upper : u.upper ≡ s.upper
  pub words : (k : ℕ) → (k < CODE_WORD) ⊎ (GLOBALS_WORD ≤ k) → slice_index u.memory k ≡ slice_index s.memory k
