-- What the level of blocks wants to know of a language: what the own form of each block does, from each place where the
-- block may be begun, and when a machine stands for a state. Nothing above this record looks at a form.
use Rattle.std.specs.Prelude.{ℕ, List}
use Rattle.dice_base.specs.declared.link.LinkTo.{LinkTo}
use Rattle.console_service.specs.Cpu.{Cpu}
use Rattle.console_service.specs.Block.{Part}

-- where a stretch begins: at a part, or at the return of a call
pub data Begin (Path : Type 0) : Type 0 where
  At : (part : Part) → Begin Path
  Back : (path : Path) → Begin Path

-- how a stretch ends: by a link, by a call through a link, by a return, at the end, in a run-time error
pub data Exit (Path Data : Type 0) : Type 0 where
  Out : (to : LinkTo) → (d : Data) → Exit Path Data
  Calls : (to : LinkTo) → (path : Path) → (d : Data) → Exit Path Data
  Returns : (d : Data) → Exit Path Data
  Over : (d : Data) → Exit Path Data
  Fails : (error : ℕ) → (d : Data) → Exit Path Data

-- a pending statement on the stack: where its call returns to, as a word number
pub record Hanging (Path : Type 0) : Type 0 where
  pub path : Path
  pub back : ℕ

-- forms, the places of calls in them, and the states without the place of control
pub record Semantics (Form Path Data : Type 0) : Type 1 where
  -- what a form does from a begin
  pub does : Form → Begin Path → Data → Exit Path Data
  -- the number of a call among its statement's calls, from 0
  pub number : Path → ℕ
  pub IsPath : Form → Path → Type 0
  -- what a begin of a form may rely on in a state
  pub IsGood : Form → Begin Path → Data → Type 0
  -- the machine's words are those of the state, with these pending statements
  pub Holds : Data → List (Hanging Path) → Cpu → Type 0
  -- what is told of the words when a run has ended
  pub Shows : Data → Cpu → Type 0
  -- how many instructions a stretch takes at the most
  pub most : Form → Begin Path → ℕ
