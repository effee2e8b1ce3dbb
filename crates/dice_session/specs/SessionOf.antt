-- When a session and its machine are those of a world, and what the two are after a command.
use Rattle.std.specs.Prelude.{◌≡◌, ℕ, false, List, [], ◌++◌, Option, Some, None}
use Rattle.std.specs.Option.{option_map}
use Rattle.pdp11_machine.specs.State.{MachineState}
use Rattle.pascal_semantics.specs.State.{State}
use Rattle.pascal_semantics.specs.declared.form.Statement.{Statement}
use Rattle.pascal_semantics.specs.Valid.{IsProgram}
use Rattle.pascal_tree.specs.declared.program.Tree.{Tree}
use Rattle.dice_session.specs.World.{World, Reply, statements_of}
use Rattle.dice_session.specs.Simulates.{Simulates, IsWellFormed}
use Rattle.dice_session.specs.Progress.{progress_of}
use Rattle.dice_session.specs.declared.session.Session.{Session}

-- the session keeps the statements of the program that was loaded
pub record HasStatements (ss : List Statement) (s : State) (session : Session) : Type 0 where
  pub statements : option_map (λ v. v.items) session.program ≡ Some ss
  pub program : IsProgram ss
  pub formed : IsWellFormed ss s

-- the session keeps those of the present program, or none
abbrev pub HasProgram : Option Tree → State → Session → Type 0
HasProgram None s session = session.program ≡ None
HasProgram (Some p) s session = HasStatements (statements_of p) s session

-- the session and the machine are those of the world
pub record IsSessionOf (w : World) (session : Session) (machine : MachineState) : Type 0 where
  pub program : HasProgram w.present w.state session
  pub progress : session.progress ≡ progress_of w.state.status
  pub draft : session.draft ≡ w.draft
  pub drained : session.console.output ≡ []
  pub simulates : Simulates w machine

-- the reply was given: its text was added, session and machine are those of its world, and a machine that it does not
-- touch is equal to what it was
pub record Became
    (reply : Reply) (before after : List ℕ) (machine_before : MachineState)
    (session : Session) (machine : MachineState) : Type 0 where
  pub told : after ≡ before ++ reply.text
  pub of_world : IsSessionOf reply.world session machine
  pub kept : reply.touches ≡ false → machine ≡ machine_before
