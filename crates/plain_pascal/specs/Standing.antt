-- States in which control is in order: before the gate of a statement or of a routine that a statement waits for, and each
-- older activation waits in a call of its statement.
use Rattle.std.specs.Prelude.{◌≡◌, ℕ, List, [], ◌∷◌}
use Rattle.core_tree.specs.Plain.{StatementBlock}
use Rattle.plain_pascal.specs.Program.{Program}
use Rattle.plain_pascal.specs.State.{Status, Halted, Ended as IsEnded, Failed as HasFailed, PendingFrame, Control, State}
use Rattle.plain_pascal.specs.Blocks.{IsPath}
use Rattle.plain_pascal.specs.Resolved.{HasRow, IsGateOf}

-- where frames stay, the stack had no room
abbrev pub IsTold : ℕ → List PendingFrame → Type 0
IsTold e [] = Unit {0}
IsTold e (f ∷ fs) = e ≡ 8

module _ (P : Program) where
  -- the statements that wait for a routine, the newest first
  abbrev pub AllWait : ℕ → List Control → Type 0
  AllWait r [] = r ≡ 1
  AllWait r (c ∷ older) = (s : ℕ) × ((h : HasRow P c.statement s) × (IsPath (StatementBlock h.row.form) c.frames × AllWait s older))

  abbrev pub StandsIn : Status → List Control → Type 0
  StandsIn Halted (c ∷ older) = (c.frames ≡ []) × ((r : ℕ) × (IsGateOf P c.statement r × AllWait r older))
  StandsIn IsEnded control = Unit {0}
  StandsIn (HasFailed e n) [] = Unit {0}
  StandsIn (HasFailed e n) (c ∷ older) = IsTold e c.frames
  StandsIn status control = ⊥

  abbrev pub Stands : State → Type 0
  Stands s = StandsIn s.status s.control
