-- A state of the plain Pascal machine as one of the plain machine of stretches.
use Rattle.std.specs.Prelude.{ℕ, List, [], ◌∷◌, map}
use Rattle.dice_base.specs.declared.link.LinkTo.{LinkTo}
use Rattle.dice_base.specs.declared.link.LinkTo.TheVariants.{Routine}
use Rattle.plain_machine.specs.Links.{First, Gate}
use Rattle.plain_machine.specs.Meaning.{At}
use Rattle.plain_machine.specs.Plain.{Pending, State, Goes, Ended, Failed, Overflowed, Stuck}
use Rattle.plain_pascal.specs.State.{Status, NotStarted, Halted, Ended as IsEnded, Failed as HasFailed, PendingFrame, Data, Control, State as PascalState}
use Rattle.plain_pascal.specs.Blocks.{Path, Store, store, callee}

abbrev pub pending : Control → Pending Path
pending c = record { name = c.statement; path = c.frames }

-- control before a gate
abbrev pub at_gates : List Control → Data → State Path Store
at_gates [] d = Stuck
at_gates (c ∷ older) d = Goes (record { name = c.statement; start = At Gate; data_now = store d; older = map pending older })

abbrev pub name_in : LinkTo → ℕ
name_in (Routine r) = r.0
name_in to = 0

-- a run-time error; where frames wait, the stack had no room for their call
abbrev pub failed_in : ℕ → ℕ → List PendingFrame → Data → State Path Store
failed_in error name [] d = Failed error name (store d)
failed_in error name (f ∷ fs) d = Overflowed (name_in (callee (f ∷ fs))) (record { name = name; path = f ∷ fs }) (store d)

abbrev pub failed_at : ℕ → ℕ → List Control → Data → State Path Store
failed_at error name [] d = Failed error name (store d)
failed_at error name (c ∷ older) d = failed_in error name c.frames d

abbrev pub stage_by : Status → List Control → Data → State Path Store
stage_by NotStarted control d = Goes (record { name = 1; start = At First; data_now = store d; older = [] })
stage_by Halted control d = at_gates control d
stage_by IsEnded control d = Ended 1 (store d)
stage_by (HasFailed error name) control d = failed_at error name control d

abbrev pub stage_of : PascalState → State Path Store
stage_of s = stage_by s.status s.control s.data_now
