-- Laws of the plain machine, for all forms of statements at once.
use Rattle.std.specs.Prelude.{◌≡◌, ◌≤◌, ℕ, suc, ◌+◌, ◌-◌, true, List, ◌∷◌}
use Rattle.core_tree.specs.Plain.{Routine}
use Rattle.plain_machine.specs.Meaning.{IsClosed}
use Rattle.plain_machine.specs.Pauses.{drive, drive_from, gates_on, go_on}
use Rattle.plain_pascal.specs.Program.{Program, program_of}
use Rattle.plain_pascal.specs.State.{Halted, Place, Value, Data, Control, State, loaded_state}
use Rattle.core_tree.specs.declared.op.Storage.{Storage}
use Rattle.plain_pascal.specs.Statements.{assigned}
use Rattle.plain_pascal.specs.Step.{small_step}
use Rattle.plain_pascal.specs.Typed.{stored_kind, stored_words}
use Rattle.plain_pascal.specs.Valid.{IsData, IsOf, IsProgram, IsTyped, IsWellFormed, LiesIn, NewestStands}
use Rattle.plain_pascal.specs.Run.{Marks, cleared, continued, driven, fresh, rests, run_of}
use Rattle.plain_pascal.specs.Blocks.{blocks_of, pascal}
use Rattle.plain_pascal.specs.Stages.{stage_of}
use Rattle.plain_pascal.specs.Marked.{ending_of, pauses_of}
use Rattle.plain_pascal.specs.Resolved.{IsResolved}
use Rattle.plain_pascal.specs.Standing.{Stands}

-- a run of j + k gates is one of j gates, and then one of k gates where it was stopped
abbrev pub RunsSplit : Type 0
RunsSplit = (P : Program) (marks : Marks) (j k : ℕ) (s : State) → driven (j + k) P marks s ≡ continued k P marks (driven j P marks s)

-- each link that a form has leads to a part that its end's form has
abbrev pub LinksLead : Type 0
LinksLead = (x : Routine) (m : ℕ) → IsResolved x m → IsClosed pascal (blocks_of (program_of x))

-- control in order comes to the next gate, the end or an error, where it is in order again
abbrev pub RunsRest : Type 0
RunsRest = (x : Routine) (m : ℕ) → IsResolved x m → (marks : Marks) (k : ℕ) (s : State) → Stands (program_of x) s
    → (rests (driven k (program_of x) marks s).last ≡ true) × Stands (program_of x) (driven k (program_of x) marks s).last

-- the first run comes to such a state as well
abbrev pub FirstRunsRest : Type 0
FirstRunsRest = (x : Routine) (m : ℕ) → IsResolved x m → (marks : Marks) (k : ℕ) (d : Data)
    → (rests (run_of (program_of x) marks k (fresh d)).last ≡ true) × Stands (program_of x) (run_of (program_of x) marks k (fresh d)).last

-- small steps from gate to gate are stretches between parts of blocks: where a run with marks comes to, and how it ends
abbrev pub RunsAreStretches : Type 0
RunsAreStretches = (x : Routine) (m : ℕ) → IsResolved x m → (marks : Marks) (k : ℕ) (s : State) → Stands (program_of x) s
    → (stage_of (driven k (program_of x) marks s).last ≡ go_on pascal (blocks_of (program_of x)) (suc m) (pauses_of marks) k (stage_of s))
    × ((driven k (program_of x) marks s).ending
    ≡ ending_of marks (k - gates_on pascal (blocks_of (program_of x)) (suc m) (pauses_of marks) k (stage_of s)) (go_on pascal (blocks_of (program_of x)) (suc m) (pauses_of marks) k (stage_of s)))

-- the first run of a program
abbrev pub FirstRunsAreStretches : Type 0
FirstRunsAreStretches = (x : Routine) (m : ℕ) → IsResolved x m → (marks : Marks) (k : ℕ) (d : Data)
    → stage_of (run_of (program_of x) marks k (fresh d)).last ≡ drive_from pascal (blocks_of (program_of x)) (suc m) (pauses_of marks) k (stage_of (fresh (cleared d)))

-- a run that goes on
abbrev pub NextRunsAreStretches : Type 0
NextRunsAreStretches = (x : Routine) (m : ℕ) → IsResolved x m → (marks : Marks) (k : ℕ) (c : Control) (older : List Control) (d : Data)
    → Stands (program_of x) (record { status = Halted; control = c ∷ older; data_now = cleared d })
    → stage_of (run_of (program_of x) marks (suc k) (record { status = Halted; control = c ∷ older; data_now = d })).last
    ≡ drive pascal (blocks_of (program_of x)) (suc m) (pauses_of marks) (suc k) (stage_of (record { status = Halted; control = c ∷ older; data_now = cleared d }))

-- each step keeps a state in order
abbrev pub StepsKeep : Type 0
StepsKeep = (P : Program) → IsProgram P → (s : State) → IsWellFormed P s → IsWellFormed P (small_step P s)

-- a program that was loaded is in a state in order
abbrev pub LoadedStands : Type 0
LoadedStands = (P : Program) → IsWellFormed P loaded_state

-- a run keeps a state in order, from the start of the program on
abbrev pub RunsKeep : Type 0
RunsKeep = (P : Program) → IsProgram P → (marks : Marks) (k : ℕ) (s : State) → IsWellFormed P s → IsWellFormed P (run_of P marks k s).last

-- a resolved program with operations on parts of their kinds is in order
abbrev pub ResolvedOrder : Type 0
ResolvedOrder = (x : Routine) (m : ℕ) → IsResolved x m → IsTyped (program_of x) → IsProgram (program_of x)

-- an assignment to a part that lies inside what it names keeps the data and all activations in order
abbrev pub AssignmentsKeep : Type 0
AssignmentsKeep = (P : Program) (to : Storage) (whole newest : ℕ) (d : Data) (p : Place) (v : Value) (cs : List Control) → IsData d
    → stored_words to ≤ whole → LiesIn d.activations newest p whole → IsOf d.activations newest (stored_kind to) v → NewestStands P d.activations cs d.activations
    → IsData (assigned to p v d) × NewestStands P (assigned to p v d).activations cs (assigned to p v d).activations
