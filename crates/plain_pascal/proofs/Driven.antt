-- A run of the plain machine with its marks is one of the machine of stretches with those pauses.
use Rattle.std.proofs.Common.{◌≡◌, ℕ, zero, suc, ◌+◌, ◌-◌, ◌≤◌, Bool, true, false, List, [], ◌∷◌, Some, None, refl, sym, ap, ◌∙◌, subst, arith, inl, inr}
use Rattle.std.specs.Prelude.{◌⊎◌, is_some}
use Rattle.core_tree.specs.declared.op.Op.TheVariants as op
use Rattle.core_tree.specs.Plain.{Operation}
use Rattle.plain_machine.specs.Links.{Program}
use Rattle.plain_machine.specs.Meaning.{IsClosed}
use Rattle.plain_machine.specs.Plain.{State, unless, sum_unless, next, settle}
use Rattle.plain_machine.specs.Pauses.{ends_run, drive, go_on, gates_on}
use Rattle.plain_pascal.specs.Resolved.{HasProgram, HasRoutine, depth}
use Rattle.plain_pascal.specs.Standing.{IsTold}
use Rattle.plain_pascal.specs.Program.{Program as Table, Row, row_of}
use Rattle.plain_pascal.specs.State.{Status, NotStarted, Halted, Ended as IsEnded, Failed as HasFailed, Value, Node, OfStatement, OfExpr, PendingFrame, Data, Control, State as PascalState}
use Rattle.plain_pascal.specs.Run.{steps_limit, passed, Marks, Stopped, InError, next_gate, unless_held, with_event, event, over_by, driven}
use Rattle.plain_pascal.specs.Evaluation.{part_ticks}
use Rattle.plain_pascal.proofs.Ticks.{frame_ticks}
use Rattle.plain_pascal.specs.Blocks.{Path, Store, store, AreInside, IsPath, pascal, blocks_of}
use Rattle.core_tree.specs.Plain.{BlockForm, StatementBlock}
use Rattle.plain_pascal.specs.Stages.{stage_of}
use Rattle.plain_pascal.specs.Marked.{pause_by, is_full, pauses_of, gate_end, ending_of}
use Rattle.plain_pascal.proofs.Stage.{IsChain, statement_stage, return_stage}

module _ (P : Table) (m : ℕ) where
  abbrev B : Program BlockForm
  B = blocks_of P

  -- what a gate must have: that of a statement, and that of a routine which a statement waits for
  pub record AtStatement (n : ℕ) : Type 0 where
    pub row : Row
    pub found : row_of P n ≡ Some row
    pub chain : IsChain P row.continuation
    pub few : part_ticks row.form.parts + 1 ≤ steps_limit
    pub near : depth row.continuation + 1 ≤ m

  -- a statement that waits for its call
  pub record IsWaiting (c : Control) : Type 0 where
    pub at : AtStatement c.statement
    pub path : IsPath (StatementBlock at.row.form) c.frames
    pub ticks : (older : List Control) → frame_ticks P c.statement older c.frames ≤ steps_limit

  abbrev pub AtReturn : ℕ → List Control → Type 0
  AtReturn r [] = ⊥
  AtReturn r (c ∷ older) = HasRoutine P r × IsWaiting c

  abbrev pub AtGate : ℕ → List Control → Type 0
  AtGate n older = AtStatement n ⊎ AtReturn n older

  abbrev pub PlacedIn : Status → List Control → Type 0
  PlacedIn Halted (c ∷ older) = (c.frames ≡ []) × AtGate c.statement older
  PlacedIn IsEnded control = Unit {0}
  PlacedIn (HasFailed e n) [] = Unit {0}
  PlacedIn (HasFailed e n) (c ∷ older) = IsTold e c.frames
  PlacedIn status control = ⊥

  abbrev pub IsPlaced : PascalState → Type 0
  IsPlaced s = PlacedIn s.status s.control

  module _ (program : HasProgram P) (closed : IsClosed pascal B) where
    abbrev at : Control → List Control → Data → PascalState
    at c older d = record { status = Halted; control = c ∷ older; data_now = d }

    abbrev Passes : Control → List Control → Data → Type 0
    Passes c older d = stage_of (passed P (at c older d)) ≡ settle pascal B (suc m) (next pascal B (stage_of (at c older d)))

    statement_passes : (n : ℕ) (older : List Control) (d : Data) → AtStatement n → Passes (record { statement = n; frames = [] }) older d
    statement_passes n older d h = statement_stage P program closed n h.row h.found h.chain d older (suc m) h.few (omega (arith, h.near))

    pub inner_frames : (form : _) (e : _) (kept : List Value) (fs : List PendingFrame) → AreInside (OfStatement form) (record { node = OfExpr e; kept = kept } ∷ fs) → AreInside (OfStatement form) fs
    inner_frames form e kept [] h = absurd (grind (arith, h))
    inner_frames form e kept (g ∷ fs) h = h.1

    return_passes : (r n : ℕ) (frames : List PendingFrame) (older : List Control) (d : Data) → HasRoutine P r → IsWaiting (record { statement = n; frames = frames })
        → Passes (record { statement = r; frames = [] }) (record { statement = n; frames = frames } ∷ older) d
    return_passes r n [] older d h w = absurd w.path.0
    return_passes r n (f ∷ fs) older d h w = by f.node f.kept w.path w.ticks
      where
        by : (x : Node) (kept : List Value) → IsPath (StatementBlock w.at.row.form) (record { node = x; kept = kept } ∷ fs) → ((o : List Control) → frame_ticks P n o (record { node = x; kept = kept } ∷ fs) ≤ steps_limit)
            → Passes (record { statement = r; frames = [] }) (record { statement = n; frames = record { node = x; kept = kept } ∷ fs } ∷ older) d
        by (OfExpr (Operation (op.Call call) parts)) kept path ticks =
            let few : frame_ticks P n older fs ≤ steps_limit = omega (arith, ticks older) in
            return_stage P program closed n w.at.row w.at.found w.at.chain r fs older d m h call parts kept (inner_frames w.at.row.form (Operation (op.Call call) parts) kept fs path.0) few w.at.near
        by x kept path ticks = absurd path.1.0

    gate_passes : (n : ℕ) (older : List Control) (d : Data) → AtGate n older → Passes (record { statement = n; frames = [] }) older d
    gate_passes n older d (inl h) = statement_passes n older d h
    gate_passes n [] d (inr h) = absurd h
    gate_passes n (c ∷ older) d (inr h) = return_passes n c.statement c.frames older d h.0 h.1

    pub placed_passes : (c : Control) (older : List Control) (d : Data) → c.frames ≡ [] → AtGate c.statement older → Passes c older d
    placed_passes c older d bare h = subst (λ fs. Passes (record { statement = c.statement; frames = fs }) older d) (sym bare) (gate_passes c.statement older d h)

    module _ (marks : Marks) where
      abbrev went : ℕ → State Path Store → State Path Store
      went k y = go_on pascal B (suc m) (pauses_of marks) k y

      go_zero : (y : State Path Store) → went 0 y ≡ y
      go_zero y = by (ends_run (pauses_of marks) y)
        where
          by : (b : Bool) → unless b y (λ z. z) ≡ y
          by true = refl
          by false = refl

      -- what a language keeps of its runs: each state in it is placed, and what comes at the next gate is in it
      module _ (Good : PascalState → Type 0) (placed : (s : PascalState) → Good s → IsPlaced s) (keeps : (s : PascalState) → Good s → over_by s.status ≡ None → Good (passed P s)) where
        driven_by : (k : ℕ) (st : Status) (control : List Control) (d : Data) → Good (record { status = st; control = control; data_now = d })
            → stage_of (driven k P marks (record { status = st; control = control; data_now = d })).last ≡ went k (stage_of (record { status = st; control = control; data_now = d }))
        unfolding driven
        driven_by k NotStarted control d good = absurd (placed (record { status = NotStarted; control = control; data_now = d }) good)
        driven_by k Halted [] d good = absurd (placed (record { status = Halted; control = []; data_now = d }) good)
        driven_by zero Halted (c ∷ older) d good = sym (go_zero (stage_of (at c older d)))
        driven_by (suc k) Halted (c ∷ older) d good =
            by (marks.breaks c.statement) (is_full (store d))
            (driven_by k (passed P s).status (passed P s).control (passed P s).data_now (keeps s good refl) ∙ ap (went k) (placed_passes c older d (placed s good).0 (placed s good).1))
          where
            s : PascalState
            s = at c older d

            by : (b f : Bool) → stage_of (driven k P marks (passed P s)).last ≡ went k (settle pascal B (suc m) (next pascal B (stage_of s)))
                → stage_of (unless_held b f s (λ u. with_event (event (marks.traces (next_gate u)) (next_gate u)) (driven k P marks (passed P u)))).last
                ≡ unless (is_some (pause_by b f)) (stage_of s) (λ y. drive pascal B (suc m) (pauses_of marks) (suc k) y)
            by true f rest = refl
            by false true rest = refl
            by false false rest = rest
        driven_by zero IsEnded control d good = refl
        driven_by (suc k) IsEnded control d good = refl
        driven_by zero (HasFailed e n) control d good = sym (go_zero (stage_of (record { status = HasFailed e n; control = control; data_now = d })))
        driven_by (suc k) (HasFailed e n) [] d good = refl
        driven_by (suc k) (HasFailed e n) (c ∷ older) d good = by c.frames
          where
            by : (fs : List PendingFrame) → stage_of (record { status = HasFailed e n; control = record { statement = c.statement; frames = fs } ∷ older; data_now = d }) ≡ went (suc k) (stage_of (record { status = HasFailed e n; control = record { statement = c.statement; frames = fs } ∷ older; data_now = d }))
            by [] = refl
            by (f ∷ fs) = refl

        -- where a run with marks comes to is where the run of stretches with those pauses comes to
        pub driven_stage : (k : ℕ) (s : PascalState) → Good s → stage_of (driven k P marks s).last ≡ went k (stage_of s)
        driven_stage k s good = driven_by k s.status s.control s.data_now good

        abbrev gates : ℕ → State Path Store → ℕ
        gates k y = gates_on pascal B (suc m) (pauses_of marks) k y

        ends_by : (k : ℕ) (st : Status) (control : List Control) (d : Data) → Good (record { status = st; control = control; data_now = d })
            → (driven k P marks (record { status = st; control = control; data_now = d })).ending
            ≡ ending_of marks (k - gates k (stage_of (record { status = st; control = control; data_now = d }))) (went k (stage_of (record { status = st; control = control; data_now = d })))
        unfolding driven
        ends_by k NotStarted control d good = absurd (placed (record { status = NotStarted; control = control; data_now = d }) good)
        ends_by k Halted [] d good = absurd (placed (record { status = Halted; control = []; data_now = d }) good)
        ends_by zero Halted (c ∷ older) d good = by (ends_run (pauses_of marks) (stage_of (at c older d)))
          where
            by : (b : Bool) → Stopped c.statement ≡ ending_of marks (0 - sum_unless b 0) (unless b (stage_of (at c older d)) (λ z. z))
            by true = refl
            by false = refl
        ends_by (suc k) Halted (c ∷ older) d good =
            by (marks.breaks c.statement) (is_full (store d)) refl refl
            (ends_by k (passed P s).status (passed P s).control (passed P s).data_now (keeps s good refl)
            ∙ ap (λ z. ending_of marks (k - gates k z) (went k z)) (placed_passes c older d (placed s good).0 (placed s good).1)
            ∙ sym (ap (λ j. ending_of marks j (went k y)) less))
          where
            s : PascalState
            s = at c older d

            y : State Path Store
            y = settle pascal B (suc m) (next pascal B (stage_of s))

            less : suc k - (1 + gates k y) ≡ k - gates k y
            less = omega arith

            all : suc k ≡ suc k - 0
            all = omega arith

            by : (b f : Bool) → marks.breaks c.statement ≡ b → is_full (store d) ≡ f → (driven k P marks (passed P s)).ending ≡ ending_of marks (suc k - (1 + gates k y)) (went k y)
                → (unless_held b f s (λ u. with_event (event (marks.traces (next_gate u)) (next_gate u)) (driven k P marks (passed P u)))).ending
                ≡ ending_of marks (suc k - sum_unless (is_some (pause_by b f)) (1 + gates k y)) (unless (is_some (pause_by b f)) (stage_of s) (λ z. drive pascal B (suc m) (pauses_of marks) (suc k) z))
            by true f be fe rest = sym (ap (λ b. gate_end (suc k) (pause_by b (is_full (store d))) c.statement) be) ∙ ap (λ j. gate_end j (pauses_of marks c.statement (store d)) c.statement) all
            by false true be fe rest = sym (ap (λ b. gate_end (suc k) (pause_by b (is_full (store d))) c.statement) be ∙ ap (λ f. gate_end (suc k) (pause_by false f) c.statement) fe) ∙ ap (λ j. gate_end j (pauses_of marks c.statement (store d)) c.statement) all
            by false false be fe rest = rest
        ends_by zero IsEnded control d good = refl
        ends_by (suc k) IsEnded control d good = refl
        ends_by k (HasFailed e n) [] d good = over k
          where
            over : (k : ℕ) → (driven k P marks (record { status = HasFailed e n; control = []; data_now = d })).ending ≡ ending_of marks (k - gates k (stage_of (record { status = HasFailed e n; control = []; data_now = d }))) (went k (stage_of (record { status = HasFailed e n; control = []; data_now = d })))
            over zero = refl
            over (suc k) = refl
        ends_by k (HasFailed e n) (c ∷ older) d good = told k c.frames (placed (record { status = HasFailed e n; control = c ∷ older; data_now = d }) good)
          where
            here : List PendingFrame → PascalState
            here fs = record { status = HasFailed e n; control = record { statement = c.statement; frames = fs } ∷ older; data_now = d }

            told : (k : ℕ) (fs : List PendingFrame) → IsTold e fs → (driven k P marks (here fs)).ending ≡ ending_of marks (k - gates k (stage_of (here fs))) (went k (stage_of (here fs)))
            told zero [] h = refl
            told (suc k) [] h = refl
            told zero (f ∷ fs) h = ap (λ x. InError x n) h
            told (suc k) (f ∷ fs) h = ap (λ x. InError x n) h

        -- and it ends in the same way
        pub driven_ends : (k : ℕ) (s : PascalState) → Good s → (driven k P marks s).ending ≡ ending_of marks (k - gates k (stage_of s)) (went k (stage_of s))
        driven_ends k s good = ends_by k s.status s.control s.data_now good
