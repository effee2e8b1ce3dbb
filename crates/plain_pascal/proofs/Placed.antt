-- Control stays in order from gate to gate: each statement that waits is one of its routine, with a pending call in it, and
-- behind the program's activation there is none.
use Rattle.std.proofs.Common.{◌≡◌, ℕ, suc, ◌+◌, ◌-◌, ◌≤◌, Bool, true, false, List, [], ◌∷◌, Option, Some, None, refl, sym, ap, ◌∙◌, subst, arith, inl, inr}
use Rattle.std.specs.Prelude.{if◌then◌else◌, slice_index, drop, nat_le}
use Rattle.core_tree.specs.declared.op.Op.TheVariants as op
use Rattle.core_tree.specs.Plain.{Operation}
use Rattle.plain_machine.specs.Meaning.{IsClosed}
use Rattle.plain_machine.specs.Pauses.{gates_on, go_on}
use Rattle.plain_pascal.specs.Resolved.{HasProgram, HasRoutine, HasRow, IsGateOf, AreLabelled, AreSmall}
use Rattle.plain_pascal.specs.Standing.{IsTold, AllWait, StandsIn, Stands}
use Rattle.plain_pascal.specs.Program.{Program as Table, Row, row_of, routine_of}
use Rattle.core_tree.specs.Control.{Continuation, ToGate, ToStep, ToEnd, ToLeave, ToFinish}
use Rattle.plain_pascal.specs.State.{Status, NotStarted, Halted, Ended as IsEnded, Failed as HasFailed, Value, Node, OfStatement, OfExpr, PendingFrame, Data, Control, State as PascalState}
use Rattle.plain_pascal.specs.Statements.{Behind as IsBehind, Inside, ToLabel}
use Rattle.plain_pascal.specs.Step.{going, refused, at_gate, arrived, called, given, returned_value, turn_of, turned, stack_charges, stack_charge, stack_room, frame_words, parent_of, newest_words, gate_passed, label_gate, labels_in, small_step}
use Rattle.plain_pascal.specs.Run.{steps_limit, settled, passed, Marks, over_by, driven}
use Rattle.plain_pascal.specs.Evaluation.{End, Left, Broken, Waits, part_ticks, begun, resumed}
use Rattle.plain_pascal.proofs.Ticks.{begun_leads, resumed_leads, settled_leads, end_told, frame_ticks}
use Rattle.plain_pascal.specs.Blocks.{AreInside, IsPath, pascal, blocks_of}
use Rattle.core_tree.specs.Plain.{StatementBlock}
use Rattle.plain_pascal.specs.Stages.{stage_of}
use Rattle.plain_pascal.specs.Marked.{pauses_of, ending_of}
use Rattle.plain_pascal.proofs.Ends.{Fits, begun_fits, resumed_fits}
use Rattle.plain_pascal.proofs.Stage.{IsChain, end_rests, is_called, inside_frames}
use Rattle.plain_pascal.proofs.Chains.{IsChainedRow, IsChained}
use Rattle.plain_pascal.proofs.Named.{statement_found, routine_found}
use Rattle.std.specs.List.{AllByRecursion}
use Rattle.plain_pascal.proofs.Closed.{gate_row, InRoutine, IsClosedRow, IsClosedBlock, HasEntry, HasEntryListed}
use Rattle.plain_pascal.proofs.Driven.{AtStatement, AtGate, PlacedIn, IsPlaced, inner_frames, driven_stage, driven_ends}

-- what is to be known of a table
pub record IsTable (P : Table) (m : ℕ) : Type 0 where
  pub program : HasProgram P
  pub closed : IsClosed pascal (blocks_of P)
  pub rows : AllByRecursion (IsClosedBlock P) P.rows
  pub chains : AllByRecursion (IsChained P) P.rows
  pub entries : AllByRecursion (HasEntryListed P) P.routines
  pub labels : AreLabelled P
  pub small : AreSmall P m
  pub paths : (n : ℕ) (row : Row) (fs : List PendingFrame) → row_of P n ≡ Some row → AreInside (OfStatement row.form) fs → (older : List Control) → frame_ticks P n older fs ≤ steps_limit

module _ (P : Table) (m : ℕ) (T : IsTable P m) where
  chain_of : (n r : ℕ) → (h : HasRow P n r) → IsChain P h.row.continuation
  chain_of n r h = statement_found P (IsChainedRow P) n h.row T.chains h.found

  at_statement : (n r : ℕ) → HasRow P n r → AtStatement P m n
  at_statement n r h = record { row = h.row; found = h.found; chain = chain_of n r h; few = (T.small n h.row h.found).0; near = (T.small n h.row h.found).1 }

  -- ---- it is placed

  no_program : (r : ℕ) → HasRoutine P r → r ≡ 1 → ⊥
  no_program r h e =
      let k : HasRoutine P 1 = subst (λ n. HasRoutine P n) e h in
      let both : Some k.row ≡ Some T.program.row = sym k.found ∙ T.program.found in
      let is : k.row ≡ T.program.row = cc both in
      let f : Some k.form ≡ None = sym k.is_form ∙ ap (λ x. x.form) is ∙ T.program.form in
      absurd (grind (arith, f))

  gate_placed : (n r : ℕ) → IsGateOf P n r → (older : List Control) → AllWait P r older → AtGate P m n older
  unfolding at_statement
  gate_placed n r (inl h) older w = inl (at_statement n r h)
  gate_placed n r (inr h) [] w = absurd (no_program r h.1 w)
  gate_placed n r (inr h) (c ∷ older) w =
      inr (
        subst (λ k. HasRoutine P k) (sym h.0) h.1,
        record { at = at_statement c.statement w.0 w.1.0; path = w.1.1.0; ticks = T.paths c.statement w.1.0.row c.frames w.1.0.found w.1.1.0.0 },
      )

  placed_in : (st : Status) (control : List Control) → StandsIn P st control → PlacedIn P m st control
  placed_in NotStarted control h = absurd h
  placed_in Halted [] h = absurd h
  placed_in Halted (c ∷ older) h = (h.0, gate_placed c.statement h.1.0 h.1.1.0 older h.1.1.1)
  placed_in IsEnded control h = tt
  placed_in (HasFailed e n) [] h = tt
  placed_in (HasFailed e n) (c ∷ older) h = h

  pub stands_placed : (s : PascalState) → Stands P s → IsPlaced P m s
  stands_placed s h = placed_in s.status s.control h

  -- ---- it is kept

  arrived_stands : (k : Continuation) (r : ℕ) → InRoutine P k r → (older : List Control) (d : Data) → AllWait P r older → Stands P (arrived P k older d)
  arrived_stands (ToGate n) r h older d w = (refl, (r, (h, w)))
  arrived_stands (ToLeave n) r h older d w = (refl, (r, (h, w)))
  arrived_stands ToFinish r h older d w = tt
  arrived_stands (ToStep n form body otherwise) r h older d w = by (turn_of form.op form.holds d) (arrived_stands otherwise r h.1 older d w)
    where
      by : (turn : Option Data) → Stands P (arrived P otherwise older d) → Stands P (turned P turn body older (arrived P otherwise older d))
      by None rest = rest
      by (Some t) rest = (refl, (r, (inl h.0, w)))
  arrived_stands (ToEnd n otherwise) r h older d w = arrived_stands otherwise r h older d w

  full_stands : (fs : List PendingFrame) → IsTold 8 fs
  full_stands [] = tt
  full_stands (f ∷ fs) = refl

  end_stands : (n r : ℕ) (h : HasRow P n r) (older : List Control) (e : End) → Fits h.row.form e → AllWait P r older → Stands P (end_told P n older h.row e)
  end_stands n r h older (Left IsBehind d) fits w =
      arrived_stands h.row.continuation r (subst (λ k. InRoutine P h.row.continuation k) h.inside (statement_found P (IsClosedRow P) n h.row T.rows h.found).0.1) older d w
  end_stands n r h older (Left (Inside k) d) fits w =
      (refl, (r, (inl (subst (λ s. HasRow P (slice_index h.row.branches k) s) h.inside ((statement_found P (IsClosedRow P) n h.row T.rows h.found).1 k fits)), w)))
  end_stands n r h older (Left (ToLabel l) d) fits w =
      (refl, (r, (inl (subst (λ s. HasRow P (label_gate (labels_in (routine_of P h.row.routine)) l) s) h.inside (gate_row P h.row.routine h.row.around (label_gate (labels_in (routine_of P h.row.routine)) l) (T.labels n h.row l h.found fits))), w)))
  end_stands n r h older (Broken e d) fits w = tt
  end_stands n r h older (Waits c vs fs d) fits w =
      subst (λ x. Stands P (called P c x vs n fs older d)) (sym callee.found) (by (nat_le (stack_charges d.activations + stack_charge words) stack_room))
    where
      callee : HasRoutine P c.routine.0
      callee = is_called P T.program T.closed n h.row h.found (chain_of n r h) (Waits c vs fs d) fits

      words : List Value
      words = frame_words d callee.row.form vs

      by : (b : Bool) → Stands P (if b then at_gate P callee.row.entry (record { statement = n; frames = fs } ∷ older) (record d { activations = record { routine = callee.row.name; static_link = parent_of c.scope d.activations; words = words; holds = [] } ∷ d.activations }) else refused n fs older d)
      by true = (refl, (callee.row.name, (inl (routine_found P (HasEntry P) c.routine.0 callee.row T.entries callee.found), (r, (h, (fits.0, w))))))
      by false = full_stands fs

  statement_stands : (n r : ℕ) (h : HasRow P n r) (older : List Control) (d : Data) → AllWait P r older → Stands P (passed P (going n [] older d))
  statement_stands n r h older d w =
      subst (Stands P) (sym (settled_leads P (part_ticks h.row.form.parts + 1) (small_step P (going n [] older d)) (end_told P n older h.row (begun h.row.form d)) (begun_leads P n older h.row d h.found)
      (end_rests P n older h.row (begun h.row.form d) (is_called P T.program T.closed n h.row h.found (chain_of n r h) (begun h.row.form d) (begun_fits h.row.form d))) steps_limit (T.small n h.row h.found).0))
      (end_stands n r h older (begun h.row.form d) (begun_fits h.row.form d) w)

  return_stands : (k n s : ℕ) (h : HasRow P n s) (frames : List PendingFrame) → HasRoutine P k → IsPath (StatementBlock h.row.form) frames → (older : List Control) (d : Data) → AllWait P s older
      → Stands P (passed P (going k [] (record { statement = n; frames = frames } ∷ older) d))
  return_stands k n s h [] routine path older d w = absurd path.0
  return_stands k n s h (f ∷ fs) routine path older d w = by f.node f.kept path
    where
      rest : Data
      rest = record d { activations = drop 1 d.activations }

      after : (v : Value) → AreInside (OfStatement h.row.form) fs → Stands P (end_told P n older h.row (resumed fs v rest))
      after v are = end_stands n s h older (resumed fs v rest) (resumed_fits h.row.form fs are v rest) w

      passed_on : Value → PascalState
      passed_on v = settled steps_limit P (going n (given v fs) older rest)

      comes : (v : Value) (are : AreInside (OfStatement h.row.form) fs) → passed_on v ≡ end_told P n older h.row (resumed fs v rest)
      comes v are = settled_leads P (frame_ticks P n older fs) (going n (given v fs) older rest) (end_told P n older h.row (resumed fs v rest))
          (resumed_leads P n older h.row h.found h.row.form fs (inside_frames P T.program T.closed n h.row h.found (chain_of n s h) older fs are) v rest)
          (end_rests P n older h.row (resumed fs v rest) (is_called P T.program T.closed n h.row h.found (chain_of n s h) (resumed fs v rest) (resumed_fits h.row.form fs are v rest))) steps_limit (T.paths n h.row fs h.found are older)

      by : (x : Node) (kept : List Value) → IsPath (StatementBlock h.row.form) (record { node = x; kept = kept } ∷ fs) → Stands P (passed P (going k [] (record { statement = n; frames = record { node = x; kept = kept } ∷ fs } ∷ older) d))
      by (OfExpr (Operation (op.Call call) parts)) kept p =
          let are : AreInside (OfStatement h.row.form) fs = inner_frames P m T.program T.closed h.row.form (Operation (op.Call call) parts) kept fs p.0 in
          let frames : List Control = record { statement = n; frames = record { node = OfExpr (Operation (op.Call call) parts); kept = kept } ∷ fs } ∷ older in
          let left : small_step P (going k [] frames d) ≡ going n (given (returned_value call.function (newest_words d.activations)) fs) older rest = ap (λ x. gate_passed x k frames d) routine.no_statement in
          subst (λ x. Stands P (settled steps_limit P x)) (sym left)
          (subst (Stands P) (sym (comes (returned_value call.function (newest_words d.activations)) are)) (after (returned_value call.function (newest_words d.activations)) are))
      by x kept p = absurd p.1.0

  gate_stands : (n r : ℕ) → IsGateOf P n r → (older : List Control) (d : Data) → AllWait P r older → Stands P (passed P (going n [] older d))
  gate_stands n r (inl h) older d w = statement_stands n r h older d w
  gate_stands n r (inr h) [] d w = absurd (no_program r h.1 w)
  gate_stands n r (inr h) (c ∷ older) d w = return_stands n c.statement w.0 w.1.0 c.frames (subst (λ k. HasRoutine P k) (sym h.0) h.1) w.1.1.0 older d w.1.1.1

  kept_in : (st : Status) (control : List Control) (d : Data) → StandsIn P st control → over_by st ≡ None → Stands P (passed P (record { status = st; control = control; data_now = d }))
  kept_in NotStarted control d h e = absurd h
  kept_in Halted [] d h e = absurd h
  kept_in Halted (c ∷ older) d h e = subst (λ fs. Stands P (passed P (record { status = Halted; control = record { statement = c.statement; frames = fs } ∷ older; data_now = d }))) (sym h.0) (gate_stands c.statement h.1.0 h.1.1.0 older d h.1.1.1)
  kept_in IsEnded control d h e = absurd (grind (arith, e))
  kept_in (HasFailed x n) control d h e = absurd (grind (arith, e))

  pub stands_kept : (s : PascalState) → Stands P s → over_by s.status ≡ None → Stands P (passed P s)
  stands_kept s h e = kept_in s.status s.control s.data_now h e

  -- ---- so runs are runs

  pub run_stage : (marks : Marks) (k : ℕ) (s : PascalState) → Stands P s → stage_of (driven k P marks s).last ≡ go_on pascal (blocks_of P) (suc m) (pauses_of marks) k (stage_of s)
  run_stage marks k s h = driven_stage P m T.program T.closed marks (Stands P) stands_placed stands_kept k s h

  pub run_ends : (marks : Marks) (k : ℕ) (s : PascalState) → Stands P s
      → (driven k P marks s).ending ≡ ending_of marks (k - gates_on pascal (blocks_of P) (suc m) (pauses_of marks) k (stage_of s)) (go_on pascal (blocks_of P) (suc m) (pauses_of marks) k (stage_of s))
  run_ends marks k s h = driven_ends P m T.program T.closed marks (Stands P) stands_placed stands_kept k s h
