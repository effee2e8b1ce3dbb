-- The plain machine's runs from gate to gate are those of the machine of stretches, for every form of statement at once.
use Rattle.std.proofs.Common.{◌≡◌, ℕ, zero, suc, ◌+◌, ◌≤◌, Bool, true, false, List, [], ◌∷◌, map, length, Option, Some, None, refl, sym, ap, ◌∙◌, subst, arith}
use Rattle.std.specs.Prelude.{if◌then◌else◌, slice_index, drop, nat_le}
use Rattle.dice_base.specs.declared.link.LinkTo.{LinkTo}
use Rattle.dice_base.specs.declared.link.LinkTo.TheVariants.{Next, Child, Label, Routine}
use Rattle.core_tree.specs.declared.op.Op.TheVariants as op
use Rattle.core_tree.specs.declared.op.Callee.{Callee}
use Rattle.core_tree.specs.declared.form.ForLoop.{ForLoop}
use Rattle.core_tree.specs.declared.form.StatementOp.TheVariants as stmt
use Rattle.core_tree.specs.declared.form.RoutineForm.{RoutineForm}
use Rattle.core_tree.specs.Plain.{Operation, Exprs, part_at, Form, BlockForm, ProgramBlock, RoutineBlock, StatementBlock}
use Rattle.plain_pascal.specs.Resolved.{HasProgram, HasRoutine, depth}
use Rattle.plain_pascal.specs.Program.{Program as Table, Row, RoutineRow, row_of, routine_of}
use Rattle.core_tree.specs.Control.{Continuation, ToGate, ToStep, ToEnd, ToLeave, ToFinish}
use Rattle.plain_pascal.specs.State.{Value, Node, OfStatement, OfExpr, PendingFrame, Data, Control}
use Rattle.plain_pascal.specs.Statements.{Behind, Inside, ToLabel}
use Rattle.plain_pascal.specs.Step.{held_in, holds_cut, refused, going, at_gate, arrived, called, entered, given, returned_value, turn_of, turned, stack_charges, stack_charge, stack_room, frame_words, parent_of, newest_words, gate_passed, label_gate, labels_in, small_step, parts_of}
use Rattle.plain_pascal.specs.Run.{rests as rests_at, settled, steps_limit, entry_in}
use Rattle.plain_pascal.specs.Evaluation.{End, Left, Broken, Waits, part_ticks, begun, resumed}
use Rattle.plain_pascal.proofs.Named.{row_named}
use Rattle.plain_pascal.proofs.Ticks.{IsOperation, begun_leads, resumed_leads, settled_leads, end_told, AreFrames, frame_ticks}
use Rattle.plain_machine.specs.Links.{Part, First, Gate, Step as StepPart, End as EndPart, Spot, Program}
use Rattle.plain_machine.specs.Meaning.{At, Back, Out, Overflows, HasEnd, IsClosed}
use Rattle.plain_machine.specs.Plain.{Pending, State, Goes, Ended, Failed, Overflowed, Stuck, rests, unless, goes_if, begun_in, begun_at, moved, stretch_of, next, settle}
use Rattle.plain_pascal.specs.Blocks.{Path, Store, store, Arguments, Words, exit_by, exit_turn, enters, arrive, is_for, is_with, has_part, has_way, has_link, next_part, AreInside, IsPath, callee, pascal, gate, spot_of, routine_block, block_in, form_end, routine_end, way_end, blocks_of}
use Rattle.plain_pascal.specs.Stages.{pending, name_in, failed_in, stage_of}
use Rattle.plain_pascal.proofs.Ends.{Fits, begun_fits, resumed_fits, no_statement, path_link}

module _ (P : Table) where
  abbrev B : Program BlockForm
  B = blocks_of P

  -- the steps and ends on the way are those of statements of the table
  pub record IsStep (n : ℕ) (form : Form) (body : ℕ) (otherwise : Continuation) : Type 0 where
    pub row : Row
    pub found : row_of P n ≡ Some row
    pub form_is : row.form ≡ form
    pub loop : ForLoop
    pub op : row.form.op ≡ stmt.For loop
    pub body_is : slice_index row.branches 0 ≡ body
    pub otherwise_is : row.continuation ≡ otherwise

  pub record IsEnd (n : ℕ) (otherwise : Continuation) : Type 0 where
    pub row : Row
    pub found : row_of P n ≡ Some row
    pub op : row.form.op ≡ stmt.With
    pub otherwise_is : row.continuation ≡ otherwise

  abbrev pub IsChain : Continuation → Type 0
  IsChain (ToGate n) = Unit {0}
  IsChain (ToLeave n) = Unit {0}
  IsChain ToFinish = Unit {0}
  IsChain (ToStep n form body otherwise) = IsStep n form body otherwise × IsChain otherwise
  IsChain (ToEnd n otherwise) = IsEnd n otherwise × IsChain otherwise

  -- ---- rests

  settle_rests : (m : ℕ) (x : State Path Store) → rests x ≡ true → settle pascal B m x ≡ x
  settle_rests zero x e = ap (λ b. unless b x (λ y. Stuck)) e
  settle_rests (suc m) x e = ap (λ b. unless b x (λ y. settle pascal B m (next pascal B y))) e

  arrived_rests : (k : Continuation) (older : List Control) (d : Data) → rests_at (arrived P k older d) ≡ true
  arrived_rests (ToGate n) older d = refl
  arrived_rests (ToLeave n) older d = refl
  arrived_rests ToFinish older d = refl
  arrived_rests (ToStep n form body otherwise) older d = by (turn_of form.op form.holds d) (arrived_rests otherwise older d)
    where
      by : (turn : Option Data) → rests_at (arrived P otherwise older d) ≡ true → rests_at (turned P turn body older (arrived P otherwise older d)) ≡ true
      by None h = h
      by (Some t) h = refl
  arrived_rests (ToEnd n otherwise) older d = arrived_rests otherwise older d

  entered_rests : (c : Callee) (r : RoutineRow) (words : List Value) (n : ℕ) (fs : List PendingFrame) (older : List Control) (d : Data) → rests_at (entered P c r words n fs older d) ≡ true
  entered_rests c r words n fs older d = by (nat_le (stack_charges d.activations + stack_charge words) stack_room)
    where
      by : (b : Bool) → rests_at (if b then at_gate P r.entry (record { statement = n; frames = fs } ∷ older) (record d { activations = record { routine = r.name; static_link = parent_of c.scope d.activations; words = words; holds = [] } ∷ d.activations }) else refused n fs older d) ≡ true
      by true = refl
      by false = refl

  -- a call has its routine
  abbrev pub IsCalled : End → Type 0
  IsCalled (Waits c vs fs d) = HasRoutine P c.routine.0
  IsCalled other = Unit {0}

  pub end_rests : (n : ℕ) (older : List Control) (row : Row) (e : End) → IsCalled e → rests_at (end_told P n older row e) ≡ true
  end_rests n older row (Left Behind d) h = arrived_rests row.continuation older d
  end_rests n older row (Left (Inside k) d) h = refl
  end_rests n older row (Left (ToLabel l) d) h = refl
  end_rests n older row (Broken e d) h = refl
  end_rests n older row (Waits c vs fs d) h = ap (λ r. rests_at (called P c r vs n fs older d)) h.found ∙ entered_rests c h.row (frame_words d h.row.form vs) n fs older d

  -- ---- blocks and their parts

  abbrev pub HasPartIn : Option BlockForm → Part → Type 0
  HasPartIn None part = ⊥
  HasPartIn (Some f) part = has_part f part ≡ true

  abbrev pub IsSpot : Spot → Type 0
  IsSpot s = HasPartIn (B.form s.name) s.part

  pub spot_is : (n : ℕ) (to : LinkTo) (s : Spot) → HasEnd pascal B n to → B.link_end n to ≡ Some s → IsSpot s
  spot_is n to s h e =
      let both : Some h.spot ≡ Some s = sym h.leads ∙ e in
      let is : h.spot ≡ s = cc both in
      subst (λ t. IsSpot t) is (subst (λ x. HasPartIn x h.spot.part) (sym h.has) h.part)

  part_opens : (s : Spot) (f : BlockForm) (d : Store) (older : List (Pending Path)) → B.form s.name ≡ Some f → has_part f s.part ≡ true
      → begun_at pascal B (Some s) d older ≡ Goes (record { name = s.name; start = At s.part; data_now = arrive f s.part d; older = older })
  part_opens s f d older e h =
      ap (λ x. begun_in pascal B x s d older) e ∙ ap (λ b. goes_if b (record { name = s.name; start = At s.part; data_now = arrive f s.part d; older = older })) h

  -- what is called has a routine's block
  has_routine : (n : ℕ) (c : Callee) → HasEnd pascal B n (Routine c.routine) → B.link_end n (Routine c.routine) ≡ routine_end c.routine.0 (routine_of P c.routine.0) → HasRoutine P c.routine.0
  has_routine n c h e = by (routine_of P c.routine.0) refl (sym e ∙ h.leads)
    where
      no_row : (x : Option Row) → row_of P c.routine.0 ≡ x → HasPartIn (block_in x (routine_of P c.routine.0)) First → row_of P c.routine.0 ≡ None
      no_row None is part = is
      no_row (Some row) is part = absurd (grind (arith, part))

      of_form : (r : RoutineRow) → routine_of P c.routine.0 ≡ Some r → (f : Option RoutineForm) → r.form ≡ f → form_end c.routine.0 f ≡ Some h.spot → HasRoutine P c.routine.0
      of_form r found None is leads = absurd (grind (arith, leads))
      of_form r found (Some f) is leads = record {
        row = r;
        found = found;
        name = row_named P c.routine.0 r found;
        form = f;
        is_form = is;
        no_statement = no_row (row_of P c.routine.0) refl (spot_is n (Routine c.routine) (record { name = c.routine.0; part = First }) h (h.leads ∙ sym leads));
      }

      by : (x : Option RoutineRow) → routine_of P c.routine.0 ≡ x → routine_end c.routine.0 x ≡ Some h.spot → HasRoutine P c.routine.0
      by None is leads = absurd (grind (arith, leads))
      by (Some r) is leads = of_form r is r.form refl leads

  -- ---- where control goes

  gate_opens : (n : ℕ) (older : List Control) (d : Data) → IsSpot (gate n) → stage_of (at_gate P n older d) ≡ begun_at pascal B (Some (gate n)) (store d) (map pending older)
  gate_opens n older d h = by (row_of P n) (routine_of P n) h
    where
      at : ℕ → State Path Store
      at count = Goes (record { name = n; start = At Gate; data_now = store (record d { activations = holds_cut count d.activations }); older = map pending older })

      of_routine : (f : Option RoutineForm) → has_part (routine_block f) Gate ≡ true → at 0 ≡ begun_in pascal B (Some (routine_block f)) (gate n) (store d) (map pending older)
      of_routine None h = absurd (grind (arith, h))
      of_routine (Some f) h = refl

      by : (x : Option Row) (r : Option RoutineRow) → HasPartIn (block_in x r) Gate → at (held_in x) ≡ begun_in pascal B (block_in x r) (gate n) (store d) (map pending older)
      by (Some row) r h = refl
      by None (Some r) h = of_routine r.form h
      by None None h = absurd h

  pub gate_stage : (m n : ℕ) (older : List Control) (d : Data) → IsSpot (gate n) → stage_of (at_gate P n older d) ≡ settle pascal B m (begun_at pascal B (Some (gate n)) (store d) (map pending older))
  gate_stage m n older d h = sym (settle_rests m (stage_of (at_gate P n older d)) refl) ∙ ap (settle pascal B m) (gate_opens n older d h)

  module _ (program : HasProgram P) (closed : IsClosed pascal B) where
    pub program_block : B.form 1 ≡ Some ProgramBlock
    program_block = ap (λ r. block_in r (routine_of P 1)) program.no_statement ∙ ap (λ r. block_in None r) program.found ∙ ap (λ f. Some (routine_block f)) program.form

    arrived_stage : (k : Continuation) → IsChain k → IsSpot (spot_of k) → (older : List Control) (d : Data) (m : ℕ) → depth k ≤ m → stage_of (arrived P k older d) ≡ settle pascal B m (begun_at pascal B (Some (spot_of k)) (store d) (map pending older))
    arrived_stage (ToGate n) h spot older d m le = gate_stage m n older d spot
    arrived_stage (ToLeave n) h spot older d m le = gate_stage m n older d spot
    arrived_stage ToFinish h spot older d zero le = absurd (omega (arith, le))
    arrived_stage ToFinish h spot older d (suc m) le =
        sym (ap (settle pascal B (suc m)) (part_opens (spot_of ToFinish) ProgramBlock (store d) (map pending older) program_block refl)
        ∙ ap (λ f. settle pascal B m (stretch_of pascal B (record { name = 1; start = At EndPart; data_now = store d; older = map pending older }) f)) program_block
        ∙ settle_rests m (Ended 1 (store (record d { activations = [] }))) refl)
    arrived_stage (ToStep n form body otherwise) h spot older d zero le = absurd (omega (arith, le))
    arrived_stage (ToStep n form body otherwise) h spot older d (suc m) le =
        by (turn_of form.op form.holds d) (arrived_stage otherwise h.1 next_spot older d m (omega (arith, le)))
        ∙ ap (settle pascal B m) (sym opened)
        ∙ ap (settle pascal B (suc m)) (sym (part_opens (record { name = n; part = StepPart }) (StatementBlock row.form) (store d) (map pending older) form_is (ap is_for h.0.op)))
      where
        row : Row
        row = h.0.row

        form_is : B.form n ≡ Some (StatementBlock row.form)
        form_is = ap (λ r. block_in r (routine_of P n)) h.0.found

        ways : Option Data → State Path Store
        ways turn = moved pascal B n (map pending older) (exit_turn turn d)

        opened : stretch_of pascal B (record { name = n; start = At StepPart; data_now = store d; older = map pending older }) (B.form n) ≡ ways (turn_of form.op form.holds d)
        opened =
            ap (λ r. stretch_of pascal B (record { name = n; start = At StepPart; data_now = store d; older = map pending older }) (block_in r (routine_of P n))) h.0.found
            ∙ ap (λ f. ways (turn_of f.op f.holds d)) h.0.form_is

        next_end : B.link_end n Next ≡ Some (spot_of otherwise)
        next_end = ap (λ r. way_end P r n Next) h.0.found ∙ ap (λ k. Some (spot_of k)) h.0.otherwise_is

        body_end : B.link_end n (Child 0) ≡ Some (gate body)
        body_end = ap (λ r. way_end P r n (Child 0)) h.0.found ∙ ap (λ k. Some (gate k)) h.0.body_is

        next_spot : IsSpot (spot_of otherwise)
        next_spot = spot_is n Next (spot_of otherwise) (closed n (StatementBlock row.form) Next form_is (ap (λ o. has_way o Next) h.0.op)) next_end

        body_spot : IsSpot (gate body)
        body_spot = spot_is n (Child 0) (gate body) (closed n (StatementBlock row.form) (Child 0) form_is (ap (λ o. has_way o (Child 0)) h.0.op)) body_end

        by : (turn : Option Data) → stage_of (arrived P otherwise older d) ≡ settle pascal B m (begun_at pascal B (Some (spot_of otherwise)) (store d) (map pending older))
            → stage_of (turned P turn body older (arrived P otherwise older d)) ≡ settle pascal B m (ways turn)
        by None rest = rest ∙ ap (λ s. settle pascal B m (begun_at pascal B s (store d) (map pending older))) (sym next_end)
        by (Some t) rest = gate_stage m body older t body_spot ∙ ap (λ s. settle pascal B m (begun_at pascal B s (store t) (map pending older))) (sym body_end)
    arrived_stage (ToEnd n otherwise) h spot older d zero le = absurd (omega (arith, le))
    arrived_stage (ToEnd n otherwise) h spot older d (suc m) le =
        arrived_stage otherwise h.1 (spot_is n Next (spot_of otherwise) (closed n (StatementBlock h.0.row.form) Next form_is (ap (λ o. has_way o Next) h.0.op)) next_end) older d m (omega (arith, le))
        ∙ ap (λ s. settle pascal B m (begun_at pascal B s (store d) (map pending older))) (sym next_end)
        ∙ ap (settle pascal B m) (sym (ap (λ r. stretch_of pascal B (record { name = n; start = At EndPart; data_now = store d; older = map pending older }) (block_in r (routine_of P n))) h.0.found))
        ∙ ap (settle pascal B (suc m)) (sym (part_opens (record { name = n; part = EndPart }) (StatementBlock h.0.row.form) (store d) (map pending older) form_is (ap is_with h.0.op)))
      where
        form_is : B.form n ≡ Some (StatementBlock h.0.row.form)
        form_is = ap (λ r. block_in r (routine_of P n)) h.0.found

        next_end : B.link_end n Next ≡ Some (spot_of otherwise)
        next_end = ap (λ r. way_end P r n Next) h.0.found ∙ ap (λ k. Some (spot_of k)) h.0.otherwise_is

    -- ---- how a statement is left

    -- stretches from the end of a statement to the next gate: none, those of the chain, or that of the routine called
    abbrev pub most_after : Row → ℕ
    most_after row = depth row.continuation + 1

    module _ (n : ℕ) (row : Row) (found : row_of P n ≡ Some row) (chain : IsChain row.continuation) where
      way : (to : LinkTo) → B.link_end n to ≡ way_end P (Some row) n to
      way to = ap (λ r. way_end P r n to) found

      form_is : B.form n ≡ Some (StatementBlock row.form)
      form_is = ap (λ x. block_in x (routine_of P n)) found

      leads : (to : LinkTo) (s : Spot) → has_link (StatementBlock row.form) to ≡ true → way_end P (Some row) n to ≡ Some s → IsSpot s
      leads to s h e = spot_is n to s (closed n (StatementBlock row.form) to form_is h) (way to ∙ e)

      called_by : (c : Callee) (fs : List PendingFrame) → IsPath (StatementBlock row.form) fs → callee fs ≡ Routine c.routine → HasRoutine P c.routine.0
      called_by c fs path e =
          has_routine n c (closed n (StatementBlock row.form) (Routine c.routine) form_is (ap (has_link (StatementBlock row.form)) (sym e) ∙ path_link row.form fs path)) (way (Routine c.routine))

      -- a call has its routine
      pub is_called : (e : End) → Fits row.form e → IsCalled e
      is_called (Left to d) h = tt
      is_called (Broken e d) h = tt
      is_called (Waits c vs fs d) h = called_by c fs h.0 h.1

      called_stage : (c : Callee) (vs : List Value) (fs : List PendingFrame) (d : Data) (older : List Control) → IsPath (StatementBlock row.form) fs → callee fs ≡ Routine c.routine → HasRoutine P c.routine.0 → (m : ℕ)
          → stage_of (called P c (routine_of P c.routine.0) vs n fs older d) ≡ settle pascal B (suc m) (moved pascal B n (map pending older) (exit_by (Waits c vs fs d)))
      called_stage c vs fs d older path is h m =
          ap (λ r. stage_of (called P c r vs n fs older d)) h.found
          ∙ by (nat_le (stack_charges d.activations + stack_charge words) stack_room)
          ∙ ap (settle pascal B m) (sym entering)
          ∙ ap (settle pascal B (suc m)) (sym (part_opens first (RoutineBlock h.form) passed waiting block refl))
          ∙ ap (λ s. settle pascal B (suc m) (begun_at pascal B s passed waiting)) (sym (ap (B.link_end n) is ∙ way (Routine c.routine) ∙ ap (routine_end c.routine.0) h.found ∙ ap (form_end c.routine.0) h.is_form))
        where
          first : Spot
          first = record { name = c.routine.0; part = First }

          words : List Value
          words = frame_words d h.row.form vs

          passed : Store
          passed = record { data_now = d; passed = Arguments c.routine.0 c vs }

          waiting : List (Pending Path)
          waiting = record { name = n; path = fs } ∷ map pending older

          inside : ℕ → Data
          inside name = record d { activations = record { routine = name; static_link = parent_of c.scope d.activations; words = words; holds = [] } ∷ d.activations }

          ways : Bool → State Path Store
          ways b = moved pascal B c.routine.0 waiting (if b then Out (Child 0) (store (inside c.routine.0)) else Overflows (store d))

          block : B.form c.routine.0 ≡ Some (RoutineBlock h.form)
          block = ap (λ r. block_in r (routine_of P c.routine.0)) h.no_statement ∙ ap (λ r. block_in None r) h.found ∙ ap (λ f. Some (routine_block f)) h.is_form

          entering : stretch_of pascal B (record { name = c.routine.0; start = At First; data_now = passed; older = waiting }) (B.form c.routine.0) ≡ ways (nat_le (stack_charges d.activations + stack_charge words) stack_room)
          entering =
              ap (λ f. stretch_of pascal B (record { name = c.routine.0; start = At First; data_now = passed; older = waiting }) f) block
              ∙ ap (λ f. moved pascal B c.routine.0 waiting (enters c.routine.0 c (frame_words d f vs) d)) (sym h.is_form)

          entry : B.link_end c.routine.0 (Child 0) ≡ Some (gate h.row.entry)
          entry = ap (λ r. way_end P r c.routine.0 (Child 0)) h.no_statement ∙ ap (λ r. Some (gate (entry_in r))) h.found

          entry_spot : IsSpot (gate h.row.entry)
          entry_spot = spot_is c.routine.0 (Child 0) (gate h.row.entry) (closed c.routine.0 (RoutineBlock h.form) (Child 0) block refl) entry

          full : (gs : List PendingFrame) → IsPath (StatementBlock row.form) gs → callee gs ≡ Routine c.routine → failed_in 8 n gs d ≡ Overflowed c.routine.0 (record { name = n; path = gs }) (store d)
          full [] p e = absurd p.0
          full (g ∷ gs) p e = ap (λ l. Overflowed (name_in l) (record { name = n; path = g ∷ gs }) (store d)) e

          by : (b : Bool) → stage_of (if b then at_gate P h.row.entry (record { statement = n; frames = fs } ∷ older) (inside h.row.name) else refused n fs older d) ≡ settle pascal B m (ways b)
          by true =
              gate_stage m h.row.entry (record { statement = n; frames = fs } ∷ older) (inside h.row.name) entry_spot
              ∙ ap (λ s. settle pascal B m (begun_at pascal B s (store (inside h.row.name)) waiting)) (sym entry)
              ∙ ap (λ k. settle pascal B m (begun_at pascal B (B.link_end c.routine.0 (Child 0)) (store (inside k)) waiting)) h.name
          by false = full fs path is ∙ sym (settle_rests m (Overflowed c.routine.0 (record { name = n; path = fs }) (store d)) refl)

      end_stage : (e : End) → Fits row.form e → (older : List Control) (m : ℕ) → most_after row ≤ m → stage_of (end_told P n older row e) ≡ settle pascal B m (moved pascal B n (map pending older) (exit_by e))
      end_stage (Left Behind d) h older m le =
          arrived_stage row.continuation chain (leads Next (spot_of row.continuation) h refl) older d m (omega (arith, le)) ∙ ap (λ s. settle pascal B m (begun_at pascal B s (store d) (map pending older))) (sym (way Next))
      end_stage (Left (Inside k) d) h older m le =
          gate_stage m (slice_index row.branches k) older d (leads (Child k) (gate (slice_index row.branches k)) h refl) ∙ ap (λ s. settle pascal B m (begun_at pascal B s (store d) (map pending older))) (sym (way (Child k)))
      end_stage (Left (ToLabel l) d) h older m le =
          gate_stage m (label_gate (labels_in (routine_of P row.routine)) l) older d (leads (Label l) (gate (label_gate (labels_in (routine_of P row.routine)) l)) h refl)
          ∙ ap (λ s. settle pascal B m (begun_at pascal B s (store d) (map pending older))) (sym (way (Label l)))
      end_stage (Broken e d) h older m le = sym (settle_rests m (Failed e n (store d)) refl)
      end_stage (Waits c vs fs d) h older zero le = absurd (omega (arith, le))
      end_stage (Waits c vs fs d) h older (suc m) le = called_stage c vs fs d older h.0 h.1 (called_by c fs h.0 h.1) m

      -- a statement, from its gate to the next one
      pub statement_stage : (d : Data) (older : List Control) (m : ℕ) → part_ticks row.form.parts + 1 ≤ steps_limit → most_after row ≤ m
          → stage_of (settled steps_limit P (small_step P (going n [] older d))) ≡ settle pascal B m (next pascal B (stage_of (going n [] older d)))
      statement_stage d older m few le =
          ap stage_of (settled_leads P (part_ticks row.form.parts + 1) (small_step P (going n [] older d)) (end_told P n older row (begun row.form d))
          (begun_leads P n older row d found) (end_rests n older row (begun row.form d) (is_called (begun row.form d) (begun_fits row.form d))) steps_limit few)
          ∙ end_stage (begun row.form d) (begun_fits row.form d) older m le
          ∙ ap (λ r. settle pascal B m (stretch_of pascal B (record { name = n; start = At Gate; data_now = store d; older = map pending older }) (block_in r (routine_of P n)))) (sym found)

      pub inside_frames : (older : List Control) (fs : List PendingFrame) → AreInside (OfStatement row.form) fs → AreFrames P n older row.form fs
      inside_frames older [] h = h
      inside_frames older (f ∷ []) h = h
      inside_frames older (f ∷ (g ∷ fs)) h = (operation f.node h.0, inside_frames older (g ∷ fs) h.1)
        where
          operation : (x : Node) → next_part g ≡ Some x → IsOperation P n older x
          operation (OfStatement form) e = absurd (no_statement (part_at (parts_of g.node) (length g.kept)) form e)
          operation (OfExpr x) e = tt

      -- a routine, from its gate to the gate behind its call
      pub return_stage : (r : ℕ) (fs : List PendingFrame) (older : List Control) (d : Data) (m : ℕ) → HasRoutine P r
          → (call : Callee) (parts : Exprs) (kept : List Value) → AreInside (OfStatement row.form) fs → frame_ticks P n older fs ≤ steps_limit → most_after row ≤ m
          → stage_of (settled steps_limit P (small_step P (going r [] (record { statement = n; frames = record { node = OfExpr (Operation (op.Call call) parts); kept = kept } ∷ fs } ∷ older) d)))
          ≡ settle pascal B (suc m) (next pascal B (stage_of (going r [] (record { statement = n; frames = record { node = OfExpr (Operation (op.Call call) parts); kept = kept } ∷ fs } ∷ older) d)))
      return_stage r fs older d m h call parts kept are few le =
          ap (λ x. stage_of (settled steps_limit P x)) left_gate
          ∙ ap stage_of (settled_leads P (frame_ticks P n older fs) (going n (given result fs) older rest) (end_told P n older row (resumed fs result rest))
          (resumed_leads P n older row found row.form fs (inside_frames older fs are) result rest) (end_rests n older row (resumed fs result rest) (is_called (resumed fs result rest) fits)) steps_limit few)
          ∙ end_stage (resumed fs result rest) fits older m le
          ∙ ap (λ f. settle pascal B m (stretch_of pascal B (record { name = n; start = Back frames; data_now = handed; older = map pending older }) f)) (sym (ap (λ x. block_in x (routine_of P n)) found))
          ∙ ap (settle pascal B (suc m)) (sym (ap (λ f. stretch_of pascal B (record { name = r; start = At Gate; data_now = store d; older = record { name = n; path = frames } ∷ map pending older }) f)
          (ap (λ x. block_in x (routine_of P r)) h.no_statement ∙ ap (λ x. block_in None x) h.found ∙ ap (λ f. Some (routine_block f)) h.is_form)))
        where
          frames : List PendingFrame
          frames = record { node = OfExpr (Operation (op.Call call) parts); kept = kept } ∷ fs

          rest : Data
          rest = record d { activations = drop 1 d.activations }

          result : Value
          result = returned_value call.function (newest_words d.activations)

          fits : Fits row.form (resumed fs result rest)
          fits = resumed_fits row.form fs are result rest

          handed : Store
          handed = record { data_now = rest; passed = Words (newest_words d.activations) }

          left_gate : small_step P (going r [] (record { statement = n; frames = frames } ∷ older) d) ≡ going n (given result fs) older rest
          left_gate = ap (λ x. gate_passed x r (record { statement = n; frames = frames } ∷ older) d) h.no_statement
