-- The plain machine's states as states of the machine of stretches, and its runs as runs of stretches.
use Rattle.std.proofs.Common.{◌≡◌, ℕ, zero, suc, Bool, true, false, List, [], ◌∷◌, Some, refl, sym, ap, ◌∙◌, subst, arith}
use Rattle.std.specs.Prelude.{◌==◌, if◌then◌else◌, find}
use Rattle.dice_base.specs.declared.link.LinkTo.{LinkTo}
use Rattle.dice_base.specs.declared.link.LinkTo.TheVariants.{Next}
use Rattle.console_service.specs.Block.{First, Gate}
use Rattle.console_service.specs.Semantics.{At}
use Rattle.console_service.specs.Plain.{FormProgram, StretchState, Goes, Ended, Failed, IsLive, stretch_unless, ends_run, begun_at, moved, stretch_of, next, settle, drive}
use Rattle.pascal_semantics.specs.declared.form.Statement.{Statement}
use Rattle.pascal_semantics.specs.declared.form.SimpleForm.{SimpleForm}
use Rattle.pascal_semantics.specs.declared.form.SimpleForm.TheVariants.{Assign, WriteLine, Empty}
use Rattle.pascal_semantics.specs.Program.{Program as PascalProgram, Target, Gate as GateOf, Finish, Row, row_of, rows_of, entry_of, program_of}
use Rattle.pascal_semantics.specs.Valid.{program_name, IsFree}
use Rattle.pascal_semantics.specs.State.{Status, NotStarted, Halted, Ended as IsEnded, Failed as HasFailed, Activation, State as PascalState}
use Rattle.pascal_semantics.specs.Step.{Evaluation, Value, Error, small_step}
use Rattle.pascal_semantics.specs.Evaluations.{form_evaluation}
use Rattle.pascal_semantics.specs.Run.{settled, driven, steps_limit, started, is_over, unless as unless_over}
use Rattle.pascal_semantics.proofs.Settles.{before_gate, outcome_state, statement_settles}
use Rattle.statement_code.specs.Forms.{BlockForm, ProgramBlock, StatementBlock, NoCall, Store, after_effect, exit_by, simple}
use Rattle.image_plan.specs.Links.{blocks_of, spot_of, form_of, end_of}
use Rattle.image_plan.proofs.Laid.{same_test, other_test, found_apart}
use Rattle.dice_session.specs.World.{newest_name}
use Rattle.dice_session.specs.Simulates.{IsAtStatement}

abbrev pub store_of : PascalState → Bool → Store
store_of s started = record { globals = s.globals; output = s.output; started = started }

abbrev pub stage_by : Status → PascalState → StretchState NoCall Store
stage_by NotStarted s = Goes (record { name = program_name; start = At First; data_now = store_of s false; older = [] })
stage_by Halted s = Goes (record { name = newest_name s.activations; start = At Gate; data_now = store_of s true; older = [] })
stage_by IsEnded s = Ended program_name (store_of s true)
stage_by (HasFailed error name) s = Failed error name (store_of s true)

abbrev pub stage_of : PascalState → StretchState NoCall Store
stage_of s = stage_by s.status s

-- a state that a run leaves
abbrev pub HasRunBy : List Statement → Status → List Activation → Type 0
HasRunBy fs NotStarted activations = ⊥
HasRunBy fs Halted activations = IsAtStatement fs activations
HasRunBy fs IsEnded activations = Unit {0}
HasRunBy fs (HasFailed error name) activations = Unit {0}

abbrev pub HasRun : List Statement → PascalState → Type 0
HasRun fs s = HasRunBy fs s.status s.activations

-- no gate is marked
abbrev pub unmarked : ℕ → Bool
unmarked n = false

-- a statement leads to a gate within two stretches
abbrev pub short : ℕ
short = 2

pub stage_live : (s : PascalState) → IsLive (stage_of s)
stage_live s = by s.status
  where
    by : (x : Status) → IsLive (stage_by x s)
    by NotStarted = tt
    by Halted = tt
    by IsEnded = tt
    by (HasFailed error name) = tt

-- ---- names

-- a statement is not the program
pub not_program : (ss : List Statement) (m : ℕ) (row : Row) → IsFree program_name ss → row_of (program_of ss) m ≡ Some row → (m == program_name) ≡ false
not_program ss m row free e = other_test m program_name (λ x. (found_apart program_name ss m row free e).name (sym x))

-- each place that a statement leads to is a statement's
row_closed : (ss : List Statement) (m k : ℕ) (row : Row) → find (λ r. r.name == m) (rows_of ss) ≡ Some row → row.continuation ≡ GateOf k → (later : Row) × (find (λ r. r.name == k) (rows_of ss) ≡ Some later)
row_closed [] m k row e g = absurd (grind (arith, e))
row_closed (s ∷ ss) m k row e g = by (s.name == m) e (λ h. row_closed ss m k row h g)
  where
    first_row : Row
    first_row = record { name = s.name; form = s.form; continuation = entry_of ss }

    entry_row : (gs : List Statement) → entry_of gs ≡ GateOf k → (later : Row) × (find (λ r. r.name == k) (rows_of gs) ≡ Some later)
    entry_row [] h = absurd (grind (arith, h))
    entry_row (x ∷ gs) h =
        let same : x.name ≡ k = cc h in
        (record { name = x.name; form = x.form; continuation = entry_of gs }, ap (λ b. if b then Some (record { name = x.name; form = x.form; continuation = entry_of gs }) else find (λ r. r.name == k) (rows_of gs)) (same_test x.name k same))

    lift : (b : Bool) → (s.name == k) ≡ b → (later : Row) × (find (λ r. r.name == k) (rows_of ss) ≡ Some later) → (later : Row) × (find (λ r. r.name == k) (rows_of (s ∷ ss)) ≡ Some later)
    lift true t h = (first_row, ap (λ b. if b then Some first_row else find (λ r. r.name == k) (rows_of ss)) t)
    lift false t h = (h.0, ap (λ b. if b then Some first_row else find (λ r. r.name == k) (rows_of ss)) t ∙ h.1)

    by : (b : Bool) → (if b then Some first_row else find (λ r. r.name == m) (rows_of ss)) ≡ Some row
        → (find (λ r. r.name == m) (rows_of ss) ≡ Some row → (later : Row) × (find (λ r. r.name == k) (rows_of ss) ≡ Some later))
        → (later : Row) × (find (λ r. r.name == k) (rows_of (s ∷ ss)) ≡ Some later)
    by true h rest = let same : first_row ≡ row = cc h in lift (s.name == k) refl (entry_row ss (ap (λ r. r.continuation) same ∙ g))
    by false h rest = lift (s.name == k) refl (rest h)

-- ---- one statement

module _ (ss : List Statement) (free : IsFree program_name ss) where
  abbrev P : PascalProgram
  P = program_of ss

  abbrev B : FormProgram BlockForm
  B = blocks_of P

  -- the program's end part ends the program
  ends : (d : Store) → settle simple B short (begun_at simple B (spot_of Finish) d []) ≡ Ended program_name d
  ends d = refl

  -- a statement's form and the end of its link
  pub form_at : (n : ℕ) (row : Row) → row_of P n ≡ Some row → B.form n ≡ Some (StatementBlock row.form)
  form_at n row e = ap (λ b. if b then Some ProgramBlock else form_of (row_of P n)) (not_program ss n row free e) ∙ ap form_of e

  end_at : (n : ℕ) (row : Row) (to : LinkTo) → row_of P n ≡ Some row → B.link_end n to ≡ spot_of row.continuation
  end_at n row to e = ap (λ b. if b then spot_of P.entry else end_of (row_of P n)) (not_program ss n row free e) ∙ ap end_of e

  -- where control arrives, as a stage
  arrives : (t : Target) (f : SimpleForm) (v n : ℕ) (globals output : List ℕ) → stage_of (outcome_state (Value v) f t n globals output) ≡ settle simple B short (begun_at simple B (spot_of t) (after_effect f v (record { globals = globals; output = output; started = true })) [])
  arrives (GateOf k) (Assign g e) v n globals output = refl
  arrives (GateOf k) (WriteLine e w) v n globals output = refl
  arrives (GateOf k) Empty v n globals output = refl
  arrives Finish (Assign g e) v n globals output = refl
  arrives Finish (WriteLine e w) v n globals output = refl
  arrives Finish Empty v n globals output = refl

  outcome_stage : (r : Evaluation) (row : Row) (n : ℕ) (globals output : List ℕ) → row_of P n ≡ Some row → stage_of (outcome_state r row.form row.continuation n globals output) ≡ settle simple B short (moved simple B n [] (exit_by row.form (record { globals = globals; output = output; started = true }) r))
  outcome_stage (Value v) row n globals output e = arrives row.continuation row.form v n globals output ∙ ap (λ spot. settle simple B short (begun_at simple B spot (after_effect row.form v (record { globals = globals; output = output; started = true })) [])) (sym (end_at n row Next e))
  outcome_stage (Error number) row n globals output e = refl

  -- a whole statement is what its stretch and the one behind it do
  pub statement_stage : (n : ℕ) (row : Row) (globals output : List ℕ) → row_of P n ≡ Some row → stage_of (settled steps_limit P (small_step P (before_gate n globals output))) ≡ settle simple B short (next simple B (stage_of (before_gate n globals output)))
  statement_stage n row globals output e =
      ap stage_of (statement_settles P n row globals output e)
      ∙ outcome_stage (form_evaluation row.form globals) row n globals output e
      ∙ ap (λ o. settle simple B short (stretch_of simple B (record { name = n; start = At Gate; data_now = record { globals = globals; output = output; started = true }; older = [] }) o)) (sym (form_at n row e))

  -- ---- a run of the program

  driven_over : (k : ℕ) (s : PascalState) → is_over s ≡ true → driven k P s ≡ s
  unfolding driven
  driven_over zero s e = refl
  driven_over (suc k) s e = ap (λ b. unless_over b s (λ t. driven k P (settled steps_limit P (small_step P t)))) e

  driven_zero : (n : ℕ) (globals output : List ℕ) → driven zero P (before_gate n globals output) ≡ before_gate n globals output
  unfolding driven
  driven_zero n globals output = refl

  driven_on : (k n : ℕ) (globals output : List ℕ) → driven (suc k) P (before_gate n globals output) ≡ driven k P (settled steps_limit P (small_step P (before_gate n globals output)))
  unfolding driven
  driven_on k n globals output = refl

  -- what a run comes to, as a stage, and that its state is one of the program
  pub record Driven (k : ℕ) (s : PascalState) (y : StretchState NoCall Store) : Type 0 where
    pub stage : stage_of (driven k P s) ≡ y
    pub formed : HasRun ss (driven k P s)

  pub driven_ended : (k : ℕ) (s : PascalState) → is_over s ≡ true → HasRun ss s → Driven k s (stage_of s)
  driven_ended k s e formed = record { stage = ap stage_of (driven_over k s e); formed = subst (HasRun ss) (sym (driven_over k s e)) formed }

  next_row : (m k : ℕ) (row : Row) → row_of P m ≡ Some row → row.continuation ≡ GateOf k → (next : Row) × (row_of P k ≡ Some next)
  next_row m k row e g = row_closed ss m k row e g

  -- behind a statement
  after_is : (k : ℕ) (r : Evaluation) (n : ℕ) (row : Row) (globals output : List ℕ) → row_of P n ≡ Some row
      → ((m : ℕ) (next : Row) (globals output : List ℕ) → row_of P m ≡ Some next → Driven k (before_gate m globals output) (drive simple B short unmarked k (stage_of (before_gate m globals output))))
      → let s = outcome_state r row.form row.continuation n globals output in Driven k s (stretch_unless (ends_run unmarked (stage_of s)) (stage_of s) (λ y. drive simple B short unmarked k y))
  after_is k (Error number) n row globals output e next = driven_ended k _ refl tt
  after_is k (Value v) n row globals output e next = by row.continuation refl row.form
    where
      by : (t : Target) → row.continuation ≡ t → (f : SimpleForm) → let s = outcome_state (Value v) f t n globals output in Driven k s (stretch_unless (ends_run unmarked (stage_of s)) (stage_of s) (λ y. drive simple B short unmarked k y))
      by (GateOf m) g (Assign w x) = let (row2, e2) = next_row n m row e g in next m row2 _ _ e2
      by (GateOf m) g (WriteLine x w) = let (row2, e2) = next_row n m row e g in next m row2 _ _ e2
      by (GateOf m) g Empty = let (row2, e2) = next_row n m row e g in next m row2 _ _ e2
      by Finish g (Assign w x) = driven_ended k _ refl tt
      by Finish g (WriteLine x w) = driven_ended k _ refl tt
      by Finish g Empty = driven_ended k _ refl tt

  pub driven_is : (k n : ℕ) (row : Row) (globals output : List ℕ) → row_of P n ≡ Some row → Driven k (before_gate n globals output) (drive simple B short unmarked k (stage_of (before_gate n globals output)))
  driven_is zero n row globals output e = record { stage = ap stage_of (driven_zero n globals output); formed = subst (HasRun ss) (sym (driven_zero n globals output)) (n, row, e, refl) }
  driven_is (suc k) n row globals output e =
      let r = form_evaluation row.form globals in
      let s = outcome_state r row.form row.continuation n globals output in
      let on : driven (suc k) P (before_gate n globals output) ≡ driven k P s = driven_on k n globals output ∙ ap (driven k P) (statement_settles P n row globals output e) in
      let after = after_is k r n row globals output e (λ m next g o h. driven_is k m next g o h) in
      let here : stage_of s ≡ settle simple B short (next simple B (stage_of (before_gate n globals output))) = sym (ap stage_of (statement_settles P n row globals output e)) ∙ statement_stage n row globals output e in
      record {
        stage = ap stage_of on ∙ after.stage ∙ ap (λ y. stretch_unless (ends_run unmarked y) y (λ y. drive simple B short unmarked k y)) here;
        formed = subst (HasRun ss) (sym on) after.formed;
      }
