-- Single steps lead to what evaluating an expression, or carrying out a statement, comes to at once.
use Rattle.std.proofs.Common.{◌≡◌, ℕ, zero, suc, ◌+◌, ◌-◌, ◌<◌, ◌≤◌, Bool, true, false, nat_lt, List, [], ◌∷◌, ◌++◌, length, Some, None, refl, sym, ap, ◌∙◌, subst, arith}
use Rattle.std.proofs.lemmas.Bool.Decides.{nat_tests}
use Rattle.core_tree.specs.declared.op.Op.{Op}
use Rattle.core_tree.specs.declared.op.Op.TheVariants as op
use Rattle.core_tree.specs.declared.op.Callee.{Callee}
use Rattle.core_tree.specs.Plain.{Expr, Operation, Exprs, NoMore, And, part_at, Form}
use Rattle.plain_pascal.specs.Program.{Program, Row, row_of, routine_of}
use Rattle.plain_pascal.specs.State.{Value, Node, OfStatement, OfExpr, PendingFrame, Data, Control, State}
use Rattle.plain_pascal.specs.Integers.{Result, Gives, Fails}
use Rattle.plain_pascal.specs.Operations.{value_of}
use Rattle.plain_pascal.specs.Statements.{Effect, Does, Errs, effect_of, Exit, Leaves, Breaks, exit_of}
use Rattle.plain_pascal.specs.Step.{going, failed, left, given, called, gone, delivered, effected, operated, frame_of, small_step}
use Rattle.plain_pascal.specs.Run.{rests, unless, settled}
use Rattle.plain_pascal.specs.Evaluation.{Outcome, Comes, Stops, Calls, of_result, of_effect, of_operation, then_with, frame_with, ticks, part_ticks, evaluated, parts_evaluated, End, Left, Broken, Waits, of_exit, onward, carried_out, begun, parts_from, resumed_in, resumed}

-- so many steps
unfoldable pub steps : ℕ → Program → State → State
steps zero P s = s
steps (suc n) P s = steps n P (small_step P s)

-- the steps lead there, so many at the most, and the machine comes to no rest on the way
pub record Leads (P : Program) (most : ℕ) (s t : State) : Type 0 where
  pub count : ℕ
  pub few : count ≤ most
  pub run : steps count P s ≡ t
  pub awake : (k : ℕ) → k < count → rests (steps k P s) ≡ false

steps_on : (m n : ℕ) (P : Program) (s : State) → steps (m + n) P s ≡ steps n P (steps m P s)
unfolding steps
steps_on zero n P s = let e : zero + n ≡ n = omega arith in ap (λ k. steps k P s) e
steps_on (suc m) n P s = let e : suc m + n ≡ suc (m + n) = omega arith in ap (λ k. steps k P s) e ∙ steps_on m n P (small_step P s)

pub then_leads : (P : Program) (a b : ℕ) (s t u : State) → Leads P a s t → Leads P b t u → Leads P (a + b) s u
then_leads P a b s t u h k = record {
  count = h.count + k.count;
  few = omega (arith, h.few, k.few);
  run = steps_on h.count k.count P s ∙ ap (steps k.count P) h.run ∙ k.run;
  awake = λ i less. by i (nat_lt i h.count) refl less;
}
  where
    by : (i : ℕ) (x : Bool) → nat_lt i h.count ≡ x → i < h.count + k.count → rests (steps i P s) ≡ false
    by i true e less = h.awake i (grind (arith, nat_tests, e))
    by i false e less =
        let low : h.count ≤ i = grind (arith, nat_tests, e) in
        let sum : i ≡ h.count + (i - h.count) = omega (arith, low) in
        let left_over : i - h.count < k.count = omega (arith, low, less) in
        ap (λ j. rests (steps j P s)) sum ∙ ap rests (steps_on h.count (i - h.count) P s ∙ ap (steps (i - h.count) P) h.run) ∙ k.awake (i - h.count) left_over

pub within : (P : Program) (a b : ℕ) (s t : State) → a ≤ b → Leads P a s t → Leads P b s t
within P a b s t le h = record { count = h.count; few = omega (arith, le, h.few); run = h.run; awake = h.awake }

pub one_step : (P : Program) (s : State) → rests s ≡ false → Leads P 1 s (small_step P s)
unfolding steps
one_step P s e = record { count = 1; few = omega arith; run = refl; awake = λ i less. let z : i ≡ 0 = omega (arith, less) in ap (λ j. rests (steps j P s)) z ∙ e }

pub stays : (P : Program) (most : ℕ) (s : State) → Leads P most s s
unfolding steps
stays P most s = record { count = 0; few = omega arith; run = refl; awake = λ i less. absurd (omega (arith, less)) }

-- ---- the parts that are left

-- these are the parts from a number on
abbrev pub IsRest : Exprs → ℕ → Exprs → Type 0
IsRest ps k es = (i : ℕ) → part_at ps (k + i) ≡ part_at es i

pub all_rest : (ps : Exprs) → IsRest ps 0 ps
all_rest ps i = let e : 0 + i ≡ i = omega arith in ap (part_at ps) e

pub here : (ps : Exprs) (kept : List Value) (es : Exprs) → IsRest ps (length kept) es → part_at ps (length kept) ≡ part_at es 0
here ps kept es rest = let e : length kept + 0 ≡ length kept = omega arith in ap (part_at ps) (sym e) ∙ rest 0

pub length_one : (kept : List Value) (v : Value) → length (kept ++ v ∷ []) ≡ suc (length kept)
length_one [] v = refl
length_one (x ∷ kept) v = ap suc (length_one kept v)

pub rest_on : (ps : Exprs) (kept : List Value) (e : Expr) (es : Exprs) (v : Value) → IsRest ps (length kept) (And e es) → IsRest ps (length (kept ++ v ∷ [])) es
rest_on ps kept e es v rest i =
    let l : length (kept ++ v ∷ []) ≡ suc (length kept) = length_one kept v in
    let k : length (kept ++ v ∷ []) + i ≡ length kept + suc i = omega (arith, l) in
    ap (part_at ps) k ∙ rest (suc i)

pub rest_from : (ps : Exprs) (k : ℕ) → IsRest ps k (parts_from ps k)
rest_from NoMore k i = refl
rest_from (And e es) zero i = all_rest (And e es) i
rest_from (And e es) (suc k) i = let h : suc k + i ≡ suc (k + i) = omega arith in ap (part_at (And e es)) h ∙ rest_from es k i

module _ (P : Program) (n : ℕ) (older : List Control) where
  -- what an outcome is among the frames outside
  abbrev pub told : Outcome → List PendingFrame → State
  told (Comes v d) fs = going n (given v fs) older d
  told (Stops e d) fs = failed e n older d
  told (Calls c vs gs d) fs = called P c (routine_of P c.routine.0) vs n (gs ++ fs) older d

  told_result : (r : Result) (fs : List PendingFrame) (d : Data) → delivered r n fs older d ≡ told (of_result r d) fs
  told_result (Gives v) fs d = refl
  told_result (Fails e) fs d = refl

  told_effect : (e : Effect) (fs : List PendingFrame) → effected e n fs older ≡ told (of_effect e) fs
  told_effect (Does d) fs = refl
  told_effect (Errs e d) fs = refl

  told_operation : (o : Op) (f : PendingFrame) (fs : List PendingFrame) (d : Data) → operated P o f n fs older d ≡ told (of_operation o f d) fs
  told_operation (op.Place p) f fs d = told_result (value_of (op.Place p) f.kept d) fs d
  told_operation (op.Word w) f fs d = told_result (value_of (op.Word w) f.kept d) fs d
  told_operation (op.Set x) f fs d = told_result (value_of (op.Set x) f.kept d) fs d
  told_operation (op.Literal text) f fs d = refl
  told_operation op.Structure f fs d = refl
  told_operation (op.Argument to) f fs d = told_result (value_of (op.Argument to) f.kept d) fs d
  told_operation op.ActualVariable f fs d = refl
  told_operation (op.Call c) f fs d = refl
  told_operation (op.Effect e) f fs d = told_effect (effect_of e f.kept d) fs

  append_frames : (gs : List PendingFrame) (f : PendingFrame) (fs : List PendingFrame) → gs ++ (f ∷ fs) ≡ (gs ++ (f ∷ [])) ++ fs
  append_frames [] f fs = refl
  append_frames (g ∷ gs) f fs = ap (λ hs. g ∷ hs) (append_frames gs f fs)

  -- ---- expressions

  abbrev at_node : Op → Exprs → List Value → List PendingFrame → Data → State
  at_node o ps kept fs d = going n (frame_with (OfExpr (Operation o ps)) kept ∷ fs) older d

  -- a step that finds the next part, or none
  finds_part : (o : Op) (ps : Exprs) (kept : List Value) (fs : List PendingFrame) (d : Data) (e : Expr) → part_at ps (length kept) ≡ Some e
      → small_step P (at_node o ps kept fs d) ≡ going n (frame_of (OfExpr e) ∷ (frame_with (OfExpr (Operation o ps)) kept ∷ fs)) older d
  finds_part o ps kept fs d e h = rw h refl

  finds_none : (o : Op) (ps : Exprs) (kept : List Value) (fs : List PendingFrame) (d : Data) → part_at ps (length kept) ≡ None
      → small_step P (at_node o ps kept fs d) ≡ operated P o (frame_with (OfExpr (Operation o ps)) kept) n fs older d
  finds_none o ps kept fs d h = rw h refl

  -- a call in a part waits in the frame around it as well
  told_call : (c : Callee) (vs : List Value) (gs : List PendingFrame) (f : PendingFrame) (fs : List PendingFrame) (d : Data) → told (Calls c vs gs d) (f ∷ fs) ≡ told (Calls c vs (gs ++ f ∷ []) d) fs
  told_call c vs gs f fs d = ap (λ hs. called P c (routine_of P c.routine.0) vs n hs older d) (append_frames gs f fs)

  part_leads : (m : ℕ) (o : Op) (ps : Exprs) (kept : List Value) (fs : List PendingFrame) (x : Outcome) (on : Value → Data → Outcome)
      → ((v : Value) (t : Data) → Leads P m (at_node o ps (kept ++ v ∷ []) fs t) (told (on v t) fs))
      → Leads P m (told x (frame_with (OfExpr (Operation o ps)) kept ∷ fs)) (told (then_with x (frame_with (OfExpr (Operation o ps)) kept) on) fs)
  part_leads m o ps kept fs (Comes v d) on rest = rest v d
  part_leads m o ps kept fs (Stops e d) on rest = stays P m (failed e n older d)
  part_leads m o ps kept fs (Calls c vs gs d) on rest = subst (λ t. Leads P m (told (Calls c vs gs d) (frame_with (OfExpr (Operation o ps)) kept ∷ fs)) t) (told_call c vs gs (frame_with (OfExpr (Operation o ps)) kept) fs d) (stays P m (told (Calls c vs gs d) (frame_with (OfExpr (Operation o ps)) kept ∷ fs)))

  mutual
    unfolding evaluated

    pub evaluation_leads : (e : Expr) (fs : List PendingFrame) (d : Data) → Leads P (ticks e) (going n (frame_of (OfExpr e) ∷ fs) older d) (told (evaluated e d) fs)
    evaluation_leads (Operation o ps) fs d = parts_lead ps o ps [] fs d (all_rest ps)

    pub parts_lead : (es : Exprs) (o : Op) (ps : Exprs) (kept : List Value) (fs : List PendingFrame) (d : Data) → IsRest ps (length kept) es → Leads P (part_ticks es + 1) (at_node o ps kept fs d) (told (parts_evaluated es o ps kept d) fs)
    parts_lead NoMore o ps kept fs d rest =
        subst (λ t. Leads P 1 (at_node o ps kept fs d) t) (finds_none o ps kept fs d (here ps kept NoMore rest) ∙ told_operation o (frame_with (OfExpr (Operation o ps)) kept) fs d) (one_step P (at_node o ps kept fs d) refl)
    parts_lead (And e es) o ps kept fs d rest =
        within P (1 + (ticks e + (part_ticks es + 1))) (part_ticks (And e es) + 1) _ _ (omega arith)
        (then_leads P 1 (ticks e + (part_ticks es + 1)) (at_node o ps kept fs d) (small_step P (at_node o ps kept fs d)) _
        (one_step P (at_node o ps kept fs d) refl)
        (subst (λ s. Leads P (ticks e + (part_ticks es + 1)) s (told (parts_evaluated (And e es) o ps kept d) fs)) (sym (finds_part o ps kept fs d e (here ps kept (And e es) rest)))
        (then_leads P (ticks e) (part_ticks es + 1) _ (told (evaluated e d) (frame_with (OfExpr (Operation o ps)) kept ∷ fs)) _
        (evaluation_leads e (frame_with (OfExpr (Operation o ps)) kept ∷ fs) d)
        (part_leads (part_ticks es + 1) o ps kept fs (evaluated e d) (λ v t. parts_evaluated es o ps (kept ++ v ∷ []) t) (λ v t. parts_lead es o ps (kept ++ v ∷ []) fs t (rest_on ps kept e es v rest))))))

  -- ---- statements

  -- what a way out of a statement is
  abbrev pub end_told : Row → End → State
  end_told row (Left to d) = gone P row to older d
  end_told row (Broken e d) = failed e n older d
  end_told row (Waits c vs fs d) = called P c (routine_of P c.routine.0) vs n fs older d

  told_exit : (row : Row) (x : Exit) (d : Data) → left P n row x older d ≡ end_told row (of_exit x d)
  told_exit row (Leaves to t) d = refl
  told_exit row (Breaks e) d = refl

  abbrev pub at_statement : Form → List Value → Data → State
  at_statement f kept d = going n (frame_with (OfStatement f) kept ∷ []) older d

  form_step : (f : Form) (kept : List Value) (d : Data) (e : Expr) → part_at f.parts (length kept) ≡ Some e
      → small_step P (at_statement f kept d) ≡ going n (frame_of (OfExpr e) ∷ (frame_with (OfStatement f) kept ∷ [])) older d
  form_step f kept d e h = rw h refl

  form_done : (row : Row) (f : Form) (kept : List Value) (d : Data) → row_of P n ≡ Some row → part_at f.parts (length kept) ≡ None
      → small_step P (at_statement f kept d) ≡ left P n row (exit_of f.op f.holds kept d) older d
  form_done row f kept d r h = rw (h, r) refl

  statement_part : (m : ℕ) (row : Row) (f : Form) (kept : List Value) (x : Outcome) (on : Value → Data → End)
      → ((v : Value) (t : Data) → Leads P m (at_statement f (kept ++ v ∷ []) t) (end_told row (on v t)))
      → Leads P m (told x (frame_with (OfStatement f) kept ∷ [])) (end_told row (onward x (frame_with (OfStatement f) kept ∷ []) on))
  statement_part m row f kept (Comes v d) on rest = rest v d
  statement_part m row f kept (Stops e d) on rest = stays P m (failed e n older d)
  statement_part m row f kept (Calls c vs gs d) on rest = stays P m _

  pub statement_leads : (row : Row) → row_of P n ≡ Some row → (es : Exprs) (f : Form) (kept : List Value) (d : Data) → IsRest f.parts (length kept) es → Leads P (part_ticks es + 1) (at_statement f kept d) (end_told row (carried_out es f kept d))
  unfolding carried_out
  statement_leads row r NoMore f kept d rest =
      subst (λ t. Leads P 1 (at_statement f kept d) t) (form_done row f kept d r (here f.parts kept NoMore rest) ∙ told_exit row (exit_of f.op f.holds kept d) d) (one_step P (at_statement f kept d) refl)
  statement_leads row r (And e es) f kept d rest =
      within P (1 + (ticks e + (part_ticks es + 1))) (part_ticks (And e es) + 1) _ _ (omega arith)
      (then_leads P 1 (ticks e + (part_ticks es + 1)) (at_statement f kept d) (small_step P (at_statement f kept d)) _
      (one_step P (at_statement f kept d) refl)
      (subst (λ s. Leads P (ticks e + (part_ticks es + 1)) s (end_told row (carried_out (And e es) f kept d))) (sym (form_step f kept d e (here f.parts kept (And e es) rest)))
      (then_leads P (ticks e) (part_ticks es + 1) _ (told (evaluated e d) (frame_with (OfStatement f) kept ∷ [])) _
      (evaluation_leads e (frame_with (OfStatement f) kept ∷ []) d)
      (statement_part (part_ticks es + 1) row f kept (evaluated e d) (λ v t. carried_out es f (kept ++ v ∷ []) t) (λ v t. statement_leads row r es f (kept ++ v ∷ []) t (rest_on f.parts kept e es v rest))))))

  -- behind its gate, a statement comes to what it does at once
  pub begun_leads : (row : Row) (d : Data) → row_of P n ≡ Some row → Leads P (part_ticks row.form.parts + 1) (small_step P (going n [] older d)) (end_told row (begun row.form d))
  begun_leads row d r =
      let passed : small_step P (going n [] older d) ≡ at_statement row.form [] d = rw r refl in
      subst (λ s. Leads P (part_ticks row.form.parts + 1) s (end_told row (begun row.form d))) (sym passed) (statement_leads row r row.form.parts row.form [] d (all_rest row.form.parts))

  -- ---- the return of a call

  abbrev pub IsOperation : Node → Type 0
  IsOperation (OfStatement f) = ⊥
  IsOperation (OfExpr e) = Unit {0}

  -- frames of operations, and behind them the statement's
  abbrev pub AreFrames : Form → List PendingFrame → Type 0
  AreFrames form [] = ⊥
  AreFrames form (f ∷ []) = f.node ≡ OfStatement form
  AreFrames form (f ∷ (g ∷ fs)) = IsOperation f.node × AreFrames form (g ∷ fs)

  -- the steps that are left at the most in a node that has so many values, and in these frames
  abbrev pub node_ticks : Node → ℕ → ℕ
  node_ticks (OfStatement f) k = part_ticks (parts_from f.parts k) + 1
  node_ticks (OfExpr (Operation o ps)) k = part_ticks (parts_from ps k) + 1

  abbrev pub frame_ticks : List PendingFrame → ℕ
  frame_ticks [] = 0
  frame_ticks (f ∷ fs) = node_ticks f.node (suc (length f.kept)) + frame_ticks fs

  outcome_on : (m : ℕ) (row : Row) (fs : List PendingFrame) (x : Outcome) (on : Value → Data → End)
      → ((v : Value) (t : Data) → Leads P m (going n (given v fs) older t) (end_told row (on v t)))
      → Leads P m (told x fs) (end_told row (onward x fs on))
  outcome_on m row fs (Comes v d) on rest = rest v d
  outcome_on m row fs (Stops e d) on rest = stays P m _
  outcome_on m row fs (Calls c vs gs d) on rest = stays P m _

  in_statement : (row : Row) → row_of P n ≡ Some row → (form : Form) (kept : List Value) (d : Data) → Leads P (part_ticks (parts_from form.parts (length kept)) + 1) (at_statement form kept d) (end_told row (carried_out (parts_from form.parts (length kept)) form kept d))
  in_statement row r form kept d = statement_leads row r (parts_from form.parts (length kept)) form kept d (rest_from form.parts (length kept))

  at_once : (row : Row) → row_of P n ≡ Some row → (form : Form) (x : Node) (kept : List Value) (d : Data) (on : Value → Data → End) → x ≡ OfStatement form
      → Leads P (node_ticks x (length kept)) (going n (frame_with x kept ∷ []) older d) (end_told row (resumed_in x kept [] d on))
  at_once row r form x kept d on e =
      subst (λ y. Leads P (node_ticks y (length kept)) (going n (frame_with y kept ∷ []) older d) (end_told row (resumed_in y kept [] d on))) (sym e) (in_statement row r form kept d)

  in_operation : (m : ℕ) (row : Row) (x : Node) (kept : List Value) (fs : List PendingFrame) (d : Data) (on : Value → Data → End) → IsOperation x
      → ((v : Value) (t : Data) → Leads P m (going n (given v fs) older t) (end_told row (on v t)))
      → Leads P (node_ticks x (length kept) + m) (going n (frame_with x kept ∷ fs) older d) (end_told row (resumed_in x kept fs d on))
  in_operation m row (OfStatement f) kept fs d on h rest = absurd h
  in_operation m row (OfExpr (Operation o ps)) kept fs d on h rest =
      then_leads P (part_ticks (parts_from ps (length kept)) + 1) m _ (told (parts_evaluated (parts_from ps (length kept)) o ps kept d) fs) _
      (parts_lead (parts_from ps (length kept)) o ps kept fs d (rest_from ps (length kept)))
      (outcome_on m row fs (parts_evaluated (parts_from ps (length kept)) o ps kept d) on rest)

  grown : (f : PendingFrame) (v : Value) → node_ticks f.node (length (f.kept ++ v ∷ [])) ≡ node_ticks f.node (suc (length f.kept))
  grown f v = ap (node_ticks f.node) (length_one f.kept v)

  -- with the value of its call, a statement comes to what it does at once
  pub resumed_leads : (row : Row) → row_of P n ≡ Some row → (form : Form) (fs : List PendingFrame) → AreFrames form fs → (v : Value) (d : Data) → Leads P (frame_ticks fs) (going n (given v fs) older d) (end_told row (resumed fs v d))
  unfolding resumed
  resumed_leads row r form [] a v d = absurd a
  resumed_leads row r form (f ∷ []) a v d = within P (node_ticks f.node (length (f.kept ++ v ∷ []))) _ _ _ (omega (arith, grown f v)) (at_once row r form f.node (f.kept ++ v ∷ []) d (λ w t. resumed [] w t) a)
  resumed_leads row r form (f ∷ (g ∷ fs)) a v d =
      within P (node_ticks f.node (length (f.kept ++ v ∷ [])) + frame_ticks (g ∷ fs)) _ _ _ (omega (arith, grown f v))
      (in_operation (frame_ticks (g ∷ fs)) row f.node (f.kept ++ v ∷ []) (g ∷ fs) d (λ w t. resumed (g ∷ fs) w t) a.0 (λ w t. resumed_leads row r form (g ∷ fs) a.1 w t))

-- ---- on to a rest

rested : (P : Program) (limit : ℕ) (u : State) → rests u ≡ true → settled limit P u ≡ u
unfolding settled
rested P zero u e = refl
rested P (suc limit) u e = ap (λ b. unless b u (λ x. settled limit P (small_step P x))) e

settles : (P : Program) (t : State) → rests t ≡ true → (k : ℕ) (u : State) (limit : ℕ) → k ≤ limit → steps k P u ≡ t → ((i : ℕ) → i < k → rests (steps i P u) ≡ false) → settled limit P u ≡ t
unfolding settled steps
settles P t r zero u limit le run awake = rested P limit u (ap rests run ∙ r) ∙ run
settles P t r (suc k) u zero le run awake = absurd (omega (arith, le))
settles P t r (suc k) u (suc limit) le run awake =
    ap (λ b. unless b u (λ x. settled limit P (small_step P x))) (awake 0 (omega arith))
    ∙ settles P t r k (small_step P u) limit (omega (arith, le)) run (λ i less. awake (suc i) (omega (arith, less)))

-- the steps on the way are taken, and the machine rests where it has come to
pub settled_leads : (P : Program) (most : ℕ) (s t : State) → Leads P most s t → rests t ≡ true → (limit : ℕ) → most ≤ limit → settled limit P s ≡ t
settled_leads P most s t h r limit le = settles P t r h.count s limit (omega (arith, h.few, le)) h.run h.awake
