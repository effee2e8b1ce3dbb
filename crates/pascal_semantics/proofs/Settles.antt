-- The plain machine from gate to gate: what the steps of a whole statement come to.
use Rattle.std.proofs.Common.{◌≡◌, ℕ, zero, suc, true, false, List, [], ◌∷◌, Option, Some, None, refl, sym, ap, ◌∙◌, arith}
use Rattle.pascal_semantics.specs.declared.form.Operand.{Operand}
use Rattle.pascal_semantics.specs.declared.form.Sum.{Sum}
use Rattle.pascal_semantics.specs.declared.form.SimpleForm.{SimpleForm}
use Rattle.pascal_semantics.specs.declared.form.SimpleForm.TheVariants.{Assign, WriteLine, Empty}
use Rattle.pascal_semantics.specs.Program.{Program, Row, row_of, Target, Gate, Finish}
use Rattle.pascal_semantics.specs.State.{Halted, Failed, OfStatement, OfSum, OfOperand, PendingFrame, Activation, State}
use Rattle.pascal_semantics.specs.Step.{Evaluation, Value, Error, sum_of, operand_value, effect_of, arrived, carried_on, delivered, frame_of, gate_passed, small_step}
use Rattle.pascal_semantics.specs.Evaluations.{sum_in, sum_evaluation, form_evaluation}
use Rattle.pascal_semantics.specs.Run.{settled, steps_limit, unless, rests, rests_by}

-- the values of the operands
abbrev pub second_values : Option Operand → List ℕ → List ℕ
second_values None globals = []
second_values (Some b) globals = operand_value b globals ∷ []

abbrev pub sum_values : Sum → List ℕ → List ℕ
sum_values e globals = operand_value e.first globals ∷ second_values e.second globals

abbrev pub program_at : ℕ → List PendingFrame → List Activation
program_at n frames = record { routine = 1; statement = n; frames = frames } ∷ []

-- the machine stands in the statement of this name
abbrev pub at_statement : ℕ → List PendingFrame → List ℕ → List ℕ → State
at_statement n frames globals output = record { status = Halted; activations = program_at n frames; globals = globals; output = output }

-- the machine stands before the gate of this statement
abbrev pub before_gate : ℕ → List ℕ → List ℕ → State
before_gate n globals output = at_statement n [] globals output

-- the value that a statement's frame has at its end
abbrev pub form_kept : SimpleForm → ℕ → List ℕ
form_kept (Assign g e) v = v ∷ []
form_kept (WriteLine e w) v = v ∷ []
form_kept Empty v = []

abbrev pub form_frames : SimpleForm → ℕ → List PendingFrame
form_frames f v = record { node = OfStatement f; kept = form_kept f v } ∷ []

-- the frames of a sum under way, in its statement
abbrev pub sum_frames : SimpleForm → Sum → List ℕ → List PendingFrame
sum_frames f e kept = record { node = OfSum e; kept = kept } ∷ (frame_of (OfStatement f) ∷ [])

-- the frames where a statement's sum is in error
abbrev pub error_frames : SimpleForm → Option Sum → List ℕ → List PendingFrame
error_frames f None globals = frame_of (OfStatement f) ∷ []
error_frames f (Some e) globals = sum_frames f e (sum_values e globals)

-- what a statement comes to, by the outcome of its sum
abbrev pub outcome_state : Evaluation → SimpleForm → Target → ℕ → List ℕ → List ℕ → State
outcome_state (Value v) f target n globals output = arrived target (record { routine = 1; statement = n; frames = form_frames f v }) [] (effect_of f v (at_statement n (form_frames f v) globals output))
outcome_state (Error number) f target n globals output = record { status = Failed number n; activations = program_at n (error_frames f (sum_in f) globals); globals = globals; output = output }

-- the value that the effect takes
abbrev form_value : SimpleForm → ℕ → ℕ
form_value (Assign g e) v = v
form_value (WriteLine e w) v = v
form_value Empty v = 0

-- the first step passes the gate
gate_step : (P : Program) (n : ℕ) (row : Row) (globals output : List ℕ) → row_of P n ≡ Some row → small_step P (before_gate n globals output) ≡ at_statement n (frame_of (OfStatement row.form) ∷ []) globals output
gate_step P n row globals output h = ap (λ o. gate_passed o (record { routine = 1; statement = n; frames = [] }) [] (before_gate n globals output)) h

-- the last step does the statement's effect
effect_step : (P : Program) (n v : ℕ) (row : Row) (f : SimpleForm) (globals output : List ℕ) → row_of P n ≡ Some row → small_step P (at_statement n (form_frames f (form_value f v)) globals output) ≡ outcome_state (Value (form_value f v)) f row.continuation n globals output
effect_step P n v row (Assign g e) globals output h = ap (λ o. carried_on o (Assign g e) (v ∷ []) (record { routine = 1; statement = n; frames = form_frames (Assign g e) v }) [] (at_statement n (form_frames (Assign g e) v) globals output)) h
effect_step P n v row (WriteLine e w) globals output h = ap (λ o. carried_on o (WriteLine e w) (v ∷ []) (record { routine = 1; statement = n; frames = form_frames (WriteLine e w) v }) [] (at_statement n (form_frames (WriteLine e w) v) globals output)) h
effect_step P n v row Empty globals output h = ap (λ o. carried_on o Empty [] (record { routine = 1; statement = n; frames = form_frames Empty 0 }) [] (at_statement n (form_frames Empty 0) globals output)) h

pub settled_on : (m : ℕ) (P : Program) (s t : State) → rests s ≡ false → small_step P s ≡ t → settled (suc m) P s ≡ settled m P t
unfolding settled
settled_on m P s t e f = ap (λ b. unless b s (λ u. settled m P (small_step P u))) e ∙ ap (settled m P) f

pub settled_rests : (m : ℕ) (P : Program) (s : State) → rests s ≡ true → settled m P s ≡ s
unfolding settled
settled_rests zero P s e = refl
settled_rests (suc m) P s e = ap (λ b. unless b s (λ u. settled m P (small_step P u))) e

-- where control arrives the machine rests
arrived_rests : (target : Target) (a : Activation) (s : State) → s.status ≡ Halted → rests (arrived target a [] s) ≡ true
arrived_rests (Gate n) a s e = ap (λ x. rests_by x (record a { statement = n; frames = [] } ∷ [])) e
arrived_rests Finish a s e = refl

outcome_rests : (r : Evaluation) (f : SimpleForm) (target : Target) (n : ℕ) (globals output : List ℕ) → rests (outcome_state r f target n globals output) ≡ true
outcome_rests (Value v) (Assign g e) target n globals output = arrived_rests target _ _ refl
outcome_rests (Value v) (WriteLine e w) target n globals output = arrived_rests target _ _ refl
outcome_rests (Value v) Empty target n globals output = arrived_rests target _ _ refl
outcome_rests (Error number) f target n globals output = refl

-- the statement has its value
value_settles : (m : ℕ) (P : Program) (n : ℕ) (row : Row) (f : SimpleForm) (v : ℕ) (globals output : List ℕ) → row_of P n ≡ Some row
    → settled (suc m) P (at_statement n (form_frames f (form_value f v)) globals output) ≡ outcome_state (Value (form_value f v)) f row.continuation n globals output
value_settles m P n row f v globals output h =
    settled_on m P _ _ refl (effect_step P n v row f globals output h) ∙ settled_rests m P _ (outcome_rests (Value (form_value f v)) f row.continuation n globals output)

-- the sum of a statement that has one
abbrev HasSum : SimpleForm → Sum → Type 0
HasSum f e = sum_in f ≡ Some e

sum_settles : (m : ℕ) (P : Program) (n : ℕ) (row : Row) (f : SimpleForm) (e : Sum) (r : Evaluation) (globals output : List ℕ) → HasSum f e → row_of P n ≡ Some row
    → settled (suc m) P (delivered r (frame_of (OfStatement f) ∷ []) (record { routine = 1; statement = n; frames = sum_frames f e (sum_values e globals) }) [] (at_statement n (sum_frames f e (sum_values e globals)) globals output)) ≡ outcome_state r f row.continuation n globals output
sum_settles m P n row (Assign g x) e (Value v) globals output is h = value_settles m P n row (Assign g x) v globals output h
sum_settles m P n row (WriteLine x w) e (Value v) globals output is h = value_settles m P n row (WriteLine x w) v globals output h
sum_settles m P n row Empty e (Value v) globals output is h = absurd (grind (arith, is))
sum_settles m P n row f e (Error number) globals output is h =
    settled_rests (suc m) P _ refl ∙ ap (λ o. let s : State = record { status = Failed number n; activations = program_at n (error_frames f o globals); globals = globals; output = output } in s) (sym is)

-- one operand after the other
operands_settle : (m : ℕ) (P : Program) (n : ℕ) (row : Row) (f : SimpleForm) (a : Operand) (o : Option Operand) (globals output : List ℕ) → HasSum f (record { first = a; second = o }) → row_of P n ≡ Some row
    → settled (suc (suc (suc (suc (suc (suc m)))))) P (at_statement n (sum_frames f (record { first = a; second = o }) []) globals output) ≡ outcome_state (sum_evaluation a o globals) f row.continuation n globals output
operands_settle m P n row f a None globals output is h =
    let e : Sum = record { first = a; second = None } in
    settled_on (suc (suc (suc (suc (suc m))))) P (at_statement n (sum_frames f e []) globals output) (at_statement n (frame_of (OfOperand a) ∷ sum_frames f e []) globals output) refl refl
    ∙ settled_on (suc (suc (suc (suc m)))) P (at_statement n (frame_of (OfOperand a) ∷ sum_frames f e []) globals output) (at_statement n (sum_frames f e (operand_value a globals ∷ [])) globals output) refl refl
    ∙ settled_on (suc (suc (suc m))) P (at_statement n (sum_frames f e (operand_value a globals ∷ [])) globals output) _ refl refl
    ∙ sum_settles (suc (suc m)) P n row f e (Value (operand_value a globals)) globals output is h
operands_settle m P n row f a (Some b) globals output is h =
    let e : Sum = record { first = a; second = Some b } in
    let x = operand_value a globals in
    let y = operand_value b globals in
    settled_on (suc (suc (suc (suc (suc m))))) P (at_statement n (sum_frames f e []) globals output) (at_statement n (frame_of (OfOperand a) ∷ sum_frames f e []) globals output) refl refl
    ∙ settled_on (suc (suc (suc (suc m)))) P (at_statement n (frame_of (OfOperand a) ∷ sum_frames f e []) globals output) (at_statement n (sum_frames f e (x ∷ [])) globals output) refl refl
    ∙ settled_on (suc (suc (suc m))) P (at_statement n (sum_frames f e (x ∷ [])) globals output) (at_statement n (frame_of (OfOperand b) ∷ sum_frames f e (x ∷ [])) globals output) refl refl
    ∙ settled_on (suc (suc m)) P (at_statement n (frame_of (OfOperand b) ∷ sum_frames f e (x ∷ [])) globals output) (at_statement n (sum_frames f e (x ∷ (y ∷ []))) globals output) refl refl
    ∙ settled_on (suc m) P (at_statement n (sum_frames f e (x ∷ (y ∷ []))) globals output) _ refl refl
    ∙ sum_settles m P n row f e (sum_of x y) globals output is h

-- a whole statement, from its gate on
pub statement_settles : (P : Program) (n : ℕ) (row : Row) (globals output : List ℕ) → row_of P n ≡ Some row
    → settled steps_limit P (small_step P (before_gate n globals output)) ≡ outcome_state (form_evaluation row.form globals) row.form row.continuation n globals output
statement_settles P n row globals output h = ap (settled steps_limit P) (gate_step P n row globals output h) ∙ by row.form
  where
    with_sum : (f : SimpleForm) (e : Sum) → HasSum f e → small_step P (at_statement n (frame_of (OfStatement f) ∷ []) globals output) ≡ at_statement n (sum_frames f e []) globals output
        → settled steps_limit P (at_statement n (frame_of (OfStatement f) ∷ []) globals output) ≡ outcome_state (sum_evaluation e.first e.second globals) f row.continuation n globals output
    with_sum f e is part =
        settled_on 999999 P (at_statement n (frame_of (OfStatement f) ∷ []) globals output) (at_statement n (sum_frames f e []) globals output) refl part
        ∙ operands_settle 999993 P n row f e.first e.second globals output is h

    by : (f : SimpleForm) → settled steps_limit P (at_statement n (frame_of (OfStatement f) ∷ []) globals output) ≡ outcome_state (form_evaluation f globals) f row.continuation n globals output
    by (Assign g e) = with_sum (Assign g e) e refl refl
    by (WriteLine e w) = with_sum (WriteLine e w) e refl refl
    by Empty = value_settles 999999 P n row Empty 0 globals output h
