-- How a statement is left is among the links of its form, and a call that waits is a call of its form.
use Rattle.std.proofs.Common.{◌≡◌, ℕ, zero, suc, Bool, true, false, List, [], ◌∷◌, ◌++◌, length, Option, Some, None, refl, sym, ap, ◌∙◌, subst, arith}
use Rattle.std.specs.Prelude.{◌==◌, ◌||◌, ◌&&◌, if◌then◌else◌, find}
use Rattle.std.proofs.lemmas.Bool.Decides.{nat_tests}
use Rattle.dice_base.specs.declared.link.LinkTo.{LinkTo}
use Rattle.dice_base.specs.declared.link.LinkTo.TheVariants.{Next, Routine}
use Rattle.core_tree.specs.declared.op.Op.{Op}
use Rattle.core_tree.specs.declared.op.Op.TheVariants as op
use Rattle.core_tree.specs.declared.form.CaseLabel.{CaseLabel}
use Rattle.core_tree.specs.declared.form.ForLoop.{ForLoop}
use Rattle.core_tree.specs.declared.form.StatementOp.{StatementOp}
use Rattle.core_tree.specs.declared.form.StatementOp.TheVariants as stmt
use Rattle.core_tree.specs.Plain.{Expr, Operation, Exprs, NoMore, And, part_at, Form}
use Rattle.plain_pascal.specs.State.{Place, Value, Node, OfStatement, OfExpr, PendingFrame, Cell, Data}
use Rattle.plain_pascal.specs.Integers.{Result, Gives, Fails, word_of, within, is_true}
use Rattle.plain_pascal.specs.Reading.{Reading, Read, Unread, line_read}
use Rattle.plain_pascal.specs.Heap.{new_cell, cell_of}
use Rattle.plain_pascal.specs.Operations.{value_of, part, first_word, first_number, second_number, first_place, checked}
use Rattle.plain_pascal.specs.Statements.{Effect, Does, Errs, effect_of, Behind, Inside, ToLabel, Exit, Leaves, Breaks, exit_of, with_checked, branch, other_branch, arm_of, is_past, given_cell, disposed, line_behind, went_on, assigned}
use Rattle.plain_pascal.specs.Step.{parts_of}
use Rattle.plain_pascal.specs.Evaluation.{Outcome, Comes, Stops, Calls, of_result, of_effect, of_operation, then_with, frame_with, evaluated, parts_evaluated, End, Left, Broken, Waits, of_exit, onward, carried_out, begun, parts_from, resumed_in, resumed}
use Rattle.plain_pascal.proofs.Ticks.{IsRest, all_rest, here, rest_on, rest_from}
use Rattle.plain_pascal.specs.Blocks.{link_of, has_arm, has_way, op_calls, expr_calls, parts_call, has_link, node_at, next_part, AreInside, IsCall, BeginsInCall, IsPath, node_callee, callee}
use Rattle.core_tree.specs.Plain.{StatementBlock}

abbrev pub Fits : Form → End → Type 0
Fits f (Left to d) = has_link (StatementBlock f) (link_of to) ≡ true
Fits f (Broken e d) = Unit {0}
Fits f (Waits c vs fs d) = IsPath (StatementBlock f) fs × (callee fs ≡ Routine c.routine)

same : (n : ℕ) → (n == n) ≡ true
same n = by (n == n) refl
  where
    by : (b : Bool) → (n == n) ≡ b → b ≡ true
    by true e = refl
    by false e = absurd (grind (arith, nat_tests, e))

or_left : (a b : Bool) → a ≡ true → (a || b) ≡ true
or_left true b e = refl
or_left false b e = absurd (grind (arith, e))

or_right : (a b : Bool) → b ≡ true → (a || b) ≡ true
or_right true b e = refl
or_right false b e = e

-- ---- a statement's own effect

abbrev pub ExitFits : StatementOp → Exit → Type 0
ExitFits o (Leaves to t) = has_way o (link_of to) ≡ true
ExitFits o (Breaks e) = Unit {0}

abbrev HasArm : List CaseLabel → Option CaseLabel → Type 0
HasArm ls None = Unit {0}
HasArm ls (Some l) = has_arm ls l.arm ≡ true

arm_later : (l : CaseLabel) (ls : List CaseLabel) (x : Option CaseLabel) → HasArm ls x → HasArm (l ∷ ls) x
arm_later l ls None h = tt
arm_later l ls (Some m) h = or_right (l.arm == m.arm) (has_arm ls m.arm) h

arm_found : (test : CaseLabel → Bool) (ls : List CaseLabel) → HasArm ls (find test ls)
arm_found test [] = tt
arm_found test (l ∷ ls) = by (test l) (arm_found test ls)
  where
    by : (b : Bool) → HasArm ls (find test ls) → HasArm (l ∷ ls) (if b then Some l else find test ls)
    by true h = or_left (l.arm == l.arm) (has_arm ls l.arm) (same l.arm)
    by false h = arm_later l ls (find test ls) h

arm_fits : (labels : List CaseLabel) (x : Option CaseLabel) (d : Data) → HasArm labels x → ExitFits (stmt.Case labels) (arm_of x d)
arm_fits labels None d h = tt
arm_fits labels (Some l) d h = h

assign_fits : (to : StatementOp) → has_way to Next ≡ true → (r : Result) (on : Value → Data) → ExitFits to (with_checked r on)
assign_fits to e (Gives v) on = e
assign_fits to e (Fails x) on = tt

if_fits : (b has_else : Bool) (d : Data) → ExitFits (stmt.If has_else) (branch b 0 (other_branch has_else) d)
if_fits true has_else d = refl
if_fits false true d = refl
if_fits false false d = refl

while_fits : (b : Bool) (d : Data) → ExitFits stmt.While (branch b 0 Behind d)
while_fits true d = refl
while_fits false d = refl

repeat_fits : (b : Bool) (d : Data) → ExitFits stmt.Repeat (branch b 0 Behind d)
repeat_fits true d = refl
repeat_fits false d = refl

for_fits : (loop : ForLoop) (past inside : Bool) (s t : Data) → ExitFits (stmt.For loop) (if past then Leaves Behind s else (if inside then Leaves (Inside 0) t else Breaks 1))
for_fits loop true inside s t = refl
for_fits loop false true s t = refl
for_fits loop false false s t = tt

read_fits : (line : Bool) (r : Reading) (d : Data) → ExitFits (stmt.Read line) (line_behind r d)
read_fits line (Unread e) d = tt
read_fits line (Read z rest) d = refl

line_fits : (line : Bool) (d : Data) → ExitFits (stmt.Read line) (went_on line d)
line_fits true d = read_fits true (line_read d.input) d
line_fits false d = refl

new_fits : (words : ℕ) (p : Place) (x : Option (Cell × Data)) → ExitFits (stmt.New words) (given_cell p x)
new_fits words p None = tt
new_fits words p (Some (c, s)) = refl

dispose_fits : (words : ℕ) (x : Option Cell) (d : Data) → ExitFits (stmt.Dispose words) (disposed x d)
dispose_fits words None d = tt
dispose_fits words (Some c) d = refl

pub exit_fits : (o : StatementOp) (holds : ℕ) (kept : List Value) (d : Data) → ExitFits o (exit_of o holds kept d)
exit_fits stmt.Empty holds kept d = refl
exit_fits (stmt.Goto label) holds kept d = same label
exit_fits (stmt.Assign to) holds kept d = assign_fits (stmt.Assign to) refl (checked to (part kept 1)) (λ v. assigned to (first_place kept) v d)
exit_fits stmt.Call holds kept d = refl
exit_fits (stmt.If has_else) holds kept d = if_fits (is_true (first_word kept)) has_else d
exit_fits (stmt.Case labels) holds kept d = arm_fits labels (find (λ l. word_of l.value == first_word kept) labels) d (arm_found (λ l. word_of l.value == first_word kept) labels)
exit_fits stmt.While holds kept d = while_fits (is_true (first_word kept)) d
exit_fits stmt.Repeat holds kept d = repeat_fits _ d
exit_fits (stmt.For loop) holds kept d = for_fits loop (is_past loop (second_number kept) (first_number kept)) (within loop.first loop.last (first_number kept) && within loop.first loop.last (second_number kept)) d _
exit_fits stmt.With holds kept d = refl
exit_fits (stmt.Read line) holds kept d = line_fits line d
exit_fits (stmt.Write line) holds kept d = refl
exit_fits (stmt.New words) holds kept d = new_fits words (first_place kept) (new_cell words d)
exit_fits (stmt.Dispose words) holds kept d = dispose_fits words (cell_of d (first_word kept) words) d

exit_end : (f : Form) (x : Exit) (d : Data) → ExitFits f.op x → Fits f (of_exit x d)
exit_end f (Leaves Behind t) d h = h
exit_end f (Leaves (Inside k) t) d h = h
exit_end f (Leaves (ToLabel l) t) d h = h
exit_end f (Breaks e) d h = tt

-- ---- frames around a call

abbrev OutcomeFits : Node → Outcome → Type 0
OutcomeFits x (Comes v d) = Unit {0}
OutcomeFits x (Stops e d) = Unit {0}
OutcomeFits x (Calls c vs fs d) = AreInside x fs × (BeginsInCall fs × (callee fs ≡ Routine c.routine))

begins_on : (gs hs : List PendingFrame) → BeginsInCall gs → BeginsInCall (gs ++ hs)
begins_on [] hs h = absurd h
begins_on (g ∷ gs) hs h = h

callee_on : (gs hs : List PendingFrame) (l : LinkTo) → BeginsInCall gs → callee gs ≡ l → callee (gs ++ hs) ≡ l
callee_on [] hs l h e = absurd h
callee_on (g ∷ gs) hs l h e = e

inside_on : (y z : Node) (gs : List PendingFrame) (f : PendingFrame) (fs : List PendingFrame) → AreInside y gs → next_part f ≡ Some y → AreInside z (f ∷ fs) → AreInside z (gs ++ (f ∷ fs))
inside_on y z [] f fs h e t = absurd h
inside_on y z (g ∷ []) f fs h e t = (e ∙ ap Some (sym h), t)
inside_on y z (g ∷ (k ∷ gs)) f fs h e t = (h.0, inside_on y z (k ∷ gs) f fs h.1 e t)

result_fits : (x : Node) (r : Result) (d : Data) → OutcomeFits x (of_result r d)
result_fits x (Gives v) d = tt
result_fits x (Fails e) d = tt

effect_fits : (x : Node) (e : Effect) → OutcomeFits x (of_effect e)
effect_fits x (Does d) = tt
effect_fits x (Errs e d) = tt

operation_fits : (o : Op) (ps : Exprs) (kept : List Value) (d : Data) → next_part (frame_with (OfExpr (Operation o ps)) kept) ≡ None → OutcomeFits (OfExpr (Operation o ps)) (of_operation o (frame_with (OfExpr (Operation o ps)) kept) d)
operation_fits (op.Place p) ps kept d e = result_fits _ (value_of (op.Place p) kept d) d
operation_fits (op.Word w) ps kept d e = result_fits _ (value_of (op.Word w) kept d) d
operation_fits (op.Set x) ps kept d e = result_fits _ (value_of (op.Set x) kept d) d
operation_fits (op.Literal text) ps kept d e = tt
operation_fits op.Structure ps kept d e = tt
operation_fits (op.Argument to) ps kept d e = result_fits _ (value_of (op.Argument to) kept d) d
operation_fits op.ActualVariable ps kept d e = tt
operation_fits (op.Call c) ps kept d e = (refl, ((tt, e), refl))
operation_fits (op.Effect x) ps kept d e = effect_fits _ (effect_of x kept d)

then_fits : (x : Outcome) (y : Node) (f : PendingFrame) (on : Value → Data → Outcome) → OutcomeFits y x → next_part f ≡ Some y → ((v : Value) (d : Data) → OutcomeFits f.node (on v d)) → OutcomeFits f.node (then_with x f on)
then_fits (Comes v d) y f on h e rest = rest v d
then_fits (Stops x d) y f on h e rest = tt
then_fits (Calls c vs fs d) y f on h e rest = (inside_on y f.node fs f [] h.0 e refl, (begins_on fs (f ∷ []) h.1.0, callee_on fs (f ∷ []) (Routine c.routine) h.1.0 h.1.1))

onward_fits : (s : Form) (x : Outcome) (y : Node) (f : PendingFrame) (fs : List PendingFrame) (on : Value → Data → End) → OutcomeFits y x → next_part f ≡ Some y → AreInside (OfStatement s) (f ∷ fs)
    → ((v : Value) (d : Data) → Fits s (on v d)) → Fits s (onward x (f ∷ fs) on)
onward_fits s (Comes v d) y f fs on h e t rest = rest v d
onward_fits s (Stops x d) y f fs on h e t rest = tt
onward_fits s (Calls c vs gs d) y f fs on h e t rest = ((inside_on y (OfStatement s) gs f fs h.0 e t, begins_on gs (f ∷ fs) h.1.0), callee_on gs (f ∷ fs) (Routine c.routine) h.1.0 h.1.1)

-- ---- evaluation

mutual
  unfolding evaluated

  pub evaluated_fits : (e : Expr) (d : Data) → OutcomeFits (OfExpr e) (evaluated e d)
  evaluated_fits (Operation o ps) d = parts_fit ps o ps [] d (all_rest ps)

  pub parts_fit : (es : Exprs) (o : Op) (ps : Exprs) (kept : List Value) (d : Data) → IsRest ps (length kept) es → OutcomeFits (OfExpr (Operation o ps)) (parts_evaluated es o ps kept d)
  parts_fit NoMore o ps kept d rest = operation_fits o ps kept d (ap node_at (here ps kept NoMore rest))
  parts_fit (And e es) o ps kept d rest =
      then_fits (evaluated e d) (OfExpr e) (frame_with (OfExpr (Operation o ps)) kept) (λ v t. parts_evaluated es o ps (kept ++ v ∷ []) t) (evaluated_fits e d)
      (ap node_at (here ps kept (And e es) rest)) (λ v t. parts_fit es o ps (kept ++ v ∷ []) t (rest_on ps kept e es v rest))

carried_fits : (es : Exprs) (f : Form) (kept : List Value) (d : Data) → IsRest f.parts (length kept) es → Fits f (carried_out es f kept d)
unfolding carried_out
carried_fits NoMore f kept d rest = exit_end f (exit_of f.op f.holds kept d) d (exit_fits f.op f.holds kept d)
carried_fits (And e es) f kept d rest =
    onward_fits f (evaluated e d) (OfExpr e) (frame_with (OfStatement f) kept) [] (λ v t. carried_out es f (kept ++ v ∷ []) t) (evaluated_fits e d)
    (ap node_at (here f.parts kept (And e es) rest)) refl (λ v t. carried_fits es f (kept ++ v ∷ []) t (rest_on f.parts kept e es v rest))

-- a statement from its gate
pub begun_fits : (f : Form) (d : Data) → Fits f (begun f d)
begun_fits f d = carried_fits f.parts f [] d (all_rest f.parts)

pub no_statement : (e : Option Expr) (form : Form) → node_at e ≡ Some (OfStatement form) → ⊥
no_statement None form h = absurd (grind (arith, h))
no_statement (Some e) form h = absurd (grind (arith, h))

in_statement : (f : Form) (x : Node) (kept : List Value) (d : Data) (on : Value → Data → End) → x ≡ OfStatement f → Fits f (resumed_in x kept [] d on)
in_statement f x kept d on e = subst (λ y. Fits f (resumed_in y kept [] d on)) (sym e) (carried_fits (parts_from f.parts (length kept)) f kept d (rest_from f.parts (length kept)))

in_operation : (f : Form) (x : Node) (kept : List Value) (k : PendingFrame) (fs : List PendingFrame) (d : Data) (on : Value → Data → End) → next_part k ≡ Some x → AreInside (OfStatement f) (k ∷ fs)
    → ((v : Value) (t : Data) → Fits f (on v t)) → Fits f (resumed_in x kept (k ∷ fs) d on)
in_operation f (OfStatement form) kept k fs d on e h rest = absurd (no_statement (part_at (parts_of k.node) (length k.kept)) form e)
in_operation f (OfExpr (Operation o ps)) kept k fs d on e h rest =
    onward_fits f (parts_evaluated (parts_from ps (length kept)) o ps kept d) (OfExpr (Operation o ps)) k fs on
    (parts_fit (parts_from ps (length kept)) o ps kept d (rest_from ps (length kept))) e h rest

-- a statement with the value of its call
pub resumed_fits : (f : Form) (fs : List PendingFrame) → AreInside (OfStatement f) fs → (v : Value) (d : Data) → Fits f (resumed fs v d)
unfolding resumed
resumed_fits f [] h v d = absurd h
resumed_fits f (g ∷ []) h v d = in_statement f g.node (g.kept ++ v ∷ []) d (λ w t. resumed [] w t) h
resumed_fits f (g ∷ (k ∷ fs)) h v d = in_operation f g.node (g.kept ++ v ∷ []) k fs d (λ w t. resumed (k ∷ fs) w t) h.0 h.1 (λ w t. resumed_fits f (k ∷ fs) h.1 w t)

-- ---- the link of a call

abbrev node_calls : Node → ℕ → Bool
node_calls (OfStatement f) n = parts_call f.parts n
node_calls (OfExpr e) n = expr_calls e n

part_calls : (ps : Exprs) (i : ℕ) (y : Node) (n : ℕ) → node_at (part_at ps i) ≡ Some y → node_calls y n ≡ true → parts_call ps n ≡ true
part_calls NoMore i y n e h = absurd (grind (arith, e))
part_calls (And x xs) zero y n e h = let is : y ≡ OfExpr x = cc e in or_left (expr_calls x n) (parts_call xs n) (subst (λ z. node_calls z n ≡ true) is h)
part_calls (And x xs) (suc i) y n e h = or_right (expr_calls x n) (parts_call xs n) (part_calls xs i y n e h)

outside_calls : (x : Node) (i : ℕ) (y : Node) (n : ℕ) → node_at (part_at (parts_of x) i) ≡ Some y → node_calls y n ≡ true → node_calls x n ≡ true
outside_calls (OfStatement f) i y n e h = part_calls f.parts i y n e h
outside_calls (OfExpr (Operation o ps)) i y n e h = or_right (op_calls o n) (parts_call ps n) (part_calls ps i y n e h)

path_calls : (x : Node) (g : PendingFrame) (fs : List PendingFrame) (n : ℕ) → AreInside x (g ∷ fs) → node_calls g.node n ≡ true → node_calls x n ≡ true
path_calls x g [] n h t = subst (λ y. node_calls y n ≡ true) h t
path_calls x g (k ∷ fs) n h t = path_calls x k fs n h.1 (outside_calls k.node (length k.kept) g.node n h.0 t)

own_link : (f : Form) (x : Node) → IsCall x → ((n : ℕ) → node_calls x n ≡ true → parts_call f.parts n ≡ true) → has_link (StatementBlock f) (node_callee x) ≡ true
own_link f (OfExpr (Operation (op.Call c) ps)) h up = up c.routine.0 (or_left (c.routine.0 == c.routine.0) (parts_call ps c.routine.0) (same c.routine.0))
own_link f x h up = absurd h

-- a pending call's link is one of its statement's
pub path_link : (f : Form) (fs : List PendingFrame) → IsPath (StatementBlock f) fs → has_link (StatementBlock f) (callee fs) ≡ true
path_link f [] h = absurd h.0
path_link f (g ∷ fs) h = own_link f g.node h.1.0 (λ n t. path_calls (OfStatement f) g fs n h.0 t)
