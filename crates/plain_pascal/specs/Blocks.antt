-- Pascal's blocks as forms of a plain machine: what each does, its parts, its links and its calls.
use Rattle.std.specs.Prelude.{◌≡◌, ℕ, ◌+◌, ◌==◌, ◌||◌, ◌&&◌, not, Bool, true, false, nat_le, if◌then◌else◌, List, [], ◌∷◌, drop, length, slice_index, Option, Some, None}
use Rattle.dice_base.specs.declared.link.LinkTo.{LinkTo}
use Rattle.dice_base.specs.declared.link.LinkTo.TheVariants.{Next, Child, Label, Routine}
use Rattle.core_tree.specs.declared.op.Op.{Op}
use Rattle.core_tree.specs.declared.op.Op.TheVariants as op
use Rattle.core_tree.specs.declared.op.Callee.{Callee}
use Rattle.core_tree.specs.declared.form.StatementOp.{StatementOp}
use Rattle.core_tree.specs.declared.form.StatementOp.TheVariants as stmt
use Rattle.core_tree.specs.declared.form.CaseLabel.{CaseLabel}
use Rattle.core_tree.specs.declared.form.RoutineForm.{RoutineForm}
use Rattle.core_tree.specs.Plain.{Expr, Operation, Exprs, NoMore, And, part_at, BlockForm, ProgramBlock, RoutineBlock, StatementBlock}
use Rattle.plain_machine.specs.Links.{Part, First, Gate, Step as StepPart, End as EndPart, Spot, Program}
use Rattle.plain_machine.specs.Meaning.{Begin, At, Back, Exit, Out, Calls, Returns, Over, Fails, Overflows, Meaning}
use Rattle.plain_pascal.specs.Program.{Program as Table, Row, RoutineRow, row_of, routine_of}
use Rattle.core_tree.specs.Control.{Continuation, ToGate, ToStep, ToEnd, ToLeave, ToFinish}
use Rattle.plain_pascal.specs.State.{Value, Node, OfStatement, OfExpr, PendingFrame, Data}
use Rattle.plain_pascal.specs.Statements.{Way, Behind, Inside, ToLabel}
use Rattle.plain_pascal.specs.Step.{holds_cut, turn_of, label_gate, labels_in, frame_words, parent_of, stack_charges, stack_charge, stack_room, newest_words, parts_of}
use Rattle.plain_pascal.specs.Run.{entry_in}
use Rattle.plain_pascal.specs.Evaluation.{End, Left, Broken, Waits, begun, answered}

-- a pending call: the frames that wait for it
abbrev pub Path : Type 0
Path = List PendingFrame

-- what goes from one block to another: nothing, the arguments of a call, or the words of an activation that was left
pub data Passed : Type 0 where
  Nothing : Passed
  Arguments : (routine : ℕ) → (callee : Callee) → (values : List Value) → Passed
  Words : (words : List Value) → Passed

pub record Store : Type 0 where
  pub data_now : Data
  pub passed : Passed

abbrev pub store : Data → Store
store d = record { data_now = d; passed = Nothing }

-- ---- what a block does

abbrev pub link_of : Way → LinkTo
link_of Behind = Next
link_of (Inside k) = Child k
link_of (ToLabel l) = Label l

abbrev pub exit_by : End → Exit Path Store
exit_by (Left to d) = Out (link_of to) (store d)
exit_by (Broken e d) = Fails e (store d)
exit_by (Waits c vs fs d) = Calls fs (record { data_now = d; passed = Arguments c.routine.0 c vs })

abbrev pub words_in : Passed → List Value
words_in (Words ws) = ws
words_in _ = []

-- the step of a `for`: the next turn, or what comes after the statement
abbrev pub exit_turn : Option Data → Data → Exit Path Store
exit_turn None d = Out Next (store d)
exit_turn (Some turn) d = Out (Child 0) (store turn)

-- a routine is entered with these words
abbrev pub enters : ℕ → Callee → List Value → Data → Exit Path Store
enters n c words d =
    if nat_le (stack_charges d.activations + stack_charge words) stack_room
    then Out (Child 0) (store (record d { activations = record { routine = n; static_link = parent_of c.scope d.activations; words = words; holds = [] } ∷ d.activations }))
    else Overflows (store d)

abbrev pub enters_with : RoutineForm → Passed → Data → Exit Path Store
enters_with f (Arguments n c vs) d = enters n c (frame_words d (Some f) vs) d
enters_with f _ d = Over (store d)

abbrev pub program_begun : Data → Data
program_begun d = record d { activations = record { routine = 1; static_link = 0; words = []; holds = [] } ∷ [] }

abbrev pub does : BlockForm → Begin Path → Store → Exit Path Store
does (StatementBlock f) (At Gate) s = exit_by (begun f s.data_now)
does (StatementBlock f) (Back fs) s = exit_by (answered fs (words_in s.passed) s.data_now)
does (StatementBlock f) (At StepPart) s = exit_turn (turn_of f.op f.holds s.data_now) s.data_now
does (StatementBlock f) (At EndPart) s = Out Next s
does (RoutineBlock f) (At First) s = enters_with f s.passed s.data_now
does (RoutineBlock f) (At Gate) s = Returns (record { data_now = record s.data_now { activations = drop 1 s.data_now.activations }; passed = Words (newest_words s.data_now.activations) })
does ProgramBlock (At First) s = Out (Child 0) (store (program_begun s.data_now))
does ProgramBlock (At EndPart) s = Over (store (record s.data_now { activations = [] }))
does _ _ s = Over s

-- ---- where control comes to it

-- before a gate, the holds of what was left end
abbrev pub cut : ℕ → Store → Store
cut n s = record s { data_now = record s.data_now { activations = holds_cut n s.data_now.activations } }

abbrev pub arrive : BlockForm → Part → Store → Store
arrive (StatementBlock f) Gate s = cut f.holds s
arrive (RoutineBlock f) Gate s = cut 0 s
arrive f part s = s

abbrev pub is_for : StatementOp → Bool
is_for (stmt.For loop) = true
is_for _ = false

abbrev pub is_with : StatementOp → Bool
is_with stmt.With = true
is_with _ = false

abbrev pub has_part : BlockForm → Part → Bool
has_part ProgramBlock First = true
has_part ProgramBlock EndPart = true
has_part (RoutineBlock f) First = true
has_part (RoutineBlock f) Gate = true
has_part (StatementBlock f) Gate = true
has_part (StatementBlock f) StepPart = is_for f.op
has_part (StatementBlock f) EndPart = is_with f.op
has_part f part = false

-- ---- its links

abbrev pub has_arm : List CaseLabel → ℕ → Bool
has_arm [] k = false
has_arm (l ∷ ls) k = l.arm == k || has_arm ls k

-- a statement's own ways out, but for calls
abbrev pub has_way : StatementOp → LinkTo → Bool
has_way (stmt.Goto label) (Label l) = l == label
has_way (stmt.Goto label) to = false
has_way (stmt.If has_else) (Child k) = k == 0 || (has_else && k == 1)
has_way (stmt.If has_else) Next = not has_else
has_way (stmt.Case labels) (Child k) = has_arm labels k
has_way (stmt.Case labels) to = false
has_way stmt.While (Child k) = k == 0
has_way stmt.Repeat (Child k) = k == 0
has_way (stmt.For loop) (Child k) = k == 0
has_way stmt.With (Child k) = k == 0
has_way o Next = true
has_way o to = false

abbrev pub op_calls : Op → ℕ → Bool
op_calls (op.Call c) n = c.routine.0 == n
op_calls o n = false

-- a call of the routine is in the expression
abbrev mutual
  pub expr_calls : Expr → ℕ → Bool
  expr_calls (Operation o ps) n = op_calls o n || parts_call ps n

  pub parts_call : Exprs → ℕ → Bool
  parts_call NoMore n = false
  parts_call (And e es) n = expr_calls e n || parts_call es n

abbrev pub has_link : BlockForm → LinkTo → Bool
has_link (StatementBlock f) (Routine r) = parts_call f.parts r.0
has_link (StatementBlock f) to = has_way f.op to
has_link f (Child k) = k == 0
has_link f to = false

-- ---- its calls

abbrev pub node_at : Option Expr → Option Node
node_at None = None
node_at (Some e) = Some (OfExpr e)

-- the part of a frame's node that is evaluated next
abbrev pub next_part : PendingFrame → Option Node
next_part f = node_at (part_at (parts_of f.node) (length f.kept))

-- each frame is of the next part of the one outside it, and the outermost of this node
abbrev pub AreInside : Node → List PendingFrame → Type 0
AreInside x [] = ⊥
AreInside x (f ∷ []) = f.node ≡ x
AreInside x (f ∷ (g ∷ fs)) = (next_part g ≡ Some f.node) × AreInside x (g ∷ fs)

abbrev pub IsCall : Node → Type 0
IsCall (OfExpr (Operation (op.Call c) ps)) = Unit {0}
IsCall x = ⊥

-- the innermost frame is a call that has all its arguments
abbrev pub BeginsInCall : List PendingFrame → Type 0
BeginsInCall [] = ⊥
BeginsInCall (f ∷ fs) = IsCall f.node × (next_part f ≡ None)

abbrev pub IsPath : BlockForm → Path → Type 0
IsPath (StatementBlock f) fs = AreInside (OfStatement f) fs × BeginsInCall fs
IsPath f fs = ⊥

abbrev pub node_callee : Node → LinkTo
node_callee (OfExpr (Operation (op.Call c) ps)) = Routine c.routine
node_callee x = Next

abbrev pub callee : Path → LinkTo
callee [] = Next
callee (f ∷ fs) = node_callee f.node

abbrev pub pascal : Meaning BlockForm Path Store
pascal = record { does = does; arrive = arrive; has_part = has_part; has_link = has_link; IsPath = IsPath; callee = callee }

-- ---- the program of a table

abbrev pub gate : ℕ → Spot
gate n = record { name = n; part = Gate }

abbrev pub spot_of : Continuation → Spot
spot_of (ToGate n) = gate n
spot_of (ToLeave n) = gate n
spot_of ToFinish = record { name = 1; part = EndPart }
spot_of (ToStep n f body otherwise) = record { name = n; part = StepPart }
spot_of (ToEnd n otherwise) = record { name = n; part = EndPart }

abbrev pub routine_block : Option RoutineForm → BlockForm
routine_block None = ProgramBlock
routine_block (Some f) = RoutineBlock f

abbrev pub block_in : Option Row → Option RoutineRow → Option BlockForm
block_in (Some row) r = Some (StatementBlock row.form)
block_in None (Some r) = Some (routine_block r.form)
block_in None None = None

-- the program is not called
abbrev pub form_end : ℕ → Option RoutineForm → Option Spot
form_end n None = None
form_end n (Some f) = Some (record { name = n; part = First })

abbrev pub routine_end : ℕ → Option RoutineRow → Option Spot
routine_end n None = None
routine_end n (Some r) = form_end n r.form

abbrev pub way_end : Table → Option Row → ℕ → LinkTo → Option Spot
way_end P (Some row) n Next = Some (spot_of row.continuation)
way_end P (Some row) n (Child k) = Some (gate (slice_index row.branches k))
way_end P (Some row) n (Label l) = Some (gate (label_gate (labels_in (routine_of P row.routine)) l))
way_end P None n (Child k) = Some (gate (entry_in (routine_of P n)))
way_end P row n (Routine r) = routine_end r.0 (routine_of P r.0)
way_end P None n to = None

abbrev pub blocks_of : Table → Program BlockForm
blocks_of P = record {
  form = λ n. block_in (row_of P n) (routine_of P n);
  link_end = λ n to. way_end P (row_of P n) n to;
}
