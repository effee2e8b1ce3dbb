-- One step of the plain machine (ISO 7185:1990, 6.6 to 6.10, in this profile).
use Rattle.std.specs.Prelude.{ℕ, ◌+◌, ◌-◌, ℤ, pos, ◌+ℤ◌, ◌-ℤ◌, Bool, true, false, nat_le, int_le, ◌==◌, if◌then◌else◌, List, [], ◌∷◌, ◌++◌, map, length, Option, Some, None, slice_index, replicate, take, drop}
use Rattle.dice_base.specs.Word.{signed_value}
use Rattle.core_tree.specs.declared.form.RoutineForm.{RoutineForm}
use Rattle.core_tree.specs.Plain.{Expr, Operation, Exprs, part_at, Form}
use Rattle.core_tree.specs.declared.op.Op.{Op}
use Rattle.core_tree.specs.declared.op.Op.TheVariants as op
use Rattle.core_tree.specs.declared.op.Callee.{Callee}
use Rattle.core_tree.specs.declared.op.Scope.{Scope}
use Rattle.core_tree.specs.declared.op.Scope.TheVariants as scope
use Rattle.core_tree.specs.declared.form.Parameter.{Parameter}
use Rattle.core_tree.specs.declared.form.Parameter.TheVariants as parameter
use Rattle.core_tree.specs.declared.form.ForLoop.{ForLoop}
use Rattle.core_tree.specs.declared.form.StatementOp.{StatementOp}
use Rattle.core_tree.specs.declared.form.StatementOp.TheVariants as stmt
use Rattle.plain_pascal.specs.Program.{Row, RoutineRow, Program, row_of, routine_of}
use Rattle.core_tree.specs.Control.{Continuation, ToGate, ToStep, ToEnd, ToLeave, ToFinish, Label}
use Rattle.plain_pascal.specs.State.{Status, Halted, Ended, Failed, Value, Word, NoValue, Node, OfStatement, OfExpr, PendingFrame, Activation, Data, Control, State}
use Rattle.plain_pascal.specs.Memory.{word_in, place_in, word_at, words_at, with_word, linked_up, variable_place}
use Rattle.plain_pascal.specs.Integers.{Result, Gives, Fails, word_of}
use Rattle.plain_pascal.specs.Operations.{members_in, part, value_of}
use Rattle.plain_pascal.specs.Statements.{Effect, Does, Errs, Way, Behind, Inside, ToLabel, Exit, Leaves, Breaks, effect_of, exit_of}

-- control in the newest activation, and in those older than it
abbrev pub going : ℕ → List PendingFrame → List Control → Data → State
going n fs older d = record { status = Halted; control = record { statement = n; frames = fs } ∷ older; data_now = d }

-- a run-time error in the statement of a name
abbrev pub failed : ℕ → ℕ → List Control → Data → State
failed e n older d = record { status = Failed e n; control = record { statement = n; frames = [] } ∷ older; data_now = d }

abbrev pub ended : Data → State
ended d = record { status = Ended; control = []; data_now = record d { activations = [] } }

-- ---- where control goes

abbrev pub held_in : Option Row → ℕ
held_in None = 0
held_in (Some row) = row.form.holds

abbrev pub holds_cut : ℕ → List Activation → List Activation
holds_cut count [] = []
holds_cut count (a ∷ older) = record a { holds = take count a.holds } ∷ older

-- control comes before a gate, and the holds of what it has left end
abbrev pub at_gate : Program → ℕ → List Control → Data → State
at_gate P n older d = going n [] older (record d { activations = holds_cut (held_in (row_of P n)) d.activations })

-- the value that a `for` holds as its limit
abbrev pub limit_in : List Activation → ℕ → ℤ
limit_in [] hold = pos 0
limit_in (a ∷ older) hold = signed_value (word_in (part a.holds (hold - 1)))

-- the loop has come to its limit or beyond
abbrev pub is_last : ForLoop → ℤ → ℤ → Bool
is_last loop limit z = if loop.down then int_le z limit else int_le limit z

abbrev pub next_value : ForLoop → ℤ → ℤ
next_value loop z = if loop.down then z -ℤ pos 1 else z +ℤ pos 1

abbrev pub control_value : ForLoop → Data → ℤ
control_value loop d = signed_value (word_at d (variable_place d loop.variable))

abbrev pub stepped_loop : ForLoop → Data → Data
stepped_loop loop d = with_word d (variable_place d loop.variable) (word_of (next_value loop (control_value loop d)))

-- the step of a `for` in so many holds: the next turn, or none where the held limit is reached (6.8.3.9)
abbrev pub turn_of : StatementOp → ℕ → Data → Option Data
turn_of (stmt.For loop) holds d = if is_last loop (limit_in d.activations (holds + 1)) (control_value loop d) then None else Some (stepped_loop loop d)
turn_of _ holds d = None

abbrev pub turned : Program → Option Data → ℕ → List Control → State → State
turned P None body older otherwise = otherwise
turned P (Some d) body older otherwise = at_gate P body older d

-- control goes on behind a statement
abbrev pub arrived : Program → Continuation → List Control → Data → State
arrived P (ToGate n) older d = at_gate P n older d
arrived P (ToLeave n) older d = at_gate P n older d
arrived P ToFinish older d = ended d
arrived P (ToStep n f body otherwise) older d = turned P (turn_of f.op f.holds d) body older (arrived P otherwise older d)
arrived P (ToEnd n otherwise) older d = arrived P otherwise older d

abbrev pub label_gate : List Label → ℕ → ℕ
label_gate [] label = 0
label_gate (l ∷ ls) label = if l.label == label then l.entry else label_gate ls label

abbrev pub labels_in : Option RoutineRow → List Label
labels_in None = []
labels_in (Some r) = r.labels

-- a way out of a statement
abbrev pub gone : Program → Row → Way → List Control → Data → State
gone P row Behind older d = arrived P row.continuation older d
gone P row (Inside n) older d = at_gate P (slice_index row.branches n) older d
gone P row (ToLabel l) older d = at_gate P (label_gate (labels_in (routine_of P row.routine)) l) older d

abbrev pub left : Program → ℕ → Row → Exit → List Control → Data → State
left P n row (Leaves to e) older d = gone P row to older e
left P n row (Breaks e) older d = failed e n older d

abbrev pub statement_done : Program → ℕ → Option Row → Form → List Value → List Control → Data → State
statement_done P n None f kept older d = going n [] older d
statement_done P n (Some row) f kept older d = left P n row (exit_of f.op f.holds kept d) older d

-- ---- values

-- a value goes to the frame outside
abbrev pub given : Value → List PendingFrame → List PendingFrame
given v [] = []
given v (f ∷ fs) = record f { kept = f.kept ++ v ∷ [] } ∷ fs

abbrev pub delivered : Result → ℕ → List PendingFrame → List Control → Data → State
delivered (Gives v) n fs older d = going n (given v fs) older d
delivered (Fails e) n fs older d = failed e n older d

abbrev pub effected : Effect → ℕ → List PendingFrame → List Control → State
effected (Does d) n fs older = going n (given NoValue fs) older d
effected (Errs e d) n fs older = failed e n older d

-- ---- calls

-- words of the stack: 45, and those of the result, the parameters and the locals
abbrev pub stack_charge : List Value → ℕ
stack_charge words = 45 + length words

abbrev pub stack_charges : List Activation → ℕ
stack_charges [] = 0
stack_charges (a ∷ older) = stack_charge a.words + stack_charges older

abbrev pub stack_room : ℕ
stack_room = 6912

-- an array or a record is copied, once all arguments have values
abbrev pub argument_words : Data → Parameter → Value → List Value
argument_words d parameter.Scalar v = v ∷ []
argument_words d parameter.Set v = map Word (members_in v)
argument_words d (parameter.Structure n) v = map Word (words_at d n (place_in v))
argument_words d parameter.ByPlace v = v ∷ []

abbrev pub arguments_words : Data → List Parameter → List Value → List Value
arguments_words d [] vs = []
arguments_words d (p ∷ ps) [] = []
arguments_words d (p ∷ ps) (v ∷ vs) = argument_words d p v ++ arguments_words d ps vs

abbrev pub result_words : Bool → List Value
result_words true = Word 0 ∷ []
result_words false = []

abbrev pub frame_words : Data → Option RoutineForm → List Value → List Value
frame_words d (Some r) vs = result_words r.function ++ (arguments_words d r.parameters vs ++ replicate r.local_words (Word 0))
frame_words d None vs = []

-- the activation whose variables a routine of this scope can see
abbrev pub parent_of : Scope → List Activation → ℕ
parent_of scope.Program acts = 0
parent_of (scope.Routine k) acts = linked_up acts k

-- run-time error 8: the frames stay that wait for the call
abbrev pub refused : ℕ → List PendingFrame → List Control → Data → State
refused n fs older d = record { status = Failed 8 n; control = record { statement = n; frames = fs } ∷ older; data_now = d }

-- a new activation, or run-time error 8 in the calling statement
abbrev pub entered : Program → Callee → RoutineRow → List Value → ℕ → List PendingFrame → List Control → Data → State
entered P c r words n fs older d =
    if nat_le (stack_charges d.activations + stack_charge words) stack_room
    then at_gate P r.entry (record { statement = n; frames = fs } ∷ older) (record d { activations = record { routine = r.name; static_link = parent_of c.scope d.activations; words = words; holds = [] } ∷ d.activations })
    else refused n fs older d

-- a call has its arguments; its frame stays
abbrev pub called : Program → Callee → Option RoutineRow → List Value → ℕ → List PendingFrame → List Control → Data → State
called P c None kept n fs older d = going n fs older d
called P c (Some r) kept n fs older d = entered P c r (frame_words d r.form kept) n fs older d

-- the value of a call
abbrev pub returned_value : Bool → List Value → Value
returned_value true words = part words 0
returned_value false words = NoValue

abbrev pub returned_by : Op → List Value → List PendingFrame → List PendingFrame
returned_by (op.Call c) words fs = given (returned_value c.function words) fs
returned_by _ words fs = fs

abbrev pub returned_in : Node → List Value → List PendingFrame → List PendingFrame
returned_in (OfExpr (Operation o ps)) words fs = returned_by o words fs
returned_in (OfStatement form) words fs = fs

abbrev pub returned_frames : List Value → List PendingFrame → List PendingFrame
returned_frames words [] = []
returned_frames words (f ∷ fs) = returned_in f.node words fs

abbrev pub newest_words : List Activation → List Value
newest_words [] = []
newest_words (a ∷ older) = a.words

-- the newest activation goes, and its result goes to the call that waits for it
abbrev pub returned : ℕ → List Control → Data → State
returned n [] d = going n [] [] d
returned n (c ∷ older) d = going c.statement (returned_frames (newest_words d.activations) c.frames) older (record d { activations = drop 1 d.activations })

-- ---- nodes

abbrev pub parts_of : Node → Exprs
parts_of (OfStatement f) = f.parts
parts_of (OfExpr (Operation o ps)) = ps

-- an operation has the values of all its parts
abbrev pub operated : Program → Op → PendingFrame → ℕ → List PendingFrame → List Control → Data → State
operated P (op.Call c) f n fs older d = called P c (routine_of P c.routine.0) f.kept n (f ∷ fs) older d
operated P (op.Effect e) f n fs older d = effected (effect_of e f.kept d) n fs older
operated P o f n fs older d = delivered (value_of o f.kept d) n fs older d

abbrev pub completed : Program → Node → PendingFrame → ℕ → List PendingFrame → List Control → Data → State
completed P (OfStatement form) f n fs older d = statement_done P n (row_of P n) form f.kept older d
completed P (OfExpr (Operation o ps)) f n fs older d = operated P o f n fs older d

abbrev pub frame_of : Node → PendingFrame
frame_of node = record { node = node; kept = [] }

-- the next part gets a frame, or the node has all its parts
abbrev pub evaluated : Program → Option Expr → PendingFrame → ℕ → List PendingFrame → List Control → Data → State
evaluated P (Some e) f n fs older d = going n (frame_of (OfExpr e) ∷ (f ∷ fs)) older d
evaluated P None f n fs older d = completed P f.node f n fs older d

-- a gate is passed: the statement's frame is put on, or the routine is left
abbrev pub gate_passed : Option Row → ℕ → List Control → Data → State
gate_passed None n older d = returned n older d
gate_passed (Some row) n older d = going n (frame_of (OfStatement row.form) ∷ []) older d

abbrev pub stepped : Program → ℕ → List PendingFrame → List Control → Data → State
stepped P n [] older d = gate_passed (row_of P n) n older d
stepped P n (f ∷ fs) older d = evaluated P (part_at (parts_of f.node) (length f.kept)) f n fs older d

abbrev pub newest_stepped : Program → List Control → State → State
newest_stepped P [] s = s
newest_stepped P (c ∷ older) s = stepped P c.statement c.frames older s.data_now

abbrev pub halted_stepped : Program → Status → State → State
halted_stepped P Halted s = newest_stepped P s.control s
halted_stepped P other s = s

-- one step
abbrev pub small_step : Program → State → State
small_step P s = halted_stepped P s.status s
