-- One step of the plain machine (ISO 7185:1990, 6.7, 6.8 and 6.9, in this profile: operands are worked out from left to
-- right, and an integer result outside -32767 to 32767 is run-time error 3).
use Rattle.std.specs.Prelude.{ℕ, ℤ, pos, negsuc, ◌+◌, ◌-◌, ◌+ℤ◌, Bool, nat_lt, if◌then◌else◌, List, [], ◌∷◌, ◌++◌, length, Option, Some, None, slice_get, slice_index, slice_set}
use Rattle.dice_base.specs.IntegerText.{integer_text}
use Rattle.dice_base.specs.Word.{signed_value}
use Rattle.pascal_semantics.specs.declared.form.Operand.{Operand}
use Rattle.pascal_semantics.specs.declared.form.Operand.TheVariants.{Global, Number}
use Rattle.pascal_semantics.specs.declared.form.SimpleForm.{SimpleForm}
use Rattle.pascal_semantics.specs.declared.form.SimpleForm.TheVariants.{Assign, WriteLine, Empty}
use Rattle.pascal_semantics.specs.Program.{Target, Gate, Finish, Program, Row, row_of}
use Rattle.pascal_semantics.specs.State.{Status, Halted, Ended, Failed, Node, OfStatement, OfSum, OfOperand, PendingFrame, Activation, State}

-- the second operand of a sum as a part, if there is one
abbrev pub second_part : Option Operand → List Node
second_part None = []
second_part (Some b) = OfOperand b ∷ []

-- the parts of a node, in the order of evaluation
abbrev pub parts_of : Node → List Node
parts_of (OfStatement (Assign g e)) = OfSum e ∷ []
parts_of (OfStatement (WriteLine e w)) = OfSum e ∷ []
parts_of (OfStatement Empty) = []
parts_of (OfSum e) = OfOperand e.first ∷ second_part e.second
parts_of (OfOperand o) = []

-- the result of an operation: a value, or a run-time error
pub data Evaluation : Type 0 where
  Value : (word : ℕ) → Evaluation
  Error : (number : ℕ) → Evaluation

-- an integer value lies from -32767 to 32767
abbrev pub leaves_integers : ℤ → Bool
leaves_integers (pos n) = nat_lt 32767 n
leaves_integers (negsuc n) = nat_lt 32766 n

-- the word of a number, in two's complement
abbrev pub word_of : ℤ → ℕ
word_of (pos n) = n
word_of (negsuc n) = 65535 - n

-- an operation's integer result
abbrev pub integer_result : ℤ → Evaluation
integer_result z = if leaves_integers z then Error 3 else Value (word_of z)

-- the sum of two integers (6.7.2.2)
abbrev pub sum_of : ℕ → ℕ → Evaluation
sum_of x y = integer_result (signed_value x +ℤ signed_value y)

-- the value of an operand
abbrev pub operand_value : Operand → List ℕ → ℕ
operand_value (Global g) globals = slice_index globals g
operand_value (Number n) globals = n

-- the value of a sum whose operands have these values
abbrev pub sum_value : List ℕ → Evaluation
sum_value [] = Value 0
sum_value (x ∷ []) = Value x
sum_value (x ∷ (y ∷ rest)) = sum_of x y

-- the value of a node that has the values of its parts
abbrev pub value_of : Node → List ℕ → List ℕ → Evaluation
value_of (OfOperand o) kept globals = Value (operand_value o globals)
value_of (OfSum e) kept globals = sum_value kept
value_of (OfStatement f) kept globals = Value 0

-- the width that is given, or else 8
abbrev pub width_of : Option ℕ → ℕ
width_of None = 8
width_of (Some w) = w

-- what a statement does with the value of its part; the empty statement has none, and does nothing (6.8.2.1)
abbrev pub effect_of : SimpleForm → ℕ → State → State
effect_of (Assign g e) word s = record s { globals = slice_set s.globals g word }
effect_of (WriteLine e w) word s = record s { output = s.output ++ (integer_text word (width_of w) ++ 10 ∷ []) }
effect_of Empty word s = s

-- control goes on before a gate, or the program has ended
abbrev pub arrived : Target → Activation → List Activation → State → State
arrived (Gate n) a older s = record s { activations = record a { statement = n; frames = [] } ∷ older }
arrived Finish a older s = record s { status = Ended }

-- the value of a statement's part, which is its first
abbrev pub first_of : List ℕ → ℕ
first_of [] = 0
first_of (x ∷ xs) = x

-- a statement's effect is done, and control goes to what comes after it
abbrev pub carried_on : Option Row → SimpleForm → List ℕ → Activation → List Activation → State → State
carried_on None f kept a older s = s
carried_on (Some row) f kept a older s = arrived row.continuation a older (effect_of f (first_of kept) s)

-- a value goes to the frame outside
abbrev pub given : ℕ → List PendingFrame → List PendingFrame
given word [] = []
given word (f ∷ fs) = record f { kept = f.kept ++ word ∷ [] } ∷ fs

-- the newest activation has these frames
abbrev pub with_frames : List PendingFrame → Activation → List Activation → State → State
with_frames fs a older s = record s { activations = record a { frames = fs } ∷ older }

-- a value goes to the frame outside, and an error ends the run
abbrev pub delivered : Evaluation → List PendingFrame → Activation → List Activation → State → State
delivered (Value word) fs a older s = with_frames (given word fs) a older s
delivered (Error e) fs a older s = record s { status = Failed e a.statement }

-- a node has the values of all its parts
abbrev pub completed : Program → Node → List ℕ → List PendingFrame → Activation → List Activation → State → State
completed P (OfStatement f) kept fs a older s = carried_on (row_of P a.statement) f kept a older s
completed P (OfSum e) kept fs a older s = delivered (value_of (OfSum e) kept s.globals) fs a older s
completed P (OfOperand o) kept fs a older s = delivered (value_of (OfOperand o) kept s.globals) fs a older s

-- a node of which no part has its value yet
abbrev pub frame_of : Node → PendingFrame
frame_of node = record { node = node; kept = [] }

-- the next part gets a frame, or the node has all its parts
abbrev pub evaluated : Program → Option Node → PendingFrame → List PendingFrame → Activation → List Activation → State → State
evaluated P (Some part) f fs a older s = with_frames (frame_of part ∷ (f ∷ fs)) a older s
evaluated P None f fs a older s = completed P f.node f.kept fs a older s

-- a gate is passed: the statement's frame is put on
abbrev pub gate_passed : Option Row → Activation → List Activation → State → State
gate_passed None a older s = s
gate_passed (Some row) a older s = with_frames (frame_of (OfStatement row.form) ∷ []) a older s

-- one step of the newest activation: a gate is passed, or its innermost frame goes on
abbrev pub stepped : Program → List PendingFrame → Activation → List Activation → State → State
stepped P [] a older s = gate_passed (row_of P a.statement) a older s
stepped P (f ∷ fs) a older s = evaluated P (slice_get (parts_of f.node) (length f.kept)) f fs a older s

-- one step of a state with these activations
abbrev pub newest_stepped : Program → List Activation → State → State
newest_stepped P [] s = s
newest_stepped P (a ∷ older) s = stepped P a.frames a older s

-- one step of a state with this status; only a halted one goes on
abbrev pub halted_stepped : Program → Status → State → State
halted_stepped P Halted s = newest_stepped P s.activations s
halted_stepped P other s = s

-- one step
abbrev pub small_step : Program → State → State
small_step P s = halted_stepped P s.status s
