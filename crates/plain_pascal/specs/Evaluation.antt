-- What evaluating a whole expression comes to, with no steps: its value, a run-time error, or a call with its arguments
-- and the frames that wait for its result, the call's own first.
use Rattle.std.specs.Prelude.{ℕ, zero, suc, ◌+◌, List, [], ◌∷◌, ◌++◌, length}
use Rattle.core_tree.specs.declared.op.Op.{Op}
use Rattle.core_tree.specs.declared.op.Op.TheVariants as op
use Rattle.core_tree.specs.declared.op.Callee.{Callee}
use Rattle.core_tree.specs.Plain.{Expr, Operation, Exprs, NoMore, And, Form}
use Rattle.plain_pascal.specs.State.{Value, NoValue, Node, OfStatement, OfExpr, PendingFrame, Data}
use Rattle.plain_pascal.specs.Integers.{Result, Gives, Fails}
use Rattle.plain_pascal.specs.Operations.{value_of}
use Rattle.plain_pascal.specs.Step.{returned_value}
use Rattle.plain_pascal.specs.Statements.{Effect, Does, Errs, effect_of, Way, Exit, Leaves, Breaks, exit_of}

pub data Outcome : Type 0 where
  Comes : (value : Value) → (d : Data) → Outcome
  Stops : (error : ℕ) → (d : Data) → Outcome
  Calls : (callee : Callee) → (arguments : List Value) → (frames : List PendingFrame) → (d : Data) → Outcome

abbrev pub of_result : Result → Data → Outcome
of_result (Gives v) d = Comes v d
of_result (Fails e) d = Stops e d

abbrev pub of_effect : Effect → Outcome
of_effect (Does d) = Comes NoValue d
of_effect (Errs e d) = Stops e d

-- an operation that has the values of its parts
abbrev pub of_operation : Op → PendingFrame → Data → Outcome
of_operation (op.Call c) f d = Calls c f.kept (f ∷ []) d
of_operation (op.Effect e) f d = of_effect (effect_of e f.kept d)
of_operation o f d = of_result (value_of o f.kept d) d

-- on with the value; a call waits in this frame as well
abbrev pub then_with : Outcome → PendingFrame → (Value → Data → Outcome) → Outcome
then_with (Comes v d) f on = on v d
then_with (Stops e d) f on = Stops e d
then_with (Calls c vs fs d) f on = Calls c vs (fs ++ f ∷ []) d

abbrev pub frame_with : Node → List Value → PendingFrame
frame_with node kept = record { node = node; kept = kept }

-- the steps that an expression takes at the most once it has its frame, and its parts with theirs
abbrev mutual
  pub ticks : Expr → ℕ
  ticks (Operation o ps) = part_ticks ps + 1

  pub part_ticks : Exprs → ℕ
  part_ticks NoMore = 0
  part_ticks (And e es) = 1 + ticks e + part_ticks es

-- an expression, and the parts of an operation that has these values already
unfoldable mutual
  pub evaluated : Expr → Data → Outcome
  evaluated (Operation o ps) d = parts_evaluated ps o ps [] d

  pub parts_evaluated : Exprs → Op → Exprs → List Value → Data → Outcome
  parts_evaluated NoMore o ps kept d = of_operation o (frame_with (OfExpr (Operation o ps)) kept) d
  parts_evaluated (And e es) o ps kept d = then_with (evaluated e d) (frame_with (OfExpr (Operation o ps)) kept) (λ v t. parts_evaluated es o ps (kept ++ v ∷ []) t)

-- ---- statements

-- how a statement is left, or that it waits for a call
pub data End : Type 0 where
  Left : (to : Way) → (d : Data) → End
  Broken : (error : ℕ) → (d : Data) → End
  Waits : (callee : Callee) → (arguments : List Value) → (frames : List PendingFrame) → (d : Data) → End

abbrev pub of_exit : Exit → Data → End
of_exit (Leaves to t) d = Left to t
of_exit (Breaks e) d = Broken e d

abbrev pub onward : Outcome → List PendingFrame → (Value → Data → End) → End
onward (Comes v d) fs on = on v d
onward (Stops e d) fs on = Broken e d
onward (Calls c vs gs d) fs on = Waits c vs (gs ++ fs) d

-- the parts of a statement that has these values already
unfoldable pub carried_out : Exprs → Form → List Value → Data → End
carried_out NoMore f kept d = of_exit (exit_of f.op f.holds kept d) d
carried_out (And e es) f kept d = onward (evaluated e d) (frame_with (OfStatement f) kept ∷ []) (λ v t. carried_out es f (kept ++ v ∷ []) t)

-- a statement from its gate on
abbrev pub begun : Form → Data → End
begun f d = carried_out f.parts f [] d

-- the parts from a number on
abbrev pub parts_from : Exprs → ℕ → Exprs
parts_from NoMore k = NoMore
parts_from (And e es) zero = And e es
parts_from (And e es) (suc k) = parts_from es k

-- a value comes to the frame that waits for it, and so on outwards
abbrev pub resumed_in : Node → List Value → List PendingFrame → Data → (Value → Data → End) → End
resumed_in (OfStatement f) kept fs d on = carried_out (parts_from f.parts (length kept)) f kept d
resumed_in (OfExpr (Operation o ps)) kept fs d on = onward (parts_evaluated (parts_from ps (length kept)) o ps kept d) fs on

unfoldable pub resumed : List PendingFrame → Value → Data → End
resumed [] v d = Broken 0 d
resumed (f ∷ fs) v d = resumed_in f.node (f.kept ++ v ∷ []) fs d (λ w t. resumed fs w t)

-- the words of an activation that was left come to the call that waits for them
abbrev pub answered_in : Node → List Value → List PendingFrame → Data → End
answered_in (OfExpr (Operation (op.Call c) ps)) words fs d = resumed fs (returned_value c.function words) d
answered_in x words fs d = Broken 0 d

abbrev pub answered : List PendingFrame → List Value → Data → End
answered [] words d = Broken 0 d
answered (f ∷ fs) words d = answered_in f.node words fs d
