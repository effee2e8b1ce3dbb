-- The number of a pending call among the calls of its statement, in the order of evaluation, from 0.
use Rattle.std.specs.Prelude.{ℕ, zero, suc, ◌+◌, List, [], ◌∷◌, length}
use Rattle.core_tree.specs.declared.op.Op.{Op}
use Rattle.core_tree.specs.declared.op.Op.TheVariants as op
use Rattle.core_tree.specs.Plain.{Expr, Operation, Exprs, NoMore, And}
use Rattle.plain_pascal.specs.State.{PendingFrame}
use Rattle.plain_pascal.specs.Step.{parts_of}

abbrev pub own_calls : Op → ℕ
own_calls (op.Call c) = 1
own_calls _ = 0

abbrev mutual
  pub calls_in : Expr → ℕ
  calls_in (Operation o ps) = calls_in_all ps + own_calls o

  pub calls_in_all : Exprs → ℕ
  calls_in_all NoMore = 0
  calls_in_all (And e es) = calls_in e + calls_in_all es

-- those in the first parts
abbrev pub calls_before : Exprs → ℕ → ℕ
calls_before es zero = 0
calls_before NoMore (suc k) = 0
calls_before (And e es) (suc k) = calls_in e + calls_before es k

abbrev pub call_number : List PendingFrame → ℕ
call_number [] = 0
call_number (f ∷ fs) = calls_before (parts_of f.node) (length f.kept) + call_number fs
