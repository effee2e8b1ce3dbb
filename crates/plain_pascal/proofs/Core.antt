-- What is to be known of a table holds of that of a resolved program.
use Rattle.std.proofs.Common.{◌≡◌, ℕ, zero, suc, ◌+◌, ◌≤◌, List, [], ◌∷◌, length, Some, ap, ◌∙◌, refl, arith}
use Rattle.core_tree.specs.Plain.{Expr, Operation, Exprs, NoMore, And, part_at, Form, Routine, Block}
use Rattle.core_tree.specs.Control.{machine_rows, core_routines}
use Rattle.std.specs.List.{AllByRecursion}
use Rattle.plain_pascal.specs.Resolved.{IsResolved}
use Rattle.plain_pascal.proofs.Chains.{program_chains}
use Rattle.plain_pascal.proofs.Closed.{IsClosedBlock, HasEntryListed, routine_closed, routine_entries, rows_close}
use Rattle.plain_pascal.proofs.Placed.{IsTable}
use Rattle.plain_pascal.specs.Program.{Program as Table, program_of}
use Rattle.plain_pascal.specs.State.{Node, OfStatement, OfExpr, PendingFrame, Control}
use Rattle.plain_pascal.specs.Step.{parts_of}
use Rattle.plain_pascal.specs.Run.{steps_limit}
use Rattle.plain_pascal.specs.Evaluation.{ticks, part_ticks, parts_from}
use Rattle.plain_pascal.proofs.Ticks.{node_ticks, frame_ticks}
use Rattle.plain_pascal.specs.Blocks.{node_at, AreInside}

-- ---- the steps that are left in the frames of a path are no more than those of its statement

abbrev total : Node → ℕ
total (OfStatement f) = part_ticks f.parts + 1
total (OfExpr (Operation o ps)) = part_ticks ps + 1

fewer : (ps : Exprs) (k : ℕ) → part_ticks (parts_from ps k) ≤ part_ticks ps
fewer NoMore k = omega arith
fewer (And e es) zero = omega arith
fewer (And e es) (suc k) = let h : part_ticks (parts_from es k) ≤ part_ticks es = fewer es k in omega (arith, h)

total_ticks : (e : Expr) → total (OfExpr e) ≡ ticks e
total_ticks (Operation o ps) = refl

part_fits : (ps : Exprs) (k : ℕ) (y : Node) → node_at (part_at ps k) ≡ Some y → total y + part_ticks (parts_from ps (suc k)) + 1 ≤ part_ticks ps + 1
part_fits NoMore k y e = absurd (grind (arith, e))
part_fits (And x xs) zero y e =
    let is : y ≡ OfExpr x = cc e in
    let same : total y ≡ ticks x = ap total is ∙ total_ticks x in
    let h : part_ticks (parts_from xs zero) ≤ part_ticks xs = fewer xs zero in
    omega (arith, same, h)
part_fits (And x xs) (suc k) y e = let h : total y + part_ticks (parts_from xs (suc k)) + 1 ≤ part_ticks xs + 1 = part_fits xs k y e in omega (arith, h)

module _ (P : Table) (n : ℕ) (older : List Control) where
  next_fits : (x : Node) (k : ℕ) (y : Node) → node_at (part_at (parts_of x) k) ≡ Some y → total y + node_ticks P n older x (suc k) ≤ total x
  next_fits (OfStatement f) k y e = let h : total y + part_ticks (parts_from f.parts (suc k)) + 1 ≤ part_ticks f.parts + 1 = part_fits f.parts k y e in omega (arith, h)
  next_fits (OfExpr (Operation o ps)) k y e = let h : total y + part_ticks (parts_from ps (suc k)) + 1 ≤ part_ticks ps + 1 = part_fits ps k y e in omega (arith, h)

  own_fits : (x : Node) (k : ℕ) → node_ticks P n older x k ≤ total x
  own_fits (OfStatement f) k = let h : part_ticks (parts_from f.parts k) ≤ part_ticks f.parts = fewer f.parts k in omega (arith, h)
  own_fits (OfExpr (Operation o ps)) k = let h : part_ticks (parts_from ps k) ≤ part_ticks ps = fewer ps k in omega (arith, h)

  sum_fits : (x : Node) (f : PendingFrame) (fs : List PendingFrame) (a : ℕ) → AreInside x (f ∷ fs) → a ≤ total f.node → a + frame_ticks P n older fs ≤ total x
  sum_fits x f [] a h le = let same : total f.node ≡ total x = ap total h in omega (arith, le, same)
  sum_fits x f (g ∷ fs) a h le =
      let one : total f.node + node_ticks P n older g.node (suc (length g.kept)) ≤ total g.node = next_fits g.node (length g.kept) f.node h.0 in
      let rest : (a + node_ticks P n older g.node (suc (length g.kept))) + frame_ticks P n older fs ≤ total x = sum_fits x g fs (a + node_ticks P n older g.node (suc (length g.kept))) h.1 (omega (arith, le, one)) in
      omega (arith, rest)

  pub frames_fit : (form : Form) (fs : List PendingFrame) → AreInside (OfStatement form) fs → frame_ticks P n older fs ≤ part_ticks form.parts + 1
  frames_fit form [] h = absurd h
  frames_fit form (f ∷ fs) h = sum_fits (OfStatement form) f fs (node_ticks P n older f.node (suc (length f.kept))) h (own_fits f.node (suc (length f.kept)))

-- the program declares itself
all_closed : (x : Routine) (m : ℕ) → IsResolved x m → AllByRecursion (IsClosedBlock (program_of x)) (machine_rows x)
all_closed (Block head inner body) m c = routine_closed (program_of (Block head inner body)) c.program (Block head inner body) c.whole head.name c.routines_found c.blocks_found

all_entries : (x : Routine) (m : ℕ) → IsResolved x m → AllByRecursion (HasEntryListed (program_of x)) (core_routines x)
all_entries (Block head inner body) m c = routine_entries (program_of (Block head inner body)) (Block head inner body) c.whole head.name c.blocks_found

pub resolved_table : (x : Routine) (m : ℕ) → IsResolved x m → IsTable (program_of x) m
resolved_table x m c = record {
  program = c.program;
  closed = rows_close (program_of x) (all_closed x m c) (all_entries x m c) c.labels c.declared;
  rows = all_closed x m c;
  chains = program_chains (program_of x) x c.blocks_found;
  entries = all_entries x m c;
  labels = c.labels;
  small = c.small;
  paths = λ n row fs found inside older.
      (let few : part_ticks row.form.parts + 1 ≤ steps_limit = (c.small n row found).0 in
      let h : frame_ticks (program_of x) n older fs ≤ part_ticks row.form.parts + 1 = frames_fit (program_of x) n older row.form fs inside in
      omega (arith, few, h));
}
