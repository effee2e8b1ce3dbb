use Rattle.std.proofs.Common.{◌≡◌, ◌+◌, ◌++◌, drop, map}
use Rattle.pascal_tree.specs.Rows.{routine_rows, rows_from}
use Rattle.program_tree.specs.Entries.{entry_of}
use Rattle.program_tree.proofs.index.+push_block.Given as goal

abbrev pub invariant-push_routines-loop-routine : goal.invariant-push_routines-loop-routine
invariant-push_routines-loop-routine l =
    (l.out ++ map entry_of (rows_from l.next (map routine_rows (drop l.routine-index l.routines)) l.path) ≡ l.fn.out ++ map entry_of (rows_from l.fn.at (map routine_rows l.routines) l.path)) × (l.next ≡ l.fn.at + l.routine-index)
