use Rattle.std.proofs.Common.{◌≡◌, ◌++◌, drop, map}
use Rattle.pascal_tree.specs.Rows.{stmt_rows, arm_rows, rows_from}
use Rattle.program_tree.specs.Entries.{entry_of}
use Rattle.program_tree.proofs.index.+push_stmt.Given as goal

abbrev pub invariant-push_stmts-loop-stmt : goal.invariant-push_stmts-loop-stmt
invariant-push_stmts-loop-stmt l = l.out ++ map entry_of (rows_from l.at (map stmt_rows (drop l.stmt-index l.stmts)) l.path) ≡ l.fn.out ++ map entry_of (rows_from 0 (map stmt_rows l.stmts) l.path)

abbrev pub invariant-push_arms-loop-arm : goal.invariant-push_arms-loop-arm
invariant-push_arms-loop-arm l =
    l.out ++ map entry_of (rows_from l.at (map (λ arm. arm.1) (map arm_rows (drop l.arm-index l.arms))) l.path) ≡ l.fn.out ++ map entry_of (rows_from 0 (map (λ arm. arm.1) (map arm_rows l.arms)) l.path)
