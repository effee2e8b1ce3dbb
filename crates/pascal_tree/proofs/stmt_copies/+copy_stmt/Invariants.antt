use Rattle.std.proofs.Common.{◌≡◌, take}
use Rattle.pascal_tree.proofs.stmt_copies.+copy_stmt.Given as goal

abbrev pub invariant-copy_stmts-loop-stmt : goal.invariant-copy_stmts-loop-stmt
invariant-copy_stmts-loop-stmt l = l.all ≡ take l.stmt-index l.stmts

abbrev pub invariant-copy_arms-loop-arm : goal.invariant-copy_arms-loop-arm
invariant-copy_arms-loop-arm l = l.all ≡ take l.arm-index l.arms
