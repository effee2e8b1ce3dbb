use Rattle.std.proofs.Common.{◌≡◌, drop}
use Rattle.pascal_tree.specs.Naming.{stmts_numbering, arms_numbering}
use Rattle.tree_names.proofs.Numbers.{with_front}
use Rattle.tree_names.proofs.naming.+number_stmt.Given as goal

abbrev pub invariant-number_stmts-loop-stmt : goal.invariant-number_stmts-loop-stmt
invariant-number_stmts-loop-stmt l = with_front l.all (stmts_numbering (drop l.stmt-index l.stmts) l.next) ≡ stmts_numbering l.stmts l.fn.next

abbrev pub invariant-number_arms-loop-arm : goal.invariant-number_arms-loop-arm
invariant-number_arms-loop-arm l = with_front l.all (arms_numbering (drop l.arm-index l.arms) l.next) ≡ arms_numbering l.arms l.fn.next
