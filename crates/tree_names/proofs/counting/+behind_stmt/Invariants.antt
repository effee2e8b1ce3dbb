use Rattle.std.proofs.Common.{◌≡◌, ◌-◌, length, map, drop}
use Rattle.std.specs.List.{concat}
use Rattle.pascal_tree.specs.Names.{stmt_names, arm_names}
use Rattle.tree_names.proofs.counting.+behind_stmt.Given as goal

abbrev pub invariant-behind_stmts-loop-stmt : goal.invariant-behind_stmts-loop-stmt
invariant-behind_stmts-loop-stmt l = l.room - length (concat (map stmt_names (drop l.stmt-index l.stmts))) ≡ l.fn.room - length (concat (map stmt_names l.stmts))

abbrev pub invariant-behind_arms-loop-arm : goal.invariant-behind_arms-loop-arm
invariant-behind_arms-loop-arm l = l.room - length (concat (map arm_names (drop l.arm-index l.arms))) ≡ l.fn.room - length (concat (map arm_names l.arms))
