use Rattle.std.proofs.Common.{◌≡◌, drop, max, map}
use Rattle.pascal_tree.specs.Depth.{most, stmt_depth, arm_depth}
use Rattle.tree_checks.proofs.stmt_levels.+stmt_depth.Given as goal

abbrev pub invariant-stmts_depth-loop-stmt : goal.invariant-stmts_depth-loop-stmt
invariant-stmts_depth-loop-stmt l = max l.most (most (map stmt_depth (drop l.stmt-index l.stmts))) ≡ most (map stmt_depth l.stmts)

abbrev pub invariant-arms_depth-loop-arm : goal.invariant-arms_depth-loop-arm
invariant-arms_depth-loop-arm l = max l.most (most (map arm_depth (drop l.arm-index l.arms))) ≡ most (map arm_depth l.arms)
