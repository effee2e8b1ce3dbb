use Rattle.std.proofs.Common.{◌≡◌, drop, map}
use Rattle.pascal_tree.specs.Openness.{are_paired, stmt_ending, arm_ending}
use Rattle.tree_checks.proofs.pairing.+is_paired.Given as goal

-- the statements so far are paired, so all are paired where the rest is
abbrev pub invariant-are_paired-loop-stmt : goal.invariant-are_paired-loop-stmt
invariant-are_paired-loop-stmt l = are_paired (map stmt_ending (drop l.stmt-index l.stmts)) ≡ are_paired (map stmt_ending l.stmts)

abbrev pub invariant-are_arms_paired-loop-arm : goal.invariant-are_arms_paired-loop-arm
invariant-are_arms_paired-loop-arm l = are_paired (map arm_ending (drop l.arm-index l.arms)) ≡ are_paired (map arm_ending l.arms)
