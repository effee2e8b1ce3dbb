use Rattle.std.proofs.Common.{◌≡◌, ◌++◌, drop, map}
use Rattle.body_labels.specs.Labels.{all_labels, placed_labels, arm_labels}
use Rattle.body_labels.proofs.labels.+push_labels.Given as goal

abbrev pub invariant-push_all-loop-stmt : goal.invariant-push_all-loop-stmt
invariant-push_all-loop-stmt l =
    l.fn.out ++ all_labels (map placed_labels l.stmts)
    ≡ l.out ++ all_labels (map placed_labels (drop l.stmt-index l.stmts))

abbrev pub invariant-push_arms-loop-arm : goal.invariant-push_arms-loop-arm
invariant-push_arms-loop-arm l =
    l.fn.out ++ all_labels (map arm_labels l.arms)
    ≡ l.out ++ all_labels (map arm_labels (drop l.arm-index l.arms))
