use Rattle.std.proofs.Common.{◌≡◌, ◌++◌, map, drop}
use Rattle.check_body.specs.StatementRules as spec
use Rattle.check_body.specs.Statements as folds
use Rattle.check_body.proofs.changes.+push_changes.Given as goal

abbrev pub invariant-push_all-loop-stmt : goal.invariant-push_all-loop-stmt
invariant-push_all-loop-stmt l =
    (l.env ≡ l.fn.env)
    × (l.fn.out ++ spec.all_changes (map (folds.judge_of l.labels) l.stmts) l.fn.env
    ≡ l.out ++ spec.all_changes (map (folds.judge_of l.labels) (drop l.stmt-index l.stmts)) l.fn.env)

abbrev pub invariant-push_arms-loop-arm : goal.invariant-push_arms-loop-arm
invariant-push_arms-loop-arm l =
    (l.env ≡ l.fn.env)
    × (l.fn.out ++ spec.all_changes (spec.arm_bodies (map (folds.arm_judge_of l.labels) l.arms)) l.fn.env
    ≡ l.out ++ spec.all_changes (spec.arm_bodies (map (folds.arm_judge_of l.labels) (drop l.arm-index l.arms))) l.fn.env)
