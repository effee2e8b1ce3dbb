use Rattle.std.proofs.Common.{◌++◌, ◌+◌, ap, sym, ◌∙◌, map, drop}
use Rattle.std.proofs.lemmas.List.{append_assoc}
use Rattle.pascal_tree.specs.declared.stmt.Arm.{out-Arm}
use Rattle.resolve_statements.specs.Forms as spec
use Rattle.resolve_statements.specs.Statements.{arm_constants}
use Rattle.resolve_statements.proofs.Arguments.{arms_turn}
use Rattle.resolve_statements.proofs.control.case_labels.Goals as goal

pub loop-arm-preserved : goal.loop-arm-preserved
loop-arm-preserved c =
    let env = c.args.env.now in
    let at = c.loop-arm.number in
    let label = spec.case_label env at in
    let rest = spec.case_labels env (at + 1) (map arm_constants (drop (c.loop-arm.arm-index + 1) c.args.arms.now)) in
    c.loop-arm.invariant
    ∙ (ap (λ ls. c.loop-arm.labels ++ ls) (arms_turn env at c.args.arms.now c.loop-arm.arm-index c.arm-item.result c.loop-arm-test.true c.arm-item.is)
    ∙ (sym (append_assoc c.loop-arm.labels (map label (out-Arm c.arm-item.result).constants) rest)
    ∙ ap (λ ls. ls ++ rest) (ap (λ ks. c.loop-arm.labels ++ map label ks) (sym c.as_slice.ensures) ∙ sym c.in_ok-push_arm_labels.ensures)))
