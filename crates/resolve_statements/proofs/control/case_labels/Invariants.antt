use Rattle.std.proofs.Common.{◌≡◌, ◌++◌, map, drop}
use Rattle.resolve_statements.specs.Forms as spec
use Rattle.resolve_statements.specs.Statements.{arm_constants}
use Rattle.resolve_statements.proofs.control.case_labels.Given as goal

abbrev pub invariant-loop-arm : goal.invariant-loop-arm
invariant-loop-arm l =
    spec.case_labels l.env 0 (map arm_constants l.arms)
    ≡ l.labels ++ spec.case_labels l.env l.number (map arm_constants (drop l.arm-index l.arms))
