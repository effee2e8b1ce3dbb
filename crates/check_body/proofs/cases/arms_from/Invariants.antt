use Rattle.std.proofs.Common.{◌≡◌, map, drop}
use Rattle.check_body.specs.StatementRules as spec
use Rattle.check_body.specs.Steps.{nothing_seen, written_constants}
use Rattle.check_body.proofs.cases.arms_from.Given as goal

abbrev pub invariant-loop-arm : goal.invariant-loop-arm
invariant-loop-arm l =
    spec.arms_from l.env l.selector nothing_seen (map written_constants l.arms)
    ≡ spec.arms_from l.env l.selector l.seen (map written_constants (drop l.arm-index l.arms))
