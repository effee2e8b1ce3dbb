use Rattle.std.proofs.Common.{◌≡◌, drop}
use Rattle.check_body.specs.StatementRules as spec
use Rattle.check_body.proofs.cases.constants_from.Given as goal

abbrev pub invariant-loop-constant : goal.invariant-loop-constant
invariant-loop-constant l =
    spec.constants_from l.env l.selector l.fn.seen l.constants ≡ spec.constants_from l.env l.selector l.so_far (drop l.constant-index l.constants)
