use Rattle.std.proofs.Common.{◌≡◌, drop}
use Rattle.check_body.specs.StatementRules as spec
use Rattle.check_body.proofs.cases.has_integer.Given as goal

abbrev pub invariant-loop-other : goal.invariant-loop-other
invariant-loop-other l = spec.has_integer l.numbers l.number ≡ spec.has_integer (drop l.other-index l.numbers) l.number
