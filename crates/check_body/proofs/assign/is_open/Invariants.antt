use Rattle.std.proofs.Common.{◌≡◌, drop}
use Rattle.check_body.specs.StatementRules as spec
use Rattle.check_body.proofs.assign.is_open.Given as goal

abbrev pub invariant-loop-other : goal.invariant-loop-other
invariant-loop-other l = spec.is_open l.functions l.function ≡ spec.is_open (drop l.other-index l.functions) l.function
