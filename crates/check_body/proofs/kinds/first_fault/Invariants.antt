use Rattle.std.proofs.Common.{◌≡◌, drop}
use Rattle.check_body.specs.StatementRules as spec
use Rattle.check_body.proofs.kinds.first_fault.Given as goal

abbrev pub invariant-loop-statement : goal.invariant-loop-statement
invariant-loop-statement l = spec.first_fault l.kinds ≡ spec.first_fault (drop l.statement-index l.kinds)
