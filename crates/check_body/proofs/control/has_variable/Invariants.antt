use Rattle.std.proofs.Common.{◌≡◌, drop}
use Rattle.check_body.specs.StatementRules as spec
use Rattle.check_body.proofs.control.has_variable.Given as goal

abbrev pub invariant-loop-variable : goal.invariant-loop-variable
invariant-loop-variable l =
    spec.has_variable l.variables (l.owner, l.ident) ≡ spec.has_variable (drop l.variable-index l.variables) (l.owner, l.ident)
