use Rattle.std.proofs.Common.{◌≡◌, drop}
use Rattle.expression_rules.specs.Accesses.{declared_type}
use Rattle.expression_rules.proofs.accesses.declared_type.Given as goal

abbrev pub invariant-loop-other : goal.invariant-loop-other
invariant-loop-other l = declared_type l.domains l.name ≡ declared_type (drop l.other-index l.domains) l.name
