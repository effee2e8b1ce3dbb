use Rattle.std.proofs.Common.{◌≡◌, drop}
use Rattle.expression_rules.specs.Accesses.{declared_type}
use Rattle.resolve_expr.proofs.places.declared_type.Given as goal

abbrev pub invariant-loop-declared : goal.invariant-loop-declared
invariant-loop-declared l = declared_type l.domains l.name.0 ≡ declared_type (drop l.declared-index l.domains) l.name.0
