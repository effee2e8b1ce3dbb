use Rattle.std.proofs.Common.{◌≡◌, map, take}
use Rattle.expression_rules.specs.Expressions.{argument_of}
use Rattle.check_body.specs.StatementRules as spec
use Rattle.check_body.proofs.transfers.write_all.Given as goal

abbrev pub invariant-loop-arg : goal.invariant-loop-arg
invariant-loop-arg l = l.notes ≡ spec.write_all l.env.table (map (argument_of l.env) (take l.arg-index l.args))
