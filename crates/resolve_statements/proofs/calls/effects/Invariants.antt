use Rattle.std.proofs.Common.{◌≡◌, map, take}
use Rattle.resolve_expr.specs.Kept.{kept_parts}
use Rattle.resolve_expr.specs.Expressions.{argument_of}
use Rattle.resolve_statements.specs.Forms.{effect_of}
use Rattle.resolve_statements.proofs.calls.effects.Given as goal

abbrev pub invariant-loop-arg : goal.invariant-loop-arg
invariant-loop-arg l =
    l.parts ≡ kept_parts (map (effect_of l.context.env.table l.transfer) (map (argument_of l.context) (take l.arg-index l.args)))
