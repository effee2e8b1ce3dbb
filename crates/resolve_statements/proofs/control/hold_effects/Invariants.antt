use Rattle.std.proofs.Common.{◌≡◌, map, take}
use Rattle.resolve_expr.specs.Kept.{kept_parts}
use Rattle.resolve_statements.specs.Forms as spec
use Rattle.resolve_statements.specs.Statements.{access_node}
use Rattle.resolve_statements.proofs.control.hold_effects.Given as goal

abbrev pub invariant-loop-access : goal.invariant-loop-access
invariant-loop-access l =
    (l.parts ≡ kept_parts (spec.hold_effects l.fn.context (map access_node (take l.access-index l.records))))
    × (l.context ≡ spec.context_with l.fn.context (map access_node (take l.access-index l.records)))
