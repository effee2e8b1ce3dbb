use Rattle.std.proofs.Common.{◌≡◌, [], drop, take, map}
use Rattle.resolve_expr.specs.Kept.{kept_parts, with_parts}
use Rattle.resolve_expr.specs.Nodes as spec
use Rattle.resolve_expr.specs.Expressions as folds
use Rattle.resolve_expr.proofs.expressions.+node_of.Given as goal

abbrev pub invariant-components_node-loop-expr : goal.invariant-components_node-loop-expr
invariant-components_node-loop-expr l =
    (x : spec.Node) → l.fn.place ≡ spec.kept_node x
    → l.at ≡ spec.kept_node (spec.components_node l.table x (map (folds.value_of l.context) (take l.expr-index l.exprs)))

abbrev pub invariant-node_after-loop-part : goal.invariant-node_after-loop-part
invariant-node_after-loop-part l =
    (x : spec.Node) → l.fn.place ≡ spec.kept_node x
    → l.at ≡ spec.kept_node (spec.node_after x (map (folds.part_of l.context) (take l.part-index l.parts)))

abbrev pub invariant-arguments-loop-arg : goal.invariant-arguments-loop-arg
invariant-arguments-loop-arg l =
    with_parts (kept_parts []) (spec.arguments_for l.context.env.table l.parameters (map (folds.argument_of l.context) l.args))
    ≡ with_parts l.parts (spec.arguments_for l.context.env.table l.left (map (folds.argument_of l.context) (drop l.arg-index l.args)))

abbrev pub invariant-set_node-loop-member : goal.invariant-set_node-loop-member
invariant-set_node-loop-member l =
    l.collected ≡ spec.kept_collected (spec.with_members l.context.env.table spec.no_members (map (folds.member_of l.context) (take l.member-index l.members)))

abbrev pub invariant-multiplied-loop-part : goal.invariant-multiplied-loop-part
invariant-multiplied-loop-part l =
    (x : spec.Node) → l.fn.first ≡ spec.kept_node x
    → l.so_far ≡ spec.kept_node (spec.product_of_all l.table x (map (folds.multiplying_of l.context) (take l.part-index l.parts)))

abbrev pub invariant-added-loop-part : goal.invariant-added-loop-part
invariant-added-loop-part l =
    (x : spec.Node) → l.fn.first ≡ spec.kept_node x
    → l.so_far ≡ spec.kept_node (spec.sum_of_all l.table x (map (folds.adding_of l.context) (take l.part-index l.parts)))
