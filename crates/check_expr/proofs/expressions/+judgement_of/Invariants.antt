use Rattle.std.proofs.Common.{◌≡◌, None, false, map, take, drop}
use Rattle.expression_rules.specs.Accesses as accesses
use Rattle.expression_rules.specs.ExpressionRules as rules
use Rattle.expression_rules.specs.Expressions as spec
use Rattle.expression_rules.specs.Values as values
use Rattle.check_expr.specs.Steps as steps
use Rattle.check_expr.proofs.expressions.+judgement_of.Given as goal

abbrev pub invariant-components_place-loop-expr : goal.invariant-components_place-loop-expr
invariant-components_place-loop-expr l =
    accesses.components_place l.env l.fn.place (map (spec.value_of l.env) l.exprs) ≡ accesses.components_place l.env l.at (map (spec.value_of l.env) (drop l.expr-index l.exprs))

abbrev pub invariant-place_after-loop-part : goal.invariant-place_after-loop-part
invariant-place_after-loop-part l = accesses.place_after l.fn.place (map (spec.part_of l.env) l.parts) ≡ accesses.place_after l.at (map (spec.part_of l.env) (drop l.part-index l.parts))

abbrev pub invariant-all_notes-loop-arg : goal.invariant-all_notes-loop-arg
invariant-all_notes-loop-arg l = l.notes ≡ accesses.all_notes (map (spec.argument_of l.env) (take l.arg-index l.args))

abbrev pub invariant-argument_notes-loop-arg : goal.invariant-argument_notes-loop-arg
invariant-argument_notes-loop-arg l = l.notes ≡ accesses.argument_notes (map (spec.argument_of l.env) (take l.arg-index l.args))

abbrev pub invariant-arguments_notes-loop-arg : goal.invariant-arguments_notes-loop-arg
invariant-arguments_notes-loop-arg l =
    values.notes_of_both values.no_notes (steps.matched l.env.table false l.parameters (map (spec.argument_of l.env) l.args))
    ≡ values.notes_of_both l.notes (steps.matched l.env.table l.over l.left (map (spec.argument_of l.env) (drop l.arg-index l.args)))

abbrev pub invariant-set_judgement-loop-member : goal.invariant-set_judgement-loop-member
invariant-set_judgement-loop-member l =
    steps.members l.collected ≡ values.members_from l.env.table (record { base = None; notes = values.no_notes }) (map (spec.member_of l.env) (take l.member-index l.members))

abbrev pub invariant-product_of_all-loop-part : goal.invariant-product_of_all-loop-part
invariant-product_of_all-loop-part l =
    rules.product_of_all l.env.table l.fn.first (map (spec.multiplying_of l.env) l.parts) ≡ rules.product_of_all l.env.table l.so_far (map (spec.multiplying_of l.env) (drop l.part-index l.parts))

abbrev pub invariant-sum_of_all-loop-part : goal.invariant-sum_of_all-loop-part
invariant-sum_of_all-loop-part l =
    rules.sum_of_all l.env.table l.fn.first (map (spec.adding_of l.env) l.parts) ≡ rules.sum_of_all l.env.table l.so_far (map (spec.adding_of l.env) (drop l.part-index l.parts))

abbrev pub invariant-notes_behind-loop-arg : goal.invariant-notes_behind-loop-arg
invariant-notes_behind-loop-arg l = l.notes ≡ accesses.argument_notes (map (spec.argument_of l.env) (take l.arg-index l.rest))
