use Rattle.std.proofs.Common.{ap, sym, ◌∙◌, map, length, take, arith, option_map}
use Rattle.pascal_tree.specs.declared.expr.SetMember.{out-SetMember}
use Rattle.resolve_expr.specs.Nodes as spec
use Rattle.resolve_expr.specs.Expressions as folds
use Rattle.resolve_expr.proofs.Ranks.{adding_is, multiplying_is, member_is, first_argument, standard_over, parted_value, loaded_over}
use Rattle.resolve_expr.proofs.Sole.{sole_factor}
use Rattle.resolve_expr.proofs.Chains.{components_turn, steps_turn, sums_turn, products_turn, members_turn, arguments_end, parameters_end, member_over}
use Rattle.resolve_expr.proofs.expressions.+node_of.Goals as goal

pub components_node-loop-expr-preserved : goal.components_node-loop-expr-preserved
components_node-loop-expr-preserved t c = λ x is.
    c.in_ok-at.ensures _ _ (c.loop-expr.invariant x is) c.in_ok-value.ensures
    ∙ ap spec.kept_node (sym (components_turn c.as_slice-table.result.now x (folds.value_of c.args.context.now) c.args.exprs.now c.loop-expr.expr-index c.expr-item.result c.loop-expr-test.true c.expr-item.is))

pub node_after-loop-part-preserved : goal.node_after-loop-part-preserved
node_after-loop-part-preserved t c = λ x is.
    c.in_ok-at.ensures _ (c.loop-part.invariant x is)
    ∙ ap spec.kept_node (sym (steps_turn x (folds.part_of c.args.context.now) c.args.parts.now c.loop-part.part-index c.part-item.result c.loop-part-test.true c.part-item.is))

pub set_node-loop-member-preserved : goal.set_node-loop-member-preserved
set_node-loop-member-preserved t c =
    c.in_ok-collected.ensures _ c.loop-member.invariant
    ∙ ap spec.kept_collected (sym (members_turn _ _ (folds.member_of c.args.context.now) c.args.members.now c.loop-member.member-index c.member-item.result c.loop-member-test.true c.member-item.is))

pub multiplied-loop-part-preserved : goal.multiplied-loop-part-preserved
multiplied-loop-part-preserved t c = λ x is.
    let before = spec.product_of_all c.as_slice-table.result.now x (map (folds.multiplying_of c.args.context.now) (take c.loop-part.part-index c.args.parts.now)) in
    c.in_ok-so_far.ensures _ _ (c.loop-part.invariant x is) c.in_ok-right.ensures
    ∙ (ap (λ m. spec.kept_node (spec.product_with c.as_slice-table.result.now before m)) (sym (multiplying_is c.args.context.now c.part-item.result))
    ∙ ap spec.kept_node (sym (products_turn c.as_slice-table.result.now x (folds.multiplying_of c.args.context.now) c.args.parts.now c.loop-part.part-index c.part-item.result c.loop-part-test.true c.part-item.is)))

pub added-loop-part-preserved : goal.added-loop-part-preserved
added-loop-part-preserved t c = λ x is.
    let before = spec.sum_of_all c.as_slice-table.result.now x (map (folds.adding_of c.args.context.now) (take c.loop-part.part-index c.args.parts.now)) in
    c.in_ok-so_far.ensures _ _ (c.loop-part.invariant x is) c.in_ok-right.ensures
    ∙ (ap (λ m. spec.kept_node (spec.sum_with c.as_slice-table.result.now before m)) (sym (adding_is c.args.context.now c.part-item.result))
    ∙ ap spec.kept_node (sym (sums_turn c.as_slice-table.result.now x (folds.adding_of c.args.context.now) c.args.parts.now c.loop-part.part-index c.part-item.result c.loop-part-test.true c.part-item.is)))

pub arguments-returns : goal.arguments-returns
arguments-returns t c =
    arguments_end c.args.context.now.env.table (folds.argument_of c.args.context.now) c.args.parameters.now c.loop-arg.left.now c.args.args.now c.loop-arg.arg-index c.loop-arg.parts (omega (arith, c.loop-arg-test.false, c.loop-arg.auto.arg-index-end)) c.loop-arg.invariant

pub arguments-returns-in_default : goal.arguments-returns-in_default
arguments-returns-in_default t c =
    parameters_end c.args.context.now.env.table (folds.argument_of c.args.context.now) c.args.parameters.now c.loop-arg.left.now c.args.args.now c.loop-arg.arg-index c.loop-arg.parts (omega (arith, c.in_default.len_below)) c.loop-arg.invariant

pub with_member-returns-in_ok-last-in-Some : goal.with_member-returns-in_ok-last-in-Some
with_member-returns-in_ok-last-in-Some t c = λ x is.
    member_over c.with_range.result c.as_slice-table.result.now c.args.context.now.env.table x _ (folds.member_of c.args.context.now c.args.member.now)
    (c.with_range.ensures x _ _ is c.in_ok-first.ensures c.in_ok-last-in-Some.ensures) c.as_slice-table.ensures
    (member_is c.args.context.now c.args.member.now
    ∙ ap (λ o. ((folds.value_of c.args.context.now (out-SetMember c.args.member.now).first).node, folds.last_node (option_map (folds.value_of c.args.context.now) o))) c.in-Some.is)

pub standard_node-returns : goal.standard_node-returns
standard_node-returns t c =
    standard_over c.standard_with.result c.as_slice.result.now c.args.context.now.env.table c.args.function _ _
    (c.standard_with.ensures _ c.in_ok-operand.ensures) c.as_slice.ensures
    (first_argument c.args.context.now c.args.function c.args.args.now c.first-item.result (omega (arith, c.in-len1-up.len_at_least)) c.first-item.is)

pub place_in-returns : goal.place_in-returns
place_in-returns t c =
    rw (sole_factor c.args.context.now c.args.expr.now c.in-None.is
    (omega (arith, c.in-empty.len_below, ap length c.as_slice.ensures)) (omega (arith, c.in-empty-as_slice.len_below, ap length c.as_slice-2.ensures))
    c.in-Without.is)
    c.factor_place.ensures

pub access_node-returns : goal.access_node-returns
access_node-returns t c =
    loaded_over c.loaded.result c.as_slice.result.now c.args.context.now.env.table _ (spec.entity_node c.args.context.now (folds.access_of c.args.context.now c.args.access.now))
    (c.loaded.ensures _ c.in_ok-place.ensures) c.as_slice.ensures
    (parted_value c.args.context.now c.args.access.now (omega (arith, c.if-parts-lt1.false, ap length c.as_slice-parts.ensures)))
