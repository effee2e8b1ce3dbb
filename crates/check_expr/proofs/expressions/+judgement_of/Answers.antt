use Rattle.std.proofs.Common.{ap, sym, ◌∙◌, map, length, take, arith}
use Rattle.expression_rules.specs.Accesses as accesses
use Rattle.expression_rules.specs.Expressions as spec
use Rattle.expression_rules.specs.Values as values
use Rattle.check_expr.specs.Steps as steps
use Rattle.check_expr.proofs.Sole.{sole_factor}
use Rattle.check_expr.proofs.Chains.{all_turn, plain_next, behind_end, members_turn, arguments_end, one_by}
use Rattle.check_expr.proofs.Cases.{alone_is, no_variable_is, variable_is, member_alone, member_range}
use Rattle.check_expr.proofs.expressions.+judgement_of.Goals as goal

pub access_judgement-returns : goal.access_judgement-returns
access_judgement-returns t c =
    c.alone.ensures
    ∙ (ap (λ x. steps.alone c.args.env.now.table (accesses.entity_at c.args.env.now x)) c.bytes.ensures
    ∙ sym (alone_is c.args.env.now c.args.access.now (omega (arith, c.in-empty.len_below, ap length c.as_slice.ensures))))

pub all_notes-loop-arg-preserved : goal.all_notes-loop-arg-preserved
all_notes-loop-arg-preserved t c =
    c.in_ok-notes.ensures
    ∙ (ap (λ n. values.notes_of_both n c.in_ok-more.more) c.loop-arg.invariant
    ∙ (ap (values.notes_of_both (accesses.all_notes (map (spec.argument_of c.args.env.now) (take c.loop-arg.arg-index c.args.args.now)))) c.in_ok-more.ensures
    ∙ sym (all_turn (spec.argument_of c.args.env.now) c.args.args.now c.loop-arg.arg-index c.arg-item.result c.loop-arg-test.true c.arg-item.is)))

pub argument_notes-loop-arg-preserved : goal.argument_notes-loop-arg-preserved
argument_notes-loop-arg-preserved t c =
    plain_next (spec.argument_of c.args.env.now) c.args.args.now c.loop-arg.arg-index c.arg-item.result c.loop-arg.notes c.in_ok-more.more c.in_ok-notes.notes
    c.loop-arg-test.true c.arg-item.is c.loop-arg.invariant c.in_ok-more.ensures c.in_ok-notes.ensures

pub notes_behind-loop-arg-preserved : goal.notes_behind-loop-arg-preserved
notes_behind-loop-arg-preserved t c =
    plain_next (spec.argument_of c.args.env.now) _ c.loop-arg.arg-index c.arg-item.result c.loop-arg.notes c.in_ok-more.more c.in_ok-notes.notes
    c.loop-arg-test.true c.arg-item.is c.loop-arg.invariant c.in_ok-more.ensures c.in_ok-notes.ensures

pub notes_behind-returns : goal.notes_behind-returns
notes_behind-returns t c =
    behind_end (spec.argument_of c.args.env.now) c.args.args.now c.loop-arg.arg-index c.loop-arg.notes (omega (arith, c.loop-arg-test.false, c.loop-arg.auto.arg-index-end)) c.loop-arg.invariant

pub one_argument_value-returns : goal.one_argument_value-returns
one_argument_value-returns t c =
    one_by c.args.env.now.table c.as_slice.result.now c.as_slice-2.result.now c.args.function (spec.argument_of c.args.env.now) c.args.args.now c.first-item.result c.in_ok-value.value c.in_ok-notes.notes c.notes_with.result c.kind_of_one-kind.result c.result_of.result
    (omega (arith, c.in-len1-up.len_at_least)) c.first-item.is c.as_slice.ensures c.as_slice-2.ensures c.in_ok-value.ensures c.in_ok-notes.ensures c.kind_of_one-kind.ensures c.result_of.ensures c.notes_with.ensures

pub arguments_notes-returns : goal.arguments_notes-returns
arguments_notes-returns t c =
    c.notes_with.ensures
    ∙ (ap (values.notes_with c.loop-arg.notes) c.kind_unless-fits.ensures
    ∙ arguments_end c.args.env.now.table c.loop-arg.over (spec.argument_of c.args.env.now) c.args.parameters.now c.loop-arg.left.now c.args.args.now c.loop-arg.arg-index c.loop-arg.notes (omega (arith, c.loop-arg-test.false, c.loop-arg.auto.arg-index-end)) c.loop-arg.invariant)

pub place_in-returns : goal.place_in-returns
place_in-returns t c =
    rw (sole_factor c.args.env.now c.args.expr.now c.in-None.is
    (omega (arith, c.in-empty.len_below, ap length c.as_slice.ensures)) (omega (arith, c.in-empty-as_slice.len_below, ap length c.as_slice-2.ensures))
    c.in-Without.is)
    c.place_of_factor.ensures

pub with_member-returns-in-None : goal.with_member-returns-in-None
with_member-returns-in-None t c =
    member_alone c.args.env.now c.args.member.now (steps.members c.args.collected) (steps.members c.in_ok-collected.collected) c.as_slice-table.result.now c.in_ok-first.first
    c.in-None.is c.as_slice-table.ensures c.in_ok-first.ensures c.in_ok-collected.ensures

pub with_member-returns-in_ok-last-in-Some : goal.with_member-returns-in_ok-last-in-Some
with_member-returns-in_ok-last-in-Some t c =
    member_range c.with_value-in-Some.result c.args.env.now c.args.member.now c.in-Some.expr (steps.members c.args.collected) (steps.members c.in_ok-collected.collected) c.as_slice-table.result.now c.in_ok-first.first c.in_ok-last-in-Some.last
    c.in-Some.is c.as_slice-table.ensures c.in_ok-first.ensures c.in_ok-last-in-Some.ensures c.in_ok-collected.ensures c.with_value-in-Some.ensures

pub set_judgement-loop-member-preserved : goal.set_judgement-loop-member-preserved
set_judgement-loop-member-preserved t c =
    c.in_ok-collected.ensures
    ∙ (ap (λ m. steps.with_member c.args.env.now.table m (spec.member_of c.args.env.now c.member-item.result)) c.loop-member.invariant
    ∙ sym (members_turn c.args.env.now.table _ (spec.member_of c.args.env.now) c.args.members.now c.loop-member.member-index c.member-item.result c.loop-member-test.true c.member-item.is))

pub by_place_notes-returns-in_ok-place : goal.by_place_notes-returns-in_ok-place
by_place_notes-returns-in_ok-place t c =
    variable_is c.passed_notes.result c.args.env.now c.args.parameter.now (spec.value_of c.args.env.now c.args.expr.now) c.in-Some.access.now c.in_ok-place.place c.leads_to_variable.result
    c.passed_notes.ensures (c.in-Some.ensures c.args.env.now) c.in_ok-place.ensures c.leads_to_variable.ensures c.if-leads_to_variable.true

pub by_place_notes-returns-else-leads_to_variable : goal.by_place_notes-returns-else-leads_to_variable
by_place_notes-returns-else-leads_to_variable t c =
    no_variable_is c.no_variable-else-leads_to_variable.result c.args.env.now c.args.parameter.now (spec.value_of c.args.env.now c.args.expr.now) c.in-Some.access.now c.leads_to_variable.result
    c.no_variable-else-leads_to_variable.ensures (c.in-Some.ensures c.args.env.now) c.leads_to_variable.ensures c.if-leads_to_variable.false
