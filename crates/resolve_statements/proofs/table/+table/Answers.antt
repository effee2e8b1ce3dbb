use Rattle.std.proofs.Common.{Ok, Err, map, refl, ap, subst, ◌∙◌}
use Rattle.pascal_tree.specs.declared.stmt.Stmt.{out-Stmt}
use Rattle.resolve_statements.specs.Forms.{context_in_for, context_with}
use Rattle.resolve_statements.specs.Statements.{access_node}
use Rattle.resolve_statements.specs.Tables.{PushedOver, stmt_rows, stmts_rows, arm_rows, arms_rows, kind_rows, step_place, end_place}
use Rattle.resolve_statements.proofs.Opened.{closed_again}
use Rattle.resolve_statements.proofs.Over.{same_over, after_first, ended_first, none_over, begun, turned, stopped, all_reached, moved}
use Rattle.resolve_statements.proofs.Rows as rows
use Rattle.resolve_statements.proofs.table.+table.Goals as goal

pub push_arm-returns-clause-rows : goal.push_arm-returns-clause-rows
push_arm-returns-clause-rows t c =
    same_over c.push_statement.result _ _ _ _ (λ tr h. rows.arm_is tr h c.args.arm.now c.args.context.now c.args.place) c.push_statement.ensures.rows

pub push_arms-loop-arm-init : goal.push_arms-loop-arm-init
push_arms-loop-arm-init t c = begun c.args.out.now c.args.context.now (arms_rows c.args.arms.now c.args.context.now c.args.place)

pub push_arms-returns-in-Err-clause-rows : goal.push_arms-returns-in-Err-clause-rows
push_arms-returns-in-Err-clause-rows t c =
    stopped _ _ c.in-Err.end _ _ _ _ _ _ _ _ _ _ c.loop-arm.invariant
    (λ tr h. rows.arms_turn tr h c.args.arms.now c.loop-arm.arm-index c.arm-item.result c.loop-arm-test.true c.arm-item.is c.args.context.now c.args.place)
    (subst (λ d. PushedOver {U = Unit {0}} (Err c.in-Err.end) c.loop-arm.out c.push_arm.new.out (arm_rows c.arm-item.result d c.args.place)) c.loop-arm.invariant.same c.in-Err.ensures.rows)

pub push_arms-loop-arm-preserved : goal.push_arms-loop-arm-preserved
push_arms-loop-arm-preserved t c =
    turned tt _ _ _ _ _ _ _ _ _ _ c.loop-arm.invariant
    (λ tr h. rows.arms_turn tr h c.args.arms.now c.loop-arm.arm-index c.arm-item.result c.loop-arm-test.true c.arm-item.is c.args.context.now c.args.place)
    c.in-Ok.ensures.kept
    (subst (λ d. PushedOver {U = Unit {0}} (Ok tt) c.loop-arm.out c.push_arm.new.out (arm_rows c.arm-item.result d c.args.place)) c.loop-arm.invariant.same c.in-Ok.ensures.rows)

pub push_arms-returns-clause-rows : goal.push_arms-returns-clause-rows
push_arms-returns-clause-rows t c =
    all_reached tt _ _ _ _ _ _ c.loop-arm.invariant (λ tr h. rows.arms_end tr h c.args.arms.now c.loop-arm.arm-index c.loop-arm-test.false c.args.context.now c.args.place)

pub push_arms-returns-clause-kept : goal.push_arms-returns-clause-kept
push_arms-returns-clause-kept t c = c.loop-arm.invariant.same

pub push_sequence-loop-index-init : goal.push_sequence-loop-index-init
push_sequence-loop-index-init t c = begun c.args.out.now c.args.context.now (stmts_rows c.args.stmts.now c.args.context.now c.args.place)

pub push_sequence-returns-in-Err-clause-rows : goal.push_sequence-returns-in-Err-clause-rows
push_sequence-returns-in-Err-clause-rows t c =
    stopped _ _ c.in-Err.end _ _ _ _ _ _ _ _ _ _ c.loop-index.invariant
    (λ tr h. rows.stmts_turn tr h c.args.stmts.now c.loop-index.index c.index-stmts-index.result c.loop-index-test.true c.index-stmts-index.is c.args.context.now c.args.place c.place_before-here.result c.place_before-here.ensures)
    (subst (λ d. PushedOver {U = Unit {0}} (Err c.in-Err.end) c.loop-index.out c.push_statement.new.out (stmt_rows c.index-stmts-index.result d c.place_before-here.result)) c.loop-index.invariant.same c.in-Err.ensures.rows)

pub push_sequence-loop-index-preserved : goal.push_sequence-loop-index-preserved
push_sequence-loop-index-preserved t c =
    turned tt _ _ _ _ _ _ _ _ _ _ c.loop-index.invariant
    (λ tr h. rows.stmts_turn tr h c.args.stmts.now c.loop-index.index c.index-stmts-index.result c.loop-index-test.true c.index-stmts-index.is c.args.context.now c.args.place c.place_before-here.result c.place_before-here.ensures)
    c.in-Ok.ensures.kept
    (subst (λ d. PushedOver {U = Unit {0}} (Ok tt) c.loop-index.out c.push_statement.new.out (stmt_rows c.index-stmts-index.result d c.place_before-here.result)) c.loop-index.invariant.same c.in-Ok.ensures.rows)

pub push_sequence-returns-clause-rows : goal.push_sequence-returns-clause-rows
push_sequence-returns-clause-rows t c =
    all_reached tt _ _ _ _ _ _ c.loop-index.invariant (λ tr h. rows.stmts_end tr h c.args.stmts.now c.loop-index.index c.loop-index-test.false c.args.context.now c.args.place)

pub push_sequence-returns-clause-kept : goal.push_sequence-returns-clause-kept
push_sequence-returns-clause-kept t c = c.loop-index.invariant.same

pub push_inner-returns-in-Compound-clause-rows : goal.push_inner-returns-in-Compound-clause-rows
push_inner-returns-in-Compound-clause-rows t c =
    same_over c.push_sequence.result _ _ _ _ (λ tr h. rows.compound_rows tr h c.args.kind.now c.in-Compound.stmts c.in-Compound.is c.args.context.now c.args.name c.args.place)
    (subst (λ ss. PushedOver c.push_sequence.result c.args.out.now c.push_sequence.new.out (stmts_rows ss c.args.context.now c.args.place)) c.as_slice.ensures c.push_sequence.ensures.rows)

pub push_inner-returns-in-Err-clause-rows : goal.push_inner-returns-in-Err-clause-rows
push_inner-returns-in-Err-clause-rows t c =
    ended_first _ _ c.in-Err.end _ c.push_statement.new.out _ _ (λ tr h. rows.other_rows tr h c.in-If.other c.args.context.now c.args.place) _
    (λ tr h. rows.if_rows tr h c.args.kind.now c.in-If.field-0 c.in-If.first c.in-If.other c.in-If.is c.args.context.now c.args.name c.args.place)
    (subst (λ x. PushedOver {U = Unit {0}} (Err c.in-Err.end) c.args.out.now c.push_statement.new.out (stmt_rows x c.args.context.now c.args.place)) c.get.ensures c.in-Err.ensures.rows)

pub push_inner-returns-in-None-clause-rows : goal.push_inner-returns-in-None-clause-rows
push_inner-returns-in-None-clause-rows t c =
    same_over {U = Unit {0}} (Ok tt) _ _ _ _
    (λ tr h. rows.if_alone tr h c.args.kind.now c.in-If.field-0 c.in-If.first c.in-If.other c.in-If.is c.in-None.is c.args.context.now c.args.name c.args.place)
    (subst (λ x. PushedOver {U = Unit {0}} (Ok tt) c.args.out.now c.push_statement.new.out (stmt_rows x c.args.context.now c.args.place)) c.get.ensures c.in-Ok.ensures.rows)

pub push_inner-returns-in-Some-clause-rows : goal.push_inner-returns-in-Some-clause-rows
push_inner-returns-in-Some-clause-rows t c =
    after_first {V = Unit {0}} c.push_statement-in-Some.result tt _ _ _ _ _ _
    (λ tr h. rows.if_else tr h c.args.kind.now c.in-If.field-0 c.in-If.first c.in-Some.second c.in-If.other c.in-If.is c.in-Some.is c.args.context.now c.args.name c.args.place)
    (subst (λ x. PushedOver {U = Unit {0}} (Ok tt) c.args.out.now c.push_statement.new.out (stmt_rows x c.args.context.now c.args.place)) c.get.ensures c.in-Ok.ensures.rows)
    (moved c.push_statement-in-Some.result c.push_statement.new.out c.push_statement-in-Some.new.out c.get-in-Some.result.now c.in-Some.second c.push_statement.new.context c.args.context.now c.args.place c.args.place
    c.get-in-Some.ensures c.in-Ok.ensures.kept refl c.push_statement-in-Some.ensures.rows)

pub push_inner-returns-in-Case-clause-rows : goal.push_inner-returns-in-Case-clause-rows
push_inner-returns-in-Case-clause-rows t c =
    same_over c.push_arms.result _ _ _ _ (λ tr h. rows.case_rows tr h c.args.kind.now c.in-Case.field-0 c.in-Case.arms c.in-Case.is c.args.context.now c.args.name c.args.place)
    (subst (λ ss. PushedOver c.push_arms.result c.args.out.now c.push_arms.new.out (arms_rows ss c.args.context.now c.args.place)) c.as_slice-in-Case.ensures c.push_arms.ensures.rows)

pub push_inner-returns-in-While-clause-rows : goal.push_inner-returns-in-While-clause-rows
push_inner-returns-in-While-clause-rows t c =
    same_over c.push_statement-in-While.result _ _ _ _ (λ tr h. rows.while_rows tr h c.args.kind.now c.in-While.field-0 c.in-While.body c.in-While.is c.args.context.now c.args.name c.args.place)
    (subst (λ p. PushedOver c.push_statement-in-While.result c.args.out.now c.push_statement-in-While.new.out (stmt_rows c.in-While.body c.args.context.now p)) c.turn_place.ensures
    (subst (λ x. PushedOver c.push_statement-in-While.result c.args.out.now c.push_statement-in-While.new.out (stmt_rows x c.args.context.now c.turn_place.result)) c.get-in-While.ensures c.push_statement-in-While.ensures.rows))

pub push_inner-returns-in-Repeat-clause-rows : goal.push_inner-returns-in-Repeat-clause-rows
push_inner-returns-in-Repeat-clause-rows t c =
    same_over c.push_sequence-in-Repeat.result _ _ _ _ (λ tr h. rows.repeat_rows tr h c.args.kind.now c.in-Repeat.stmts c.in-Repeat.field-1 c.in-Repeat.is c.args.context.now c.args.name c.args.place)
    (subst (λ p. PushedOver c.push_sequence-in-Repeat.result c.args.out.now c.push_sequence-in-Repeat.new.out (stmts_rows c.in-Repeat.stmts c.args.context.now p)) c.turn_place-in-Repeat.ensures
    (subst (λ x. PushedOver c.push_sequence-in-Repeat.result c.args.out.now c.push_sequence-in-Repeat.new.out (stmts_rows x c.args.context.now c.turn_place-in-Repeat.result)) c.as_slice-in-Repeat.ensures c.push_sequence-in-Repeat.ensures.rows))

pub push_inner-returns-in-Err-push_statement-clause-rows :
    goal.push_inner-returns-in-Err-push_statement-clause-rows
push_inner-returns-in-Err-push_statement-clause-rows t c =
    same_over {U = Unit {0}} (Err c.in-Err-push_statement.end) _ _ _ _
    (λ tr h. rows.for_rows tr h c.args.kind.now c.in-For.field-0 c.in-For.field-1 c.in-For.field-2 c.in-For.field-3 c.in-For.body c.in-For.is c.args.context.now c.args.name c.args.place)
    (moved {U = Unit {0}} (Err c.in-Err-push_statement.end) _ _ c.get-in-For.result.now c.in-For.body c.enter_for.new.context (context_in_for c.args.context.now) c.step_place.result (step_place c.args.name c.args.place)
    c.get-in-For.ensures c.in-Ok-enter_for.ensures c.step_place.ensures c.in-Err-push_statement.ensures.rows)

pub push_inner-returns-in-Ok-push_statement-clause-rows :
    goal.push_inner-returns-in-Ok-push_statement-clause-rows
push_inner-returns-in-Ok-push_statement-clause-rows t c =
    same_over {U = Unit {0}} (Ok tt) _ _ _ _
    (λ tr h. rows.for_rows tr h c.args.kind.now c.in-For.field-0 c.in-For.field-1 c.in-For.field-2 c.in-For.field-3 c.in-For.body c.in-For.is c.args.context.now c.args.name c.args.place)
    (moved {U = Unit {0}} (Ok tt) _ _ c.get-in-For.result.now c.in-For.body c.enter_for.new.context (context_in_for c.args.context.now) c.step_place.result (step_place c.args.name c.args.place)
    c.get-in-For.ensures c.in-Ok-enter_for.ensures c.step_place.ensures c.in-Ok-push_statement.ensures.rows)

pub push_inner-returns-in-Err-push_statement-2-clause-rows :
    goal.push_inner-returns-in-Err-push_statement-2-clause-rows
push_inner-returns-in-Err-push_statement-2-clause-rows t c =
    same_over {U = Unit {0}} (Err c.in-Err-push_statement-2.end) _ _ _ _
    (λ tr h. rows.with_rows tr h c.args.kind.now c.in-With.records c.in-With.body c.in-With.is c.args.context.now c.args.name c.args.place)
    (moved {U = Unit {0}} (Err c.in-Err-push_statement-2.end) _ _ c.get-in-With.result.now c.in-With.body c.enter_with.new.context (context_with c.args.context.now (map access_node c.in-With.records)) c.end_place.result (end_place c.args.name c.args.place)
    c.get-in-With.ensures (c.in-Ok-enter_with.ensures ∙ ap (λ rs. context_with c.args.context.now (map access_node rs)) c.as_slice-in-With.ensures) c.end_place.ensures c.in-Err-push_statement-2.ensures.rows)

pub push_inner-returns-in-Ok-push_statement-2-clause-rows :
    goal.push_inner-returns-in-Ok-push_statement-2-clause-rows
push_inner-returns-in-Ok-push_statement-2-clause-rows t c =
    same_over {U = Unit {0}} (Ok tt) _ _ _ _
    (λ tr h. rows.with_rows tr h c.args.kind.now c.in-With.records c.in-With.body c.in-With.is c.args.context.now c.args.name c.args.place)
    (moved {U = Unit {0}} (Ok tt) _ _ c.get-in-With.result.now c.in-With.body c.enter_with.new.context (context_with c.args.context.now (map access_node c.in-With.records)) c.end_place.result (end_place c.args.name c.args.place)
    c.get-in-With.ensures (c.in-Ok-enter_with.ensures ∙ ap (λ rs. context_with c.args.context.now (map access_node rs)) c.as_slice-in-With.ensures) c.end_place.ensures c.in-Ok-push_statement-2.ensures.rows)

pub push_inner-returns-in-Ok-push_statement-2-clause-kept :
    goal.push_inner-returns-in-Ok-push_statement-2-clause-kept
push_inner-returns-in-Ok-push_statement-2-clause-kept t c =
    closed_again c.args.context.now c.push_statement-in-With.new.context c.close_records.new.context (map access_node c.as_slice-in-With.result.now) c.len-count.result
    c.close_records.ensures (c.in-Ok-push_statement-2.ensures.kept ∙ c.in-Ok-enter_with.ensures) c.len-count.ensures

pub push_inner-returns-in-Assign-clause-rows : goal.push_inner-returns-in-Assign-clause-rows
push_inner-returns-in-Assign-clause-rows t c =
    none_over tt c.args.out.now _ (λ tr h. rows.assign_rows tr h c.args.kind.now c.in-Assign.field-0 c.in-Assign.field-1 c.in-Assign.is c.args.context.now c.args.name c.args.place)

pub push_inner-returns-in-Call-clause-rows : goal.push_inner-returns-in-Call-clause-rows
push_inner-returns-in-Call-clause-rows t c =
    none_over tt c.args.out.now _ (λ tr h. rows.call_rows tr h c.args.kind.now c.in-Call.field-0 c.in-Call.field-1 c.in-Call.is c.args.context.now c.args.name c.args.place)

pub push_inner-returns-in-Goto-clause-rows : goal.push_inner-returns-in-Goto-clause-rows
push_inner-returns-in-Goto-clause-rows t c =
    none_over tt c.args.out.now _ (λ tr h. rows.goto_rows tr h c.args.kind.now c.in-Goto.field-0 c.in-Goto.is c.args.context.now c.args.name c.args.place)

pub push_inner-returns-in-Empty-clause-rows : goal.push_inner-returns-in-Empty-clause-rows
push_inner-returns-in-Empty-clause-rows t c =
    none_over tt c.args.out.now _ (λ tr h. rows.empty_rows tr h c.args.kind.now c.in-Empty.is c.args.context.now c.args.name c.args.place)

pub push_statement-returns-in-Err-clause-rows : goal.push_statement-returns-in-Err-clause-rows
push_statement-returns-in-Err-clause-rows t c =
    ended_first _ _ c.in-Err.end _ _ _ _ _ _ (λ tr h. rows.stmt_split tr h c.args.stmt.now c.args.context.now c.args.place) c.in-Err.ensures.rows

pub push_statement-returns-in-Ok-clause-rows : goal.push_statement-returns-in-Ok-clause-rows
push_statement-returns-in-Ok-clause-rows t c =
    after_first c.push_inner.result tt _ _ _ _ _ _ (λ tr h. rows.stmt_split tr h c.args.stmt.now c.args.context.now c.args.place) c.in-Ok.ensures.rows
    (subst (λ d. PushedOver c.push_inner.result c.push_head.new.out c.push_inner.new.out (kind_rows (out-Stmt c.args.stmt.now).kind d (out-Stmt c.args.stmt.now).name c.args.place)) c.in-Ok.ensures.kept c.push_inner.ensures.rows)
