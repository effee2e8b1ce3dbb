use Rattle.resolve_statements.proofs.Gates.{on_ok}
use Rattle.resolve_statements.proofs.Labelled.{arm_whole, stmt_whole, empty_labels, assign_labels, call_labels, goto_labels, compound_labels, repeat_labels, case_labels, while_labels, for_labels, with_labels, if_labels, else_labels}
use Rattle.resolve_statements.proofs.labels.+labels.Goals as goal

pub push_arm-returns : goal.push_arm-returns
push_arm-returns t c =
    on_ok c.push_labels.result _ _
    (arm_whole c.args.arm.now c.args.out.now c.push_labels.new.out)
    c.push_labels.ensures

pub push_inner-returns-in-Compound : goal.push_inner-returns-in-Compound
push_inner-returns-in-Compound t c =
    on_ok c.push_all.result _ _
    (compound_labels c.args.kind.now c.args.out.now c.push_all.new.out c.in-Compound.stmts c.as_slice.result.now c.in-Compound.is c.as_slice.ensures)
    c.push_all.ensures

pub push_inner-returns-in-None : goal.push_inner-returns-in-None
push_inner-returns-in-None t c =
    if_labels c.args.kind.now c.args.out.now c.push_labels.new.out c.in-If.field-0 c.in-If.first c.get.result.now c.in-If.other c.in-If.is c.in-None.is c.get.ensures c.in_ok-push_labels-in-If.ensures

pub push_inner-returns-in-Some : goal.push_inner-returns-in-Some
push_inner-returns-in-Some t c =
    on_ok c.push_labels-in-Some.result _ _
    (else_labels c.args.kind.now c.args.out.now c.push_labels.new.out c.push_labels-in-Some.new.out c.in-If.field-0 c.in-If.first c.in-Some.second c.get.result.now c.get-in-Some.result.now c.in-If.other
    c.in-If.is c.in-Some.is c.get.ensures c.get-in-Some.ensures c.in_ok-push_labels-in-If.ensures)
    c.push_labels-in-Some.ensures

pub push_inner-returns-in-Case : goal.push_inner-returns-in-Case
push_inner-returns-in-Case t c =
    on_ok c.push_arms.result _ _
    (case_labels c.args.kind.now c.args.out.now c.push_arms.new.out c.in-Case.field-0 c.in-Case.arms c.as_slice-in-Case.result.now c.in-Case.is c.as_slice-in-Case.ensures)
    c.push_arms.ensures

pub push_inner-returns-in-While : goal.push_inner-returns-in-While
push_inner-returns-in-While t c =
    on_ok c.push_labels-in-While.result _ _
    (while_labels c.args.kind.now c.args.out.now c.push_labels-in-While.new.out c.in-While.field-0 c.in-While.body c.get-in-While.result.now c.in-While.is c.get-in-While.ensures)
    c.push_labels-in-While.ensures

pub push_inner-returns-in-Repeat : goal.push_inner-returns-in-Repeat
push_inner-returns-in-Repeat t c =
    on_ok c.push_all-in-Repeat.result _ _
    (repeat_labels c.args.kind.now c.args.out.now c.push_all-in-Repeat.new.out c.in-Repeat.stmts c.as_slice-in-Repeat.result.now c.in-Repeat.field-1 c.in-Repeat.is c.as_slice-in-Repeat.ensures)
    c.push_all-in-Repeat.ensures

pub push_inner-returns-in-For : goal.push_inner-returns-in-For
push_inner-returns-in-For t c =
    on_ok c.push_labels-in-For.result _ _
    (for_labels c.args.kind.now c.args.out.now c.push_labels-in-For.new.out c.in-For.field-0 c.in-For.field-1 c.in-For.field-2 c.in-For.field-3 c.in-For.body c.get-in-For.result.now c.in-For.is c.get-in-For.ensures)
    c.push_labels-in-For.ensures

pub push_inner-returns-in-With : goal.push_inner-returns-in-With
push_inner-returns-in-With t c =
    on_ok c.push_labels-in-With.result _ _
    (with_labels c.args.kind.now c.args.out.now c.push_labels-in-With.new.out c.in-With.field-0 c.in-With.body c.get-in-With.result.now c.in-With.is c.get-in-With.ensures)
    c.push_labels-in-With.ensures

pub push_inner-returns-in-Empty : goal.push_inner-returns-in-Empty
push_inner-returns-in-Empty t c =
    empty_labels c.args.kind.now c.args.out.now c.in-Empty.is

pub push_inner-returns-in-Assign : goal.push_inner-returns-in-Assign
push_inner-returns-in-Assign t c =
    assign_labels c.args.kind.now c.args.out.now c.in-Assign.field-0 c.in-Assign.field-1 c.in-Assign.is

pub push_inner-returns-in-Call : goal.push_inner-returns-in-Call
push_inner-returns-in-Call t c =
    call_labels c.args.kind.now c.args.out.now c.in-Call.field-0 c.in-Call.field-1 c.in-Call.is

pub push_inner-returns-in-Goto : goal.push_inner-returns-in-Goto
push_inner-returns-in-Goto t c =
    goto_labels c.args.kind.now c.args.out.now c.in-Goto.field-0 c.in-Goto.is

pub push_labels-returns : goal.push_labels-returns
push_labels-returns t c =
    on_ok c.push_inner.result _ _
    (stmt_whole c.args.stmt.now c.args.out.now c.push_own.new.out c.push_inner.new.out c.in_ok-push_own.ensures)
    c.push_inner.ensures
