use Rattle.resolve_statements.proofs.Gates.{on_ok, empty_entries, assign_entries, call_entries, goto_entries, compound_entries, repeat_entries, case_entries, while_entries, for_entries, with_entries, if_entries, else_entries}
use Rattle.resolve_statements.proofs.entries.push_inner_entries.Goals as goal

pub returns-in-Compound : goal.returns-in-Compound
returns-in-Compound c =
    on_ok c.push_entries.result _ _ (compound_entries c.args.kind.now c.args.out.now c.push_entries.new.out c.in-Compound.stmts c.as_slice.result.now c.in-Compound.is c.as_slice.ensures) c.push_entries.ensures

pub returns-in-None : goal.returns-in-None
returns-in-None c =
    if_entries c.args.kind.now c.args.out.now c.push_entry.new.out c.in-If.field-0 c.in-If.first c.get.result.now c.in-If.other c.in-If.is c.in-None.is c.get.ensures c.in_ok-push_entry-in-If.ensures

pub returns-in-Some : goal.returns-in-Some
returns-in-Some c =
    on_ok c.push_entry-in-Some.result _ _
    (else_entries c.args.kind.now c.args.out.now c.push_entry.new.out c.push_entry-in-Some.new.out c.in-If.field-0 c.in-If.first c.in-Some.second c.get.result.now c.get-in-Some.result.now c.in-If.other
    c.in-If.is c.in-Some.is c.get.ensures c.get-in-Some.ensures c.in_ok-push_entry-in-If.ensures)
    c.push_entry-in-Some.ensures

pub returns-in-Case : goal.returns-in-Case
returns-in-Case c =
    on_ok c.push_arm_entries.result _ _ (case_entries c.args.kind.now c.args.out.now c.push_arm_entries.new.out c.in-Case.field-0 c.in-Case.arms c.as_slice-in-Case.result.now c.in-Case.is c.as_slice-in-Case.ensures) c.push_arm_entries.ensures

pub returns-in-While : goal.returns-in-While
returns-in-While c =
    on_ok c.push_entry-in-While.result _ _ (while_entries c.args.kind.now c.args.out.now c.push_entry-in-While.new.out c.in-While.field-0 c.in-While.body c.get-in-While.result.now c.in-While.is c.get-in-While.ensures) c.push_entry-in-While.ensures

pub returns-in-Repeat : goal.returns-in-Repeat
returns-in-Repeat c =
    on_ok c.push_entries-in-Repeat.result _ _ (repeat_entries c.args.kind.now c.args.out.now c.push_entries-in-Repeat.new.out c.in-Repeat.stmts c.as_slice-in-Repeat.result.now c.in-Repeat.field-1 c.in-Repeat.is c.as_slice-in-Repeat.ensures) c.push_entries-in-Repeat.ensures

pub returns-in-For : goal.returns-in-For
returns-in-For c =
    on_ok c.push_entry-in-For.result _ _ (for_entries c.args.kind.now c.args.out.now c.push_entry-in-For.new.out c.in-For.field-0 c.in-For.field-1 c.in-For.field-2 c.in-For.field-3 c.in-For.body c.get-in-For.result.now c.in-For.is c.get-in-For.ensures) c.push_entry-in-For.ensures

pub returns-in-With : goal.returns-in-With
returns-in-With c =
    on_ok c.push_entry-in-With.result _ _ (with_entries c.args.kind.now c.args.out.now c.push_entry-in-With.new.out c.in-With.field-0 c.in-With.body c.get-in-With.result.now c.in-With.is c.get-in-With.ensures) c.push_entry-in-With.ensures

pub returns-in-Empty : goal.returns-in-Empty
returns-in-Empty c = empty_entries c.args.kind.now c.args.out.now c.in-Empty.is

pub returns-in-Assign : goal.returns-in-Assign
returns-in-Assign c = assign_entries c.args.kind.now c.args.out.now c.in-Assign.field-0 c.in-Assign.field-1 c.in-Assign.is

pub returns-in-Call : goal.returns-in-Call
returns-in-Call c = call_entries c.args.kind.now c.args.out.now c.in-Call.field-0 c.in-Call.field-1 c.in-Call.is

pub returns-in-Goto : goal.returns-in-Goto
returns-in-Goto c = goto_entries c.args.kind.now c.args.out.now c.in-Goto.field-0 c.in-Goto.is
