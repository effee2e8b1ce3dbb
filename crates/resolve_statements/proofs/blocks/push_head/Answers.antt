use Rattle.std.proofs.Common.{subst}
use Rattle.resolve_statements.specs.Tables.{AreEntries, inner_in}
use Rattle.resolve_statements.proofs.Heads.{no_head, some_head}
use Rattle.resolve_statements.proofs.blocks.push_head.Goals as goal

pub returns-in_default-form-clause-rows : goal.returns-in_default-form-clause-rows
returns-in_default-form-clause-rows c =
    no_head tt c.args.out.now c.args.kind.now c.args.context.now c.args.name c.args.place c.in-Ok.form c.in-Ok.ensures.value c.in_default-form.is

pub returns-clause-rows : goal.returns-clause-rows
returns-clause-rows c =
    some_head c.push_block.result c.args.out.now c.push_block.new.out c.args.kind.now c.args.context.now c.args.name c.args.place c.push_inner_entries.new.out c.in-Ok.form c.in-Some.kept
    c.in-Ok.ensures.value c.in-Some.is
    (subst (λ ns. AreEntries ns c.push_inner_entries.new.out (inner_in c.args.kind.now)) c.new-entries.ensures c.in-Ok-push_inner_entries.ensures)
    c.push_block.ensures
