use Rattle.std.proofs.Common.{Ok, Err, ap, sym, map, ◌∙◌}
use Rattle.check_decl.specs.BlockRules.{program_owner}
use Rattle.check_rules.specs.declared.entity.RoutineEntity.{RoutineEntity}
use Rattle.resolve_expr.specs.declared.context.Context.{Context}
use Rattle.resolve_types.specs.Resolved.{domain_shape, type_trees, written_shapes}
use Rattle.check_program.specs.declared.lists.Lists.{Lists}
use Rattle.check_program.proofs.Built.{all_fit, as_program, built, outcome_ended}
use Rattle.check_program.proofs.parts.resolve_checked.Goals as goal

pub returns-in-Err : goal.returns-in-Err
returns-in-Err c =
    let old : Lists = record { routines = c.new.result; blocks = c.new-2.result } in
    outcome_ended {U = Context} c.in-Err.end c.args.program.now c.args.end old c.push_block.new.out
    (as_program {U = Context} (Err c.in-Err.end) c.args.program.now c.args.end old c.push_block.new.out c.program_entity-entity.result c.program_entity-entity.ensures
    (c.in-Err.ensures.rows program_owner (sym (ap (λ (f : RoutineEntity). f.name) c.program_entity-entity.ensures)) c.in-Ok-program_context.ensures))

pub returns-in-Ok-push_block : goal.returns-in-Ok-push_block
returns-in-Ok-push_block c =
    let old : Lists = record { routines = c.new.result; blocks = c.new-2.result } in
    let p = c.args.program.now in
    let end = c.args.end in
    let same = c.in-Ok.ensures.trees ∙ ap type_trees c.as_slice.ensures in
    let adds = as_program (Ok c.in-Ok-push_block.field-0) p end old c.push_block.new.out c.program_entity-entity.result c.program_entity-entity.ensures
    (c.in-Ok-push_block.ensures.rows program_owner (sym (ap (λ (f : RoutineEntity). f.name) c.program_entity-entity.ensures)) c.in-Ok-program_context.ensures) in
    record {
      shapes = c.in-Ok.ensures.shapes ∙ ap written_shapes c.as_slice.ensures;
      domains = c.in-Ok-domain_shapes.ensures ∙ ap (λ ds. map domain_shape ds) c.as_slice-2.ensures;
      built = built c.in-Ok-push_block.field-0 p end c.in-Ok.shapes.entries old c.push_block.new.out same c.new.ensures c.new-2.ensures adds;
      fit = all_fit c.in-Ok-push_block.field-0 p end old c.push_block.new.out adds;
    }
