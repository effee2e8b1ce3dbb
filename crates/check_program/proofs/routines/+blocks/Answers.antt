use Rattle.std.proofs.Common.{[], ◌∷◌, refl, sym, ap, ◌∙◌, subst}
use Rattle.std.proofs.lemmas.List.{drop_all}
use Rattle.pascal_tree.specs.declared.decl.Block.{out-Block}
use Rattle.pascal_tree.specs.declared.decl.Routine.{out-Routine}
use Rattle.check_decl.specs.BlockRules.{owner_of}
use Rattle.resolve_expr.specs.declared.context.Context.{Context}
use Rattle.resolve_types.specs.Programs.{context_of}
use Rattle.check_program.proofs.Joined.{adds_given}
use Rattle.check_program.specs.Resolution.{block_listed, block_rows}
use Rattle.check_program.proofs.Viewed.{without_block, without_entity}
use Rattle.check_program.proofs.Walked.{block_adds, block_ended, rest_adds, rest_ended, nothing_adds, found_at, inside_at, routine_adds, turn_completes, turn_ended, all_added}
use Rattle.check_program.proofs.routines.+blocks.Goals as goal

pub push_block-returns-in-Err-clause-rows : goal.push_block-returns-in-Err-clause-rows
push_block-returns-in-Err-clause-rows t c = λ owner same at.
    block_ended (Unit {0}) Context c.in-Err.end c.args.source.now.end c.args.out.now c.push_own.new.out c.args.other c.args.ident.now c.args.routine.now owner c.args.block.now
    (c.in-Err.ensures (context_of c.args.source.now.end owner))

pub push_block-returns-in-Ok-clause-rows : goal.push_block-returns-in-Ok-clause-rows
push_block-returns-in-Ok-clause-rows t c = λ owner same at.
    block_adds c.push_rest.result c.in-Ok.field-0 c.args.source.now.end c.args.out.now c.push_own.new.out c.push_rest.new.out c.args.other c.args.ident.now c.args.routine.now owner c.args.block.now same
    (c.in-Ok.ensures (context_of c.args.source.now.end owner)) (c.push_rest.ensures.rows owner c.args.ident.now at)

pub push_rest-returns-in-Err-clause-rows : goal.push_rest-returns-in-Err-clause-rows
push_rest-returns-in-Err-clause-rows t c = λ owner ident at.
    rest_ended Context Context c.in-Err.end c.args.source.now.end c.args.out.now c.push_routines.new.out ident c.args.routine.now owner c.args.block.now
    c.as_slice.result.now c.as_slice.ensures (c.in-Err.ensures.rows owner at)

pub push_rest-returns-in-Ok-clause-rows : goal.push_rest-returns-in-Ok-clause-rows
push_rest-returns-in-Ok-clause-rows t c = λ owner ident at.
    rest_adds c.push_body.result c.in-Ok.context c.args.source.now.end c.args.out.now c.push_routines.new.out c.push_body.new.out ident c.args.routine.now owner c.args.block.now
    c.as_slice.result.now c.in-Ok.context c.as_slice.ensures (c.in-Ok.ensures.kept ∙ at) (c.in-Ok.ensures.rows owner at) c.push_body.ensures.rows

pub push_routine-returns-in-None-clause-rows : goal.push_routine-returns-in-None-clause-rows
push_routine-returns-in-None-clause-rows t c = λ owner at.
    nothing_adds c.args.context c.args.source.now.end c.args.out.now owner c.args.routine.now
    (λ h. without_block c.args.source.now.end owner c.args.routine.now h c.in-None.is)

pub push_routine-returns-in-None-routine_in-clause-rows :
    goal.push_routine-returns-in-None-routine_in-clause-rows
push_routine-returns-in-None-routine_in-clause-rows t c = λ owner at.
    nothing_adds c.args.context c.args.source.now.end c.args.out.now owner c.args.routine.now
    (λ h. without_entity c.args.source.now.end owner c.args.routine.now c.in-Some.block h c.in-Some.is
    (found_at c.args.source.now.end owner c.args.routine.now c.args.context _ at c.in-None-routine_in.ensures))

pub push_routine-returns-in-Err-clause-rows : goal.push_routine-returns-in-Err-clause-rows
push_routine-returns-in-Err-clause-rows t c = λ owner at.
    let f = c.in-Some-routine_in.entity.now in
    let end = c.args.source.now.end in
    routine_adds _ end c.args.out.now c.push_block.new.out owner c.args.routine.now c.in-Some.block f c.args.context at c.in-Some.is c.in-Some-routine_in.ensures
    (c.in-Err.ensures.rows (owner_of f owner) refl (inside_at end owner f c.args.context c.in-Ok.inside at c.in-Ok.ensures))

pub push_routine-returns-in-Ok-left-clause-rows : goal.push_routine-returns-in-Ok-left-clause-rows
push_routine-returns-in-Ok-left-clause-rows t c = λ owner at.
    let f = c.in-Some-routine_in.entity.now in
    let end = c.args.source.now.end in
    let x = (out-Routine c.args.routine.now).heading.ident in
    routine_adds _ end c.args.out.now c.push_block.new.out owner c.args.routine.now c.in-Some.block f c.args.context at c.in-Some.is c.in-Some-routine_in.ensures
    (adds_given c.in-Ok-push_block.inside c.in-Ok-left.outside end c.args.out.now c.push_block.new.out
    (block_listed end c.args.context.env.owner x f (owner_of f owner) c.in-Some.block)
    (block_rows end x f (owner_of f owner) c.in-Some.block)
    (c.in-Ok-push_block.ensures.rows (owner_of f owner) refl (inside_at end owner f c.args.context c.in-Ok.inside at c.in-Ok.ensures)))

pub push_routines-returns-in-Err-clause-rows : goal.push_routines-returns-in-Err-clause-rows
push_routines-returns-in-Err-clause-rows t c = λ owner at.
    turn_ended c.args.source.now.end owner c.args.out.now c.loop-routine.out c.push_routine.new.out c.args.routines.now c.loop-routine.routine-index c.routine-item.result c.in-Err.end
    c.loop-routine-test.true c.routine-item.is
    (c.in-Err.ensures.rows owner (c.loop-routine.invariant.same ∙ at)) (c.loop-routine.invariant.completes owner at)

pub push_routines-loop-routine-preserved : goal.push_routines-loop-routine-preserved
push_routines-loop-routine-preserved t c = record {
  same = c.in-Ok.ensures.kept ∙ c.loop-routine.invariant.same;
  completes = λ owner at.
      turn_completes c.in-Ok.same c.args.source.now.end owner c.args.out.now c.loop-routine.out c.push_routine.new.out c.args.routines.now c.loop-routine.routine-index c.routine-item.result
      c.loop-routine-test.true c.routine-item.is
      (c.in-Ok.ensures.rows owner (c.loop-routine.invariant.same ∙ at)) (c.loop-routine.invariant.completes owner at);
}

pub push_routines-returns-clause-rows : goal.push_routines-returns-clause-rows
push_routines-returns-clause-rows t c = λ owner at.
    all_added c.args.source.now.end owner c.args.out.now c.loop-routine.out c.args.routines.now _ c.loop-routine.context
    (drop_all c.loop-routine.routine-index c.args.routines.now c.loop-routine-test.false)
    (c.loop-routine.invariant.completes owner at)
