use Rattle.std.proofs.Common.{◌≡◌, [], ◌∷◌, ◌++◌, ◌+◌, map, drop, Ok, Err, ap, sym, ◌∙◌, subst}
use Rattle.check_decl.specs.Answers.{Answers}
use Rattle.check_decl.specs.BlockRules.{owner_of, back_in, then_on, routine_item, routine_items}
use Rattle.check_decl.specs.Blocks.{block_judge, routine_judge, rest_walk}
use Rattle.pascal_tree.specs.declared.decl.Block.{out-Block}
use Rattle.check_decl.proofs.Steps.{declared_in, walk_is, after_declarations, answers_along, err_on, head_is, entered_is, inside_of, inside_is, left_is, last_is, turn_at}
use Rattle.check_decl.proofs.blocks.+blocks.Goals as goal

pub block_walk-returns-in-Err-clause-value : goal.block_walk-returns-in-Err-clause-value
block_walk-returns-in-Err-clause-value g t c =
    let rule = g.B.JudgesBodies.rule c.args.bodies.now in
    let b = c.args.block.now in
    answers_along (Err c.in-Err.end) _ _ (walk_is rule b c.args.owner.now c.args.outer.now c.args.here)
    (err_on c.in-Err.end (declared_in b c.args.owner.now c.args.outer.now c.args.here) (rest_walk rule (out-Block b) c.args.owner.now c.args.outer.now)
    (subst (λ o. Answers (Err c.in-Err.end) (declared_in b c.args.owner.now o c.args.here)) c.as_slice.ensures c.in-Err.ensures))

pub block_walk-returns-in-Ok-clause-value : goal.block_walk-returns-in-Ok-clause-value
block_walk-returns-in-Ok-clause-value g t c =
    let rule = g.B.JudgesBodies.rule c.args.bodies.now in
    let b = c.args.block.now in
    answers_along c.rest_walk.result _ _
    (after_declarations rule b c.args.owner.now c.args.outer.now c.args.here c.in-Ok.here
    (subst (λ o. declared_in b c.args.owner.now o c.args.here ≡ Ok c.in-Ok.here) c.as_slice.ensures c.in-Ok.ensures))
    c.rest_walk.ensures.value

pub routine_item-returns-in-Err-clause-value : goal.routine_item-returns-in-Err-clause-value
routine_item-returns-in-Err-clause-value g t c =
    let rule = g.B.JudgesBodies.rule c.args.bodies.now in
    let r = c.args.routine.now in
    let b = c.in-Some.block in
    let h = c.in_ok-headed.headed in
    let owner = c.args.owner.now in
    let outer = c.args.outer.now in
    let e = head_is r c.args.naming owner.level outer c.as_slice.result.now c.args.here h c.is_some.result c.is_some.ensures c.as_slice.ensures c.in_ok-headed.ensures in
    let i = inside_is rule r b owner outer h c.in-Ok.inside.owner c.in-Ok.inside.begin c.in-Ok.inside.block c.push.new.self c.in-Ok.ensures.owner c.in-Ok.ensures.begin c.in-Ok.ensures.block c.in-Ok-push.ensures.ok in
    answers_along (Err c.in-Err.end) _ _ (entered_is rule r b c.args.naming owner outer c.args.here h c.in-Some.is e)
    (err_on c.in-Err.end (inside_of rule r b owner outer h) (back_in (owner_of h.routine owner) h.here)
    (answers_along (Err c.in-Err.end) _ _ i c.in-Err.ensures.value))

pub routine_item-returns-in-Some-pop-clause-value :
    goal.routine_item-returns-in-Some-pop-clause-value
routine_item-returns-in-Some-pop-clause-value g t c =
    let rule = g.B.JudgesBodies.rule c.args.bodies.now in
    let r = c.args.routine.now in
    let b = c.in-Some.block in
    let h = c.in_ok-headed.headed in
    let owner = c.args.owner.now in
    let outer = c.args.outer.now in
    let e = head_is r c.args.naming owner.level outer c.as_slice.result.now c.args.here h c.is_some.result c.is_some.ensures c.as_slice.ensures c.in_ok-headed.ensures in
    let i = inside_is rule r b owner outer h c.in-Ok.inside.owner c.in-Ok.inside.begin c.in-Ok.inside.block c.push.new.self c.in-Ok.ensures.owner c.in-Ok.ensures.begin c.in-Ok.ensures.block c.in-Ok-push.ensures.ok in
    let w : (block_judge rule b).walk c.in-Ok.inside.owner c.push.new.self c.in-Ok.inside.begin ≡ Ok c.in-Ok-block_walk.after = c.in-Ok-block_walk.ensures.value in
    let k : c.block_walk.new.outer ≡ c.push.new.self = c.in-Ok-block_walk.ensures.kept in
    let q : c.block_walk.new.outer ≡ c.pop.new.self ++ c.in-Some-pop.region ∷ [] = c.in-Some-pop.ensures in
    let p : c.push.new.self ≡ outer ++ c.in-Ok.inside.block ∷ [] = c.in-Ok-push.ensures.ok in
    let same : c.in-Some-pop.region ≡ h.here.block = last_is c.pop.new.self outer c.in-Some-pop.region c.in-Ok.inside.block (sym q ∙ (k ∙ p)) ∙ c.in-Ok.ensures.block in
    answers_along c.leave.result _ _
    (entered_is rule r b c.args.naming owner outer c.args.here h c.in-Some.is e
    ∙ left_is rule r b owner outer h c.in-Ok.inside.owner c.in-Ok-block_walk.after c.in-Some-pop.region c.in-Ok.inside.rows c.in-Ok.inside.words c.in-Ok.ensures.owner (i ∙ w) same c.in-Ok.ensures.rows c.in-Ok.ensures.words)
    c.leave.ensures

pub routine_items-returns-in-Err-clause-value : goal.routine_items-returns-in-Err-clause-value
routine_items-returns-in-Err-clause-value g t c =
    let rule = g.B.JudgesBodies.rule c.args.bodies.now in
    let r = c.index-routines-index.result in
    let n = c.naming_of-naming.result in
    let at = c.loop-index.so_far in
    let k : c.loop-index.outer ≡ c.args.outer.now = c.loop-index.invariant.kept in
    answers_along (Err c.in-Err.end) _ _
    (c.loop-index.invariant.same
    ∙ turn_at rule c.args.routines.now c.loop-index.index r c.is_some-block.result n c.args.owner.now c.args.outer.now at c.loop-index-test.true c.index-routines-index.is c.is_some-block.ensures c.naming_of-naming.ensures)
    (err_on c.in-Err.end (routine_item (routine_judge rule r) n c.args.owner.now c.args.outer.now at)
    (routine_items c.args.owner.now c.args.outer.now (map (routine_judge rule) (drop (c.loop-index.index + 1) c.args.routines.now)))
    (subst (λ o. Answers (Err c.in-Err.end) (routine_item (routine_judge rule r) n c.args.owner.now o at)) k c.in-Err.ensures.value))

pub routine_items-loop-index-preserved : goal.routine_items-loop-index-preserved
routine_items-loop-index-preserved g t c =
    let rule = g.B.JudgesBodies.rule c.args.bodies.now in
    let r = c.index-routines-index.result in
    let n = c.naming_of-naming.result in
    let at = c.loop-index.so_far in
    let k : c.loop-index.outer ≡ c.args.outer.now = c.loop-index.invariant.kept in
    let k2 : c.routine_item.new.outer ≡ c.loop-index.outer = c.in-Ok.ensures.kept in
    let w : routine_item (routine_judge rule r) n c.args.owner.now c.args.outer.now at ≡ Ok c.in-Ok.after =
    subst (λ o. routine_item (routine_judge rule r) n c.args.owner.now o at ≡ Ok c.in-Ok.after) k c.in-Ok.ensures.value in
    record {
      kept = k2 ∙ k;
      same = c.loop-index.invariant.same
          ∙ (turn_at rule c.args.routines.now c.loop-index.index r c.is_some-block.result n c.args.owner.now c.args.outer.now at c.loop-index-test.true c.index-routines-index.is c.is_some-block.ensures c.naming_of-naming.ensures
          ∙ ap (λ o. then_on o (routine_items c.args.owner.now c.args.outer.now (map (routine_judge rule) (drop (c.loop-index.index + 1) c.args.routines.now)))) w);
    }
