use Rattle.std.proofs.Common.{ap, sym, ◌∙◌, map, take}
use Rattle.expression_rules.specs.Values.{notes_of_both}
use Rattle.check_body.specs.StatementRules as spec
use Rattle.check_body.specs.Statements.{access_judge}
use Rattle.check_body.specs.Steps.{env_opening}
use Rattle.check_body.proofs.Opened.{with_turn, notes_turn}
use Rattle.check_body.proofs.opening.with_notes.Goals as goal

pub loop-access-preserved : goal.loop-access-preserved
loop-access-preserved c =
    let env = c.args.env.now in
    let before = map access_judge (take c.loop-access.access-index c.args.records.now) in
    let x = access_judge c.access-item.result in (
      c.in_ok-notes.ensures
          ∙ (ap (λ n. notes_of_both n c.in_ok-more.more) c.loop-access.invariant.0
          ∙ (ap (notes_of_both (spec.with_notes env before)) (c.in_ok-more.ensures.value ∙ ap (λ d. spec.record_notes d (x d)) c.loop-access.invariant.1)
          ∙ sym (notes_turn env access_judge c.args.records.now c.loop-access.access-index c.access-item.result c.loop-access-test.true c.access-item.is))),
      c.in_ok-more.ensures.opened
          ∙ (ap (λ d. env_opening d (x d).place.typing) c.loop-access.invariant.1
          ∙ sym (with_turn env access_judge c.args.records.now c.loop-access.access-index c.access-item.result c.loop-access-test.true c.access-item.is)),
    )
