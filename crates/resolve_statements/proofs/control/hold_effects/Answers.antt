use Rattle.std.proofs.Common.{[], ◌∷◌, ◌++◌, ap, sym, ◌∙◌, map, take}
use Rattle.resolve_expr.specs.Kept as kept_spec
use Rattle.resolve_statements.specs.Forms as spec
use Rattle.resolve_statements.specs.Statements.{access_node}
use Rattle.resolve_statements.proofs.Opened.{with_turn, holds_turn}
use Rattle.resolve_statements.proofs.control.hold_effects.Goals as goal

pub loop-access-preserved : goal.loop-access-preserved
loop-access-preserved c =
    let before = map access_node (take c.loop-access.access-index c.args.records.now) in
    let x = access_node c.access-item.result in (
      c.in_ok-parts.ensures _ _ c.loop-access.invariant.0 c.in_ok-part.ensures.value
          ∙ ap kept_spec.kept_parts
          (ap (λ d. spec.hold_effects c.args.context.now before ++ spec.hold_effect d (x d) ∷ []) c.loop-access.invariant.1
          ∙ sym (holds_turn c.args.context.now access_node c.args.records.now c.loop-access.access-index c.access-item.result c.loop-access-test.true c.access-item.is)),
      c.in_ok-part.ensures.opened
          ∙ (ap (λ d. spec.context_opening d (x d).typing) c.loop-access.invariant.1
          ∙ sym (with_turn c.args.context.now access_node c.args.records.now c.loop-access.access-index c.access-item.result c.loop-access-test.true c.access-item.is)),
    )
