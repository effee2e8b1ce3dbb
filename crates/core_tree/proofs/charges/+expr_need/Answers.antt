use Rattle.std.proofs.Common.{arith}
use Rattle.core_tree.proofs.Turns.{need_turn}
use Rattle.core_tree.proofs.charges.+expr_need.Goals as goal

pub exprs_need-loop-part-preserved : goal.exprs_need-loop-part-preserved
exprs_need-loop-part-preserved t c = record {
  small = omega (arith, c.counted_sum-below.ensures);
  few = omega (arith, c.max-most.ensures, c.counted_sum.ensures, c.loop-part.invariant.few);
  rest = need_turn c.args.parts.now c.loop-part.part-index c.part-item.result c.loop-part.most c.loop-part.below c.expr_need.result c.counted_sum.result c.max-most.result c.width.result c.counted_sum-below.result _ c.loop-part-test.true c.part-item.is c.expr_need.ensures.words c.counted_sum.ensures c.max-most.ensures c.width.ensures.value c.counted_sum-below.ensures c.loop-part.invariant.rest;
}
