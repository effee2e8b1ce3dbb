use Rattle.std.proofs.Common.{arith, ◌∙◌}
use Rattle.std.proofs.Math.Seq.{take-add}
use Rattle.dice_base.specs.Known.{Appends-trans}
use Rattle.dice_base.proofs.Slices.{rest_whole}
use Rattle.dice_base.proofs.whole.write_all.Goals as goal

pub loop-at-preserved : goal.loop-at-preserved
loop-at-preserved g c = record {
  within = omega (arith, c.in_ok-at.ensures.bound);
  wrote = rw (take-add c.loop-at.at c.in_ok-at.field-0 c.args.piece.now)
      (rw (rest_whole c.loop-at.at c.args.piece.now) at (Appends-trans _ _ _ _ _ c.loop-at.invariant.wrote c.in_ok-at.ensures.bytes));
  same = c.in_ok-at.ensures.cause.same ∙ c.loop-at.invariant.same;
}
