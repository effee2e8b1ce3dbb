use Rattle.std.proofs.Common.{◌<◌, ◌+◌, ◌*◌, ◌-◌, get_or, sym, arith}
use Rattle.dice_command.proofs.Fronts.{number_over, number-none}
use Rattle.dice_command.proofs.words.capped_value.Goals as goal

pub returns-then-value-gt-LARGEST_NUMBER-clause-value : goal.returns-then-value-gt-LARGEST_NUMBER-clause-value
returns-then-value-gt-LARGEST_NUMBER-clause-value c =
    let big : 1000000 < 10 * c.loop-digit.value + (get_or c.args.digits.now c.loop-digit.digit-index 0 - 48) = omega (arith, c.from.ensures, c.saturating_sub.ensures, c.if-value-gt-LARGEST_NUMBER.true) in
    sym (number-none _ (number_over _ _ _ c.loop-digit-test.true c.loop-digit.invariant.so_far big))
