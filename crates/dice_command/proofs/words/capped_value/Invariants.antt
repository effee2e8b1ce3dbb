use Rattle.std.proofs.Common.{◌≡◌, ◌≤◌, drop}
use Rattle.dice_base.specs.Lexemes.{value_from, value_of}
use Rattle.dice_command.proofs.words.capped_value.Given as goal

abbrev pub invariant-loop-digit : goal.invariant-loop-digit
invariant-loop-digit l = record {
  small : l.value ≤ 1000000;
  so_far : value_from l.value (drop l.digit-index l.digits) ≡ value_of l.digits;
}
