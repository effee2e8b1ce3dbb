use Rattle.std.proofs.Common.{◌≡◌, ◌+◌, length, drop}
use Rattle.dice_base.specs.Lexemes.{digit_byte}
use Rattle.pascal_scanner.specs.Longest.{front}
use Rattle.pascal_scanner.proofs.front.digits_len.Given as goal

abbrev pub invariant-loop-at : goal.invariant-loop-at
invariant-loop-at l = length (front digit_byte l.text) ≡ l.at + length (front digit_byte (drop l.at l.text))
