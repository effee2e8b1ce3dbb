use Rattle.std.proofs.Common.{◌≡◌, ◌+◌, length, drop}
use Rattle.dice_base.specs.Lexemes.{word_byte}
use Rattle.pascal_scanner.specs.Longest.{front}
use Rattle.pascal_scanner.proofs.front.word_len.Given as goal

abbrev pub invariant-loop-at : goal.invariant-loop-at
invariant-loop-at l = length (front word_byte l.text) ≡ l.at + length (front word_byte (drop l.at l.text))
