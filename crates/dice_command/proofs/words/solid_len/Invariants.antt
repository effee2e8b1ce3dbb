use Rattle.std.proofs.Common.{◌≡◌, ◌+◌, length, drop}
use Rattle.dice_command.specs.Words.{is_word_byte}
use Rattle.pascal_scanner.specs.Longest.{front}
use Rattle.dice_command.proofs.words.solid_len.Given as goal

abbrev pub invariant-loop-at : goal.invariant-loop-at
invariant-loop-at l = length (front is_word_byte l.text) ≡ l.at + length (front is_word_byte (drop l.at l.text))
