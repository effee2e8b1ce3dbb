use Rattle.std.proofs.Common.{◌≡◌, ◌+◌, length, drop}
use Rattle.dice_command.specs.Words.{is_blank}
use Rattle.pascal_scanner.specs.Longest.{front}
use Rattle.dice_command.proofs.words.blanks_len.Given as goal

abbrev pub invariant-loop-at : goal.invariant-loop-at
invariant-loop-at l = length (front is_blank l.text) ≡ l.at + length (front is_blank (drop l.at l.text))
