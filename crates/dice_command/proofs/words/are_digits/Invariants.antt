use Rattle.std.proofs.Common.{◌≡◌, drop}
use Rattle.dice_base.specs.Lexemes.{digit_byte}
use Rattle.dice_command.specs.Words.{every}
use Rattle.dice_command.proofs.words.are_digits.Given as goal

abbrev pub invariant-loop-byte : goal.invariant-loop-byte
invariant-loop-byte l = every digit_byte l.word ≡ every digit_byte (drop l.byte-index l.word)
