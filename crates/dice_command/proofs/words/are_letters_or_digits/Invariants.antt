use Rattle.std.proofs.Common.{◌≡◌, drop}
use Rattle.dice_base.specs.Lexemes.{word_byte}
use Rattle.dice_command.specs.Words.{every}
use Rattle.dice_command.proofs.words.are_letters_or_digits.Given as goal

abbrev pub invariant-loop-byte : goal.invariant-loop-byte
invariant-loop-byte l = every word_byte l.word ≡ every word_byte (drop l.byte-index l.word)
