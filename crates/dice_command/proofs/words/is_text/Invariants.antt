use Rattle.std.proofs.Common.{◌≡◌, drop}
use Rattle.dice_command.specs.Words.{every, is_text_byte}
use Rattle.dice_command.proofs.words.is_text.Given as goal

abbrev pub invariant-loop-byte : goal.invariant-loop-byte
invariant-loop-byte l = every is_text_byte l.line ≡ every is_text_byte (drop l.byte-index l.line)
