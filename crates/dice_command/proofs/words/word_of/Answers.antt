use Rattle.std.proofs.Common.{ap, ◌∙◌}
use Rattle.pascal_scanner.specs.Longest.{front}
use Rattle.dice_command.specs.Words.{is_word_byte}
use Rattle.dice_command.proofs.Fronts.{front-at}
use Rattle.dice_command.proofs.words.word_of.Goals as goal

pub returns : goal.returns
returns c = front-at is_word_byte c.past_blanks-text.result.now _ c.solid_len.ensures.value ∙ ap (front is_word_byte) c.past_blanks-text.ensures.value
