use Rattle.std.proofs.Common.{ap, ◌∙◌}
use Rattle.pascal_scanner.specs.Longest.{past}
use Rattle.dice_command.specs.Words.{is_word_byte}
use Rattle.dice_command.proofs.Fronts.{past-at}
use Rattle.dice_command.proofs.words.after_word.Goals as goal

pub returns-clause-value : goal.returns-clause-value
returns-clause-value c = past-at is_word_byte c.past_blanks-text.result.now _ c.solid_len.ensures.value ∙ ap (past is_word_byte) c.past_blanks-text.ensures.value
