use Rattle.dice_command.specs.Words.{is_blank}
use Rattle.dice_command.proofs.Fronts.{past-at}
use Rattle.dice_command.proofs.words.past_blanks.Goals as goal

pub returns-clause-value : goal.returns-clause-value
returns-clause-value c = past-at is_blank c.args.text.now _ c.blanks_len.ensures.value
