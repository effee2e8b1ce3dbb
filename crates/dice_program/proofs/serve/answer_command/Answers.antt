use Rattle.std.proofs.Common.{sym, ap, ◌∙◌}
use Rattle.dice_program.specs.Kept.{items_of}
use Rattle.dice_program.proofs.Kept.{same-takes, line-read, load-leaves, command-leaves}
use Rattle.dice_program.proofs.serve.answer_command.Goals as goal

pub returns-then-takes_text-clause-answers : goal.returns-then-takes_text-clause-answers
returns-then-takes_text-clause-answers g c = λ w l lives same.
    load-leaves w l _ _ _ _ c.new.ensures.items (sym (same-takes l c.args.line.now same) ∙ (sym c.takes_text.ensures ∙ c.if-takes_text.true)) lives

pub returns-clause-answers : goal.returns-clause-answers
returns-clause-answers g c = λ w l lives same.
    command-leaves c.answer.result w l _ _ _ _ _ (ap items_of c.requires.closed) (sym (same-takes l c.args.line.now same) ∙ (sym c.takes_text.ensures ∙ c.if-takes_text.false)) (c.answer.ensures.answers w _ lives (line-read l c.args.line.now same))
