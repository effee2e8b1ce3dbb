use Rattle.std.proofs.Common.{sym, subst, ap, ◌∙◌}
use Rattle.dice_program.specs.Kept.{HasText, items_of}
use Rattle.dice_program.proofs.Kept.{front-short, open-inside, closed-between, at-place}
use Rattle.dice_program.proofs.serve.answer_line.Goals as goal

pub returns-in-None-clause-answers : goal.returns-in-None-clause-answers
returns-in-None-clause-answers g c = λ w at l lives stands going same.
    at-place c.answer_command.result w at _ l _ _ _ _ _ (closed-between at (subst (HasText at) (ap items_of (sym c.take.ensures.value ∙ c.in-None.is)) stands) going)
    (c.answer_command.ensures.answers w l lives same)

pub answer_text-requires-clause-short : goal.answer_text-requires-clause-short
answer_text-requires-clause-short g c =
    let stands = c.requires.stands in
    let i = open-inside stands.0 c.in-Some.front.items (subst (HasText stands.0) (ap items_of (sym c.take.ensures.value ∙ c.in-Some.is)) stands.1) in
    front-short i.line i.text c.in-Some.front.items i.front

pub returns-in-Some-clause-answers : goal.returns-in-Some-clause-answers
returns-in-Some-clause-answers g c = λ w at l lives stands going same.
    let i = open-inside at c.in-Some.front.items (subst (HasText at) (ap items_of (sym c.take.ensures.value ∙ c.in-Some.is)) stands) in
    at-place c.answer_text.result w at _ l _ _ _ _ _ i.is (c.answer_text.ensures.answers w i.line i.text l lives same i.front)
