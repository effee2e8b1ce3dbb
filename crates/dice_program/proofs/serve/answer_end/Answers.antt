use Rattle.std.proofs.Common.{subst, sym, ap, List, ℕ}
use Rattle.std.proofs.lemmas.Result.{err_from_is_err_and}
use Rattle.std.specs.Prelude.{codes}
use Rattle.dice_program.specs.Entries.{open_entries}
use Rattle.dice_program.specs.Kept.{HasText, IsReadAs, items_of}
use Rattle.dice_program.proofs.Kept.{open-inside, text-read}
use Rattle.dice_program.proofs.Turns.{one-answered, one-fault}
use Rattle.dice_program.proofs.serve.answer_end.Goals as goal

pub returns-in_err-answer-clause-answers : goal.returns-in_err-answer-clause-answers
returns-in_err-answer-clause-answers g c = λ w at lives stands.
    let i = open-inside at c.in-Some.text.items (subst (HasText at) (ap items_of c.in-Some.is) stands) in
    let reads = subst (λ (t : List ℕ). IsReadAs (record { line = i.line; text = i.text }) (codes "load") t) (sym c.deref.ensures.value) (text-read i.line i.text c.in-Some.text.items i.front) in
    let p = err_from_is_err_and c.from_residual.result c.from_residual.ensures.1 in
    rw (p.1, p.2) (one-fault (Unit {0}) c.in_err-answer.field-0.0 w _ (open_entries at) _ _ _ _ (ap open_entries i.is) (c.in_err-answer.ensures.answers w _ lives reads))

pub returns-clause-answers : goal.returns-clause-answers
returns-clause-answers g c = λ w at lives stands.
    let i = open-inside at c.in-Some.text.items (subst (HasText at) (ap items_of c.in-Some.is) stands) in
    let reads = subst (λ (t : List ℕ). IsReadAs (record { line = i.line; text = i.text }) (codes "load") t) (sym c.deref.ensures.value) (text-read i.line i.text c.in-Some.text.items i.front) in
    one-answered w (open_entries at) _ _ _ _ _ (ap open_entries i.is) (c.in_ok-answer.ensures.answers w _ lives reads).0
