use Rattle.std.proofs.Common.{◌∙◌, refl}
use Rattle.std.proofs.lemmas.Result.{err_from_is_err_and}
use Rattle.dice_program.proofs.Kept.{first-of, second-of, acts-on}
use Rattle.dice_program.proofs.Turns.{turn-cut, turn-cut-last, turn-unread}
use Rattle.dice_program.proofs.serve.take_turn.Goals as goal

pub returns-in_err-next_line-clause-turns : goal.returns-in_err-next_line-clause-turns
returns-in_err-next_line-clause-turns g c = λ w at lives stands going.
    let p = err_from_is_err_and c.from_residual.result c.from_residual.ensures.1 in
    rw (p.1, p.2) (turn-unread c.in_err-next_line.field-0.0 _ _ refl (c.in_err-next_line.ensures.part refl) lives)

pub returns-in_err-quit-in-Whole-clause-turns : goal.returns-in_err-quit-in-Whole-clause-turns
returns-in_err-quit-in-Whole-clause-turns g c = λ w at lives stands going.
    let r = rw c.in-Whole.is at c.in_ok-next_line.ensures.got in
    let p = err_from_is_err_and c.from_residual-in_err-quit-in-Whole.result c.from_residual-in_err-quit-in-Whole.ensures.1 in
    rw (p.1, p.2) (turn-cut c.in_err-quit-in-Whole.field-0.0 _ _ r (first-of (c.in_err-quit-in-Whole.ensures.answers w at _ lives stands going (c.stripped.ensures.front r.line (c.deref.ensures.value ∙ r.front)))))

pub returns-in_err-answer_last-in-Last-clause-turns : goal.returns-in_err-answer_last-in-Last-clause-turns
returns-in_err-answer_last-in-Last-clause-turns g c = λ w at lives stands going.
    let r = rw c.in-Last.is at c.in_ok-next_line.ensures.got in
    let p = err_from_is_err_and c.from_residual-in_err-answer_last-in-Last.result c.from_residual-in_err-answer_last-in-Last.ensures.1 in
    rw (p.1, p.2) (turn-cut-last c.in_err-answer_last-in-Last.field-0.0 _ _ r (first-of (c.in_err-answer_last-in-Last.ensures.answers w at r.line lives stands going (c.deref-in-Last.ensures.value ∙ r.front))))

pub returns-then-quit-clause-turns : goal.returns-then-quit-clause-turns
returns-then-quit-clause-turns g c = λ w at lives stands going.
    let r = rw c.in-Whole.is at c.in_ok-next_line.ensures.got in
    let a = c.in_ok-quit-in-Whole.ensures.answers w at _ lives stands going (c.stripped.ensures.front r.line (c.deref.ensures.value ∙ r.front)) in
    (r, acts-on _ _ _ _ c.if-quit.true (first-of a) (second-of a))

pub returns-else-quit-clause-turns : goal.returns-else-quit-clause-turns
returns-else-quit-clause-turns g c = λ w at lives stands going.
    let r = rw c.in-Whole.is at c.in_ok-next_line.ensures.got in
    let a = c.in_ok-quit-in-Whole.ensures.answers w at _ lives stands going (c.stripped.ensures.front r.line (c.deref.ensures.value ∙ r.front)) in
    (r, acts-on _ _ _ _ c.if-quit.false (first-of a) (second-of a))

pub returns-in_ok-answer_last-in-Last-clause-turns : goal.returns-in_ok-answer_last-in-Last-clause-turns
returns-in_ok-answer_last-in-Last-clause-turns g c = λ w at lives stands going.
    let r = rw c.in-Last.is at c.in_ok-next_line.ensures.got in
    let a = c.in_ok-answer_last-in-Last.ensures.answers w at r.line lives stands going (c.deref-in-Last.ensures.value ∙ r.front) in
    (r, record { answered = first-of a; text = second-of a })
