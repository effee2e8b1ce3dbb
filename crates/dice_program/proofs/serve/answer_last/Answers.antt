use Rattle.std.proofs.Common.{Bool, subst, sym, ap, ◌∙◌, List, ℕ}
use Rattle.std.proofs.lemmas.Result.{err_from_is_err_and}
use Rattle.dice_base.specs.Lines.{some_line}
use Rattle.dice_program.specs.Entries.{line_entries, entries_from, position_after}
use Rattle.dice_program.specs.Kept.{HasText, items_of}
use Rattle.dice_program.proofs.Commands.{entries-one}
use Rattle.dice_program.proofs.Kept.{first-of, second-of, last-text}
use Rattle.dice_program.proofs.Turns.{none-answered, same-fault, none-kept, some-kept, last-front, is-empty, is-some, same-entries}
use Rattle.dice_program.proofs.serve.answer_last.Goals as goal

pub returns-then-is_empty-clause-answers : goal.returns-then-is_empty-clause-answers
returns-then-is_empty-clause-answers g c = λ w at l lives stands going is.
    let none = none-kept c.args.line.now l is (is-empty _ (sym c.is_empty.ensures ∙ c.if-is_empty.true)) in
    (none-answered w (entries_from at (some_line l)) _ _ _ (ap (entries_from at) (sym none)) lives, subst (λ (ls : List (List ℕ)). HasText (position_after at ls) (items_of c.args.text.now)) none stands)

pub returns-in_err-answer_line-clause-answers : goal.returns-in_err-answer_line-clause-answers
returns-in_err-answer_line-clause-answers g c = λ w at l lives stands going is.
    let some = some-kept c.args.line.now l is (is-some _ (sym c.is_empty.ensures ∙ c.if-is_empty.false)) in
    let a = c.in_err-answer_line.ensures.answers w at l lives stands going (last-front c.args.line.now l is) in
    let p = err_from_is_err_and c.from_residual.result c.from_residual.ensures.1 in
    rw (p.1, p.2) (same-fault Bool (Unit {0}) c.in_err-answer_line.field-0.0 w (line_entries at l) (entries_from at (some_line l)) _ _ _ _ (sym (entries-one at l) ∙ ap (entries_from at) some) (first-of a), tt)

pub returns-clause-answers : goal.returns-clause-answers
returns-clause-answers g c = λ w at l lives stands going is.
    let some = some-kept c.args.line.now l is (is-some _ (sym c.is_empty.ensures ∙ c.if-is_empty.false)) in
    let a = c.in_ok-answer_line.ensures.answers w at l lives stands going (last-front c.args.line.now l is) in
    (same-entries w (line_entries at l) (entries_from at (some_line l)) _ _ _ _ (sym (entries-one at l) ∙ ap (entries_from at) some) (first-of a), last-text _ at l (some_line l) _ some (second-of a))
