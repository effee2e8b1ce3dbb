use Rattle.std.proofs.Common.{sym, subst, ap, ◌∙◌, List, ℕ}
use Rattle.std.specs.Prelude.{codes}
use Rattle.dice_program.specs.Kept.{IsReadAs, items_of}
use Rattle.dice_program.proofs.Kept.{same-end, text-read, end-leaves, more-leaves}
use Rattle.dice_program.proofs.serve.answer_text.Goals as goal

pub returns-then-is_end-clause-answers : goal.returns-then-is_end-clause-answers
returns-then-is_end-clause-answers g c = λ w begin whole l lives same front.
    end-leaves c.answer.result w begin whole l _ _ _ _ _ (ap items_of c.requires.closed) front.takes (same-end l c.args.line.now _ same (sym c.is_end.ensures ∙ c.if-is_end.true))
    (c.answer.ensures.answers w _ lives (subst (λ (t : List ℕ). IsReadAs (record { line = begin; text = whole }) (codes "load") t) (sym c.deref.ensures.value) (text-read begin whole c.args.front.items front)))

pub returns-clause-answers : goal.returns-clause-answers
returns-clause-answers g c = λ w begin whole l lives same front.
    more-leaves w begin whole l c.args.line.now c.args.front.items _ _ _ _ front (same-end l c.args.line.now _ same (sym c.is_end.ensures ∙ c.if-is_end.false)) same c.in_ok-with_line.ensures lives
