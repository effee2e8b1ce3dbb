use Rattle.std.proofs.Common.{◌<◌, ℕ, List, length, subst, sym, ◌∙◌}
use Rattle.dice_program.proofs.Turns.{empty-last, some-last, is-empty, is-some}
use Rattle.dice_program.proofs.serve.final_turn.Goals as goal

pub returns-then-is_empty-clause-finals : goal.returns-then-is_empty-clause-finals
returns-then-is_empty-clause-finals g c = empty-last _ (rw c.in-Last.is at c.in_ok-next_line.ensures.got) (sym c.as_slice.ensures.value ∙ is-empty _ (sym c.is_empty.ensures ∙ c.if-is_empty.true))

pub returns-else-is_empty-clause-finals : goal.returns-else-is_empty-clause-finals
returns-else-is_empty-clause-finals g c = some-last _ (rw c.in-Last.is at c.in_ok-next_line.ensures.got) (subst (λ (xs : List ℕ). 0 < length xs) c.as_slice.ensures.value (is-some _ (sym c.is_empty.ensures ∙ c.if-is_empty.false)))
