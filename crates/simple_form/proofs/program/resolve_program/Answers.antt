use Rattle.simple_form.proofs.Apart.{answer_apart, answer_differ, answer_free, answer_few}
use Rattle.simple_form.proofs.program.resolve_program.Goals as goal

pub returns-clause-differ : goal.returns-clause-differ
returns-clause-differ c = answer_differ _ (answer_apart _ _ c.tree.ensures.value c.tree.ensures.invariant.named _ c.resolve_tree.ensures.value)

pub returns-clause-free : goal.returns-clause-free
returns-clause-free c = answer_free _ (answer_apart _ _ c.tree.ensures.value c.tree.ensures.invariant.named _ c.resolve_tree.ensures.value)

pub returns-clause-few : goal.returns-clause-few
returns-clause-few c = answer_few _ (answer_apart _ _ c.tree.ensures.value c.tree.ensures.invariant.named _ c.resolve_tree.ensures.value)
