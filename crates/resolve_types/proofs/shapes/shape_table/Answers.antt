use Rattle.std.proofs.Common.{ap, ◌∙◌, arith}
use Rattle.std.proofs.lemmas.List.{take_all}
use Rattle.resolve_types.specs.Resolved.{written_shapes}
use Rattle.resolve_types.proofs.Unfolded.{same_trees, same_words}
use Rattle.resolve_types.proofs.shapes.shape_table.Goals as goal

pub returns-clause-trees : goal.returns-clause-trees
returns-clause-trees c =
    same_trees c.loop-written.table.entries c.args.types.now
    (c.loop-written.invariant ∙ ap written_shapes (take_all c.loop-written.written-index c.args.types.now (omega (arith, c.loop-written-test.false))))

pub returns-clause-words : goal.returns-clause-words
returns-clause-words c = λ these.
    same_words c.loop-written.table.entries c.args.types.now
    (c.loop-written.invariant ∙ ap written_shapes (take_all c.loop-written.written-index c.args.types.now (omega (arith, c.loop-written-test.false))))
    c.loop-written.table.sums these
