use Rattle.tree_edit.proofs.ReplacedFormed.{replaced-formed}
use Rattle.tree_edit.proofs.replacing.replaced_stmt.Goals as goal

pub with_renamed-requires-clause-formed : goal.with_renamed-requires-clause-formed
with_renamed-requires-clause-formed c =
    replaced-formed c.args.program.now c.args.stmt.now c.tree-tree.ensures.invariant.formed c.requires.formed c.args.old.now
    c.args.path.now c.in_ok-stmt_depth.field-0 c.in_ok-stmt_depth.ensures c.if-not-is_right_kind.ensures
    c.if-is_too_deep.ensures
