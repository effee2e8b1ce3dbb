use Rattle.tree_edit.proofs.SameEndings.{judged}
use Rattle.tree_edit.proofs.replacing.is_right_kind.Goals as goal

pub returns-then-can_stand : goal.returns-then-can_stand
returns-then-can_stand c =
    judged c.args.old.now c.args.path.now c.args.stmt.now c.args.program.now c.block-block.result.now _ c.block-block.ensures c.if-can_stand.ensures c.is_block_paired_with.ensures
