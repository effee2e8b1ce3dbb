use Rattle.std.proofs.lemmas.Result.{on_ok_weaker}
use Rattle.tree_listing.proofs.BlockParts.{block_pushed}
use Rattle.tree_listing.proofs.blocks.+push_block.Goals as goal

pub push_block-returns : goal.push_block-returns
push_block-returns t c =
    on_ok_weaker _
    (block_pushed c.args.block.now _ _ _ _ _ _ c.in_ok-push_parts.ensures c.as_slice.ensures c.in_ok-push_routines.ensures)
    c.push_body.ensures
