use Rattle.std.proofs.Common.{◌≡◌, drop}
use Rattle.core_tree.specs.Lookups.{block_of}
use Rattle.core_tree.proofs.lookups.find_block.Given as goal

abbrev pub invariant-loop-block : goal.invariant-loop-block
invariant-loop-block l = block_of (drop l.block-index l.blocks) l.fn.name.0 ≡ block_of l.blocks l.fn.name.0
