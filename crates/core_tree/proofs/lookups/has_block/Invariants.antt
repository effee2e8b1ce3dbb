use Rattle.std.proofs.Common.{◌≡◌, drop}
use Rattle.core_tree.specs.Lookups.{has_block}
use Rattle.core_tree.proofs.lookups.has_block.Given as goal

abbrev pub invariant-loop-block : goal.invariant-loop-block
invariant-loop-block l = has_block (drop l.block-index l.blocks) l.fn.name.0 ≡ has_block l.blocks l.fn.name.0
