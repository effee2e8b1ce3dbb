use Rattle.std.proofs.Common.{◌≡◌, take}
use Rattle.pascal_tree.proofs.block_copies.+copy_block.Given as goal

abbrev pub invariant-copy_routines-loop-routine : goal.invariant-copy_routines-loop-routine
invariant-copy_routines-loop-routine l = l.all ≡ take l.routine-index l.routines
