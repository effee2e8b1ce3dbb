use Rattle.std.proofs.Common.{◌+◌, ◌*◌, length}
use Rattle.tree_edit.proofs.blocks.+put_block.Given as goal

-- each step goes down the path, or on to the part of the block that the path enters
abbrev pub decreases-put_block : goal.decreases-put_block
decreases-put_block l = 4 * length l.path.now

abbrev pub decreases-put_routine : goal.decreases-put_routine
decreases-put_routine l = 4 * length l.path.now + 1

abbrev pub decreases-put_routines : goal.decreases-put_routines
decreases-put_routines l = 4 * length l.path.now + 2

abbrev pub decreases-put_after_decls : goal.decreases-put_after_decls
decreases-put_after_decls l = 4 * length l.path.now + 3
