use Rattle.std.proofs.Common.{◌+◌, ◌*◌, length}
use Rattle.tree_edit.proofs.pairing.+is_block_paired_with.Given as goal

-- each step goes down the path, or on to the routine that the path enters
abbrev pub decreases-is_block_paired_with : goal.decreases-is_block_paired_with
decreases-is_block_paired_with l = 4 * length l.path.now

abbrev pub decreases-is_routine_paired_with : goal.decreases-is_routine_paired_with
decreases-is_routine_paired_with l = 4 * length l.path.now + 1

abbrev pub decreases-are_routines_paired_with : goal.decreases-are_routines_paired_with
decreases-are_routines_paired_with l = 4 * length l.path.now + 2

abbrev pub decreases-is_paired_after_decls : goal.decreases-is_paired_after_decls
decreases-is_paired_after_decls l = 4 * length l.path.now + 3
