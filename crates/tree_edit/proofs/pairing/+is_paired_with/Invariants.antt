use Rattle.std.proofs.Common.{◌+◌, ◌*◌, length}
use Rattle.tree_edit.proofs.pairing.+is_paired_with.Given as goal

-- each step goes down the path, or on to a part of the statement that the path enters
abbrev pub decreases-is_paired_with : goal.decreases-is_paired_with
decreases-is_paired_with l = 3 * length l.path.now

abbrev pub decreases-is_part_paired : goal.decreases-is_part_paired
decreases-is_part_paired l = 3 * length l.path.now + 1

abbrev pub decreases-are_paired_with : goal.decreases-are_paired_with
decreases-are_paired_with l = 3 * length l.path.now + 1

abbrev pub decreases-are_arms_paired_with : goal.decreases-are_arms_paired_with
decreases-are_arms_paired_with l = 3 * length l.path.now + 1

abbrev pub decreases-is_kind_paired : goal.decreases-is_kind_paired
decreases-is_kind_paired l = 3 * length l.path.now + 2
