use Rattle.std.proofs.Common.{◌+◌, ◌*◌, length}
use Rattle.tree_edit.proofs.place.+put_stmt.Given as goal

-- each step goes down the path, or on to a part of the statement that the path enters
abbrev pub decreases-put_stmt : goal.decreases-put_stmt
decreases-put_stmt l = 4 * length l.path.now

abbrev pub decreases-put_boxed : goal.decreases-put_boxed
decreases-put_boxed l = 4 * length l.path.now + 1

abbrev pub decreases-put_arm : goal.decreases-put_arm
decreases-put_arm l = 4 * length l.path.now + 1

abbrev pub decreases-put_list : goal.decreases-put_list
decreases-put_list l = 4 * length l.path.now + 1

abbrev pub decreases-put_arms : goal.decreases-put_arms
decreases-put_arms l = 4 * length l.path.now + 2

abbrev pub decreases-put_kind : goal.decreases-put_kind
decreases-put_kind l = 4 * length l.path.now + 3
