use Rattle.std.proofs.Common.{◌≡◌, drop, max, map}
use Rattle.pascal_tree.specs.Depth.{most, access_depth}
use Rattle.tree_checks.proofs.stmt_levels.accesses_depth.Given as goal

abbrev pub invariant-loop-access : goal.invariant-loop-access
invariant-loop-access l = max l.most (most (map access_depth (drop l.access-index l.accesses))) ≡ most (map access_depth l.accesses)
