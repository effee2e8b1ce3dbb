use Rattle.std.proofs.Common.{◌≡◌, take}
use Rattle.pascal_tree.proofs.expr_copies.copy_accesses.Given as goal

abbrev pub invariant-loop-access : goal.invariant-loop-access
invariant-loop-access l = l.all ≡ take l.access-index l.accesses
