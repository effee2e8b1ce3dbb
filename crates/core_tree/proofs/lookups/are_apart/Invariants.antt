use Rattle.std.proofs.Common.{◌≡◌, drop}
use Rattle.core_tree.specs.Lookups.{are_apart}
use Rattle.core_tree.proofs.lookups.are_apart.Given as goal

abbrev pub invariant-loop-at : goal.invariant-loop-at
invariant-loop-at l = are_apart (drop l.at l.blocks) ≡ are_apart l.blocks
