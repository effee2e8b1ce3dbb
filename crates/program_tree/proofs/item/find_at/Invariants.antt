use Rattle.std.proofs.Common.{◌≡◌, drop}
use Rattle.program_tree.specs.Lookups.{item_value}
use Rattle.pascal_tree.specs.Paths.{item_at}
use Rattle.program_tree.proofs.item.find_at.Given as goal

abbrev pub invariant-loop-place : goal.invariant-loop-place
invariant-loop-place l = item_at (drop l.place-index l.path) (item_value l.found) ≡ item_at l.path (item_value l.fn.item)
