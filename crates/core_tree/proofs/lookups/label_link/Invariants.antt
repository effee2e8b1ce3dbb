use Rattle.std.proofs.Common.{◌≡◌, drop}
use Rattle.core_tree.specs.Lookups.{label_link}
use Rattle.core_tree.proofs.lookups.label_link.Given as goal

abbrev pub invariant-loop-stands : goal.invariant-loop-stands
invariant-loop-stands l = label_link (drop l.stands-index l.labels) l.fn.label ≡ label_link l.labels l.fn.label
