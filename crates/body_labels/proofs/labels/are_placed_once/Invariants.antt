use Rattle.std.proofs.Common.{◌≡◌, drop}
use Rattle.body_labels.specs.Labels.{are_placed_once}
use Rattle.body_labels.proofs.labels.are_placed_once.Given as goal

abbrev pub invariant-loop-label : goal.invariant-loop-label
invariant-loop-label l = are_placed_once l.labels l.placed ≡ are_placed_once (drop l.label-index l.labels) l.placed
