use Rattle.std.proofs.Common.{◌≡◌, drop}
use Rattle.body_labels.specs.Labels.{has_number}
use Rattle.body_labels.proofs.labels.has_number.Given as goal

abbrev pub invariant-loop-other : goal.invariant-loop-other
invariant-loop-other l = has_number l.labels l.label ≡ has_number (drop l.other-index l.labels) l.label
