use Rattle.std.proofs.Common.{◌≡◌, drop}
use Rattle.body_labels.specs.Labels.{all_differ}
use Rattle.body_labels.proofs.labels.all_differ.Given as goal

abbrev pub invariant-loop-at : goal.invariant-loop-at
invariant-loop-at l = all_differ l.labels ≡ all_differ (drop l.at l.labels)
