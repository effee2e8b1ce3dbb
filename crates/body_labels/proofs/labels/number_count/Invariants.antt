use Rattle.std.proofs.Common.{◌≡◌, ◌+◌, ◌≤◌, drop}
use Rattle.body_labels.specs.Labels.{number_count}
use Rattle.body_labels.proofs.labels.number_count.Given as goal

abbrev pub invariant-loop-other : goal.invariant-loop-other
invariant-loop-other l = record {
  value : number_count l.labels l.label ≡ l.count + number_count (drop l.other-index l.labels) l.label;
  within : l.count ≤ l.other-index;
}
