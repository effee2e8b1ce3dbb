use Rattle.std.proofs.Common.{◌≡◌, ◌++◌, drop}
use Rattle.check_body.proofs.reach.copy_labels.Given as goal

abbrev pub invariant-loop-label : goal.invariant-loop-label
invariant-loop-label l = l.fn.out ++ l.labels ≡ l.out ++ drop l.label-index l.labels
