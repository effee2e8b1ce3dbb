use Rattle.std.proofs.Common.{◌≡◌, ◌++◌, drop}
use Rattle.check_body.specs.Steps.{own_labels}
use Rattle.check_body.proofs.reach.labels_of.Given as goal

abbrev pub invariant-loop-stmt : goal.invariant-loop-stmt
invariant-loop-stmt l = own_labels l.stmts ≡ l.labels ++ own_labels (drop l.stmt-index l.stmts)
