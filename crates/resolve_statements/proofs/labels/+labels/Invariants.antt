use Rattle.std.proofs.Common.{drop}
use Rattle.resolve_statements.specs.Tables.{labels_over, stmts_in, arms_in}
use Rattle.resolve_statements.proofs.Labelled.{AreLeft}
use Rattle.resolve_statements.proofs.labels.+labels.Given as goal

abbrev pub invariant-push_all-loop-stmt : goal.invariant-push_all-loop-stmt
invariant-push_all-loop-stmt l = AreLeft l.fn.out l.out (labels_over (stmts_in (drop l.stmt-index l.stmts))) (labels_over (stmts_in l.stmts))

abbrev pub invariant-push_arms-loop-arm : goal.invariant-push_arms-loop-arm
invariant-push_arms-loop-arm l = AreLeft l.fn.out l.out (labels_over (arms_in (drop l.arm-index l.arms))) (labels_over (arms_in l.arms))
