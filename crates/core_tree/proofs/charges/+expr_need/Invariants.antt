use Rattle.std.proofs.Common.{◌≡◌, ◌≤◌, max, drop, map}
use Rattle.core_tree.specs.Charge.{counted_charge, exprs_need}
use Rattle.core_tree.specs.Plain.{exprs_of}
use Rattle.core_tree.specs.Views.{expr_of}
use Rattle.core_tree.proofs.charges.+expr_need.Given as goal

abbrev pub invariant-exprs_need-loop-part : goal.invariant-exprs_need-loop-part
invariant-exprs_need-loop-part l = record {
  small : l.below ≤ 1000000;
  few : l.most ≤ 1000000;
  rest : counted_charge (max l.most (exprs_need (exprs_of (map expr_of (drop l.part-index l.parts))) l.below)) ≡ counted_charge (exprs_need (exprs_of (map expr_of l.parts)) 0);
}
