use Rattle.std.proofs.Common.{◌≡◌, ◌+◌, ◌≤◌, drop, map}
use Rattle.core_tree.specs.Charge.{counted_charge, exprs_charge}
use Rattle.core_tree.specs.Plain.{exprs_of}
use Rattle.core_tree.specs.Views.{expr_of}
use Rattle.core_tree.proofs.charges.+expr_charge.Given as goal

abbrev pub invariant-exprs_charge-loop-part : goal.invariant-exprs_charge-loop-part
invariant-exprs_charge-loop-part l = record {
  small : l.words ≤ 1000000;
  rest : counted_charge (l.words + exprs_charge (exprs_of (map expr_of (drop l.part-index l.parts)))) ≡ counted_charge (exprs_charge (exprs_of (map expr_of l.parts)));
}
