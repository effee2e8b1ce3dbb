use Rattle.std.proofs.Common.{◌≡◌, ◌+◌, ◌≤◌, drop, map}
use Rattle.core_tree.specs.Charge.{counted_charge, widths}
use Rattle.core_tree.specs.Plain.{exprs_of}
use Rattle.core_tree.specs.Views.{expr_of}
use Rattle.core_tree.proofs.charges.parts_width.Given as goal

abbrev pub invariant-loop-part : goal.invariant-loop-part
invariant-loop-part l = record {
  small : l.words ≤ 1000000;
  rest : counted_charge (l.words + widths (exprs_of (map expr_of (drop l.part-index l.parts)))) ≡ counted_charge (widths (exprs_of (map expr_of l.parts)));
}
