use Rattle.std.proofs.Common.{◌≡◌, ◌+◌, ◌≤◌, drop}
use Rattle.core_tree.specs.Charge.{counted_charge, parameters_charge}
use Rattle.core_tree.proofs.charges.parameters_charge.Given as goal

abbrev pub invariant-loop-parameter : goal.invariant-loop-parameter
invariant-loop-parameter l = record {
  small : l.words ≤ 1000000;
  rest : counted_charge (l.words + parameters_charge (drop l.parameter-index l.parameters)) ≡ counted_charge (parameters_charge l.parameters);
}
