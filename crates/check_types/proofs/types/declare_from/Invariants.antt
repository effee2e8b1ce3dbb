use Rattle.std.proofs.Common.{◌≡◌, ◌≤◌, drop}
use Rattle.check_types.specs.TypeRules.{region_with_constants}
use Rattle.check_types.proofs.types.declare_from.Given as goal

abbrev pub invariant-loop-ident : goal.invariant-loop-ident
invariant-loop-ident l = record {
  value : region_with_constants l.typing 0 l.idents (l.fn.block, 12) ≡ region_with_constants l.typing l.number (drop l.ident-index l.idents) (l.block, l.kind);
  within : l.number ≤ 1000000000;
}
