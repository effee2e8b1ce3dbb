use Rattle.std.proofs.Common.{◌≡◌, take}
use Rattle.resolve_types.proofs.copies.copy_declared.Given as goal

abbrev pub invariant-loop-item : goal.invariant-loop-item
invariant-loop-item l = l.all ≡ take l.item-index l.declared
