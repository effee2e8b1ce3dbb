use Rattle.std.proofs.Common.{◌≡◌, take}
use Rattle.resolve_types.proofs.copies.copy_changed.Given as goal

abbrev pub invariant-loop-owner : goal.invariant-loop-owner
invariant-loop-owner l = l.all ≡ take l.owner-index l.changed
