use Rattle.std.proofs.Common.{◌≡◌, take}
use Rattle.resolve_types.proofs.copies.copy_table.Given as goal

abbrev pub invariant-loop-written : goal.invariant-loop-written
invariant-loop-written l = l.all ≡ take l.written-index l.types
