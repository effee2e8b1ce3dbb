use Rattle.std.proofs.Common.{◌≡◌, take}
use Rattle.resolve_types.proofs.copies.copy_types.Given as goal

abbrev pub invariant-loop-ident : goal.invariant-loop-ident
invariant-loop-ident l = l.all ≡ take l.ident-index l.types
