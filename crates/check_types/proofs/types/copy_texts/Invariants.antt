use Rattle.std.proofs.Common.{◌≡◌, take}
use Rattle.check_types.proofs.types.copy_texts.Given as goal

abbrev pub invariant-loop-ident : goal.invariant-loop-ident
invariant-loop-ident l = l.all ≡ take l.ident-index l.idents
