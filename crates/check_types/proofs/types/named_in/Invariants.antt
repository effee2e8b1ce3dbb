use Rattle.std.proofs.Common.{◌≡◌, drop}
use Rattle.check_types.specs.TypeRules.{named_in}
use Rattle.check_types.proofs.types.named_in.Given as goal

abbrev pub invariant-loop-other : goal.invariant-loop-other
invariant-loop-other l = named_in l.types l.ident ≡ named_in (drop l.other-index l.types) l.ident
