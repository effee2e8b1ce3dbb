use Rattle.std.proofs.Common.{◌≡◌, drop}
use Rattle.check_types.specs.TypeRules.{domain_within}
use Rattle.check_types.proofs.types.domain_from.Given as goal

abbrev pub invariant-loop-region : goal.invariant-loop-region
invariant-loop-region l = domain_within l.fn.outer l.regions l.ident ≡ domain_within l.found (drop l.region-index l.regions) l.ident
