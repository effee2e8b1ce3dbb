use Rattle.std.proofs.Common.{◌≡◌, drop}
use Rattle.check_rules.specs.Regions.{has_ident}
use Rattle.check_rules.proofs.lookups.has_ident.Given as goal

abbrev pub invariant-loop-other : goal.invariant-loop-other
invariant-loop-other l = has_ident l.idents l.ident ≡ has_ident (drop l.other-index l.idents) l.ident
