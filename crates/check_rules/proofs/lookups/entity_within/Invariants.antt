use Rattle.std.proofs.Common.{◌≡◌, drop}
use Rattle.std.specs.Option.{option_copied}
use Rattle.check_rules.specs.Regions.{entity_within}
use Rattle.check_rules.proofs.lookups.entity_within.Given as goal

abbrev pub invariant-loop-region : goal.invariant-loop-region
invariant-loop-region l = entity_within (option_copied l.fn.outer) l.regions l.ident ≡ entity_within (option_copied l.found) (drop l.region-index l.regions) l.ident
