use Rattle.std.proofs.Common.{◌≡◌, drop}
use Rattle.check_rules.specs.Regions.{entity_in}
use Rattle.check_rules.proofs.lookups.entity_in.Given as goal

abbrev pub invariant-loop-item : goal.invariant-loop-item
invariant-loop-item l = entity_in l.declared l.ident ≡ entity_in (drop l.item-index l.declared) l.ident
