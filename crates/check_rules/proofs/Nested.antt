-- Looking through some regions and then through others.
use Rattle.std.proofs.Common.{◌≡◌, List, [], ◌∷◌, ◌++◌, Option, refl}
use Rattle.check_rules.specs.declared.entity.Entity.{Entity}
use Rattle.check_rules.specs.Typing.{Text}
use Rattle.check_rules.specs.Regions.{Regions, entity_through, entity_within}

pub entity_within_append : (outer : Option Entity) (rs ss : Regions) (x : Text) → entity_within outer (rs ++ ss) x ≡ entity_within (entity_within outer rs x) ss x
entity_within_append outer [] ss x = refl
entity_within_append outer (r ∷ rs) ss x = entity_within_append (entity_through r x outer) rs ss x
