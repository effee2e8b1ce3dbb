use Rattle.std.proofs.Common.{◌≡◌, ◌++◌, drop, map}
use Rattle.check_types.specs.TypeRules.{idents_of}
use Rattle.check_types.specs.TypeTexts.{field_of}
use Rattle.check_types.proofs.types.idents_of.Given as goal

abbrev pub invariant-loop-field : goal.invariant-loop-field
invariant-loop-field l = idents_of (map (field_of l.outer) l.fields) ≡ l.all ++ idents_of (map (field_of l.outer) (drop l.field-index l.fields))
