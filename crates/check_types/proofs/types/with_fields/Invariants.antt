use Rattle.std.proofs.Common.{◌≡◌, drop}
use Rattle.check_types.specs.TypeRules.{walk_with_fields}
use Rattle.check_types.proofs.types.with_fields.Given as goal

abbrev pub invariant-loop-ident : goal.invariant-loop-ident
invariant-loop-ident l = walk_with_fields l.packed l.typing l.table l.idents l.fn.walk ≡ walk_with_fields l.packed l.typing l.table (drop l.ident-index l.idents) l.so_far
