use Rattle.std.proofs.Common.{◌≡◌, map, take}
use Rattle.resolve_types.specs.Resolved.{field_shape}
use Rattle.resolve_types.proofs.shapes.field_shapes.Given as goal

abbrev pub invariant-loop-field : goal.invariant-loop-field
invariant-loop-field l = l.all ≡ map field_shape (take l.field-index l.fields)
