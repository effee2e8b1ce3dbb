use Rattle.std.proofs.Common.{◌≡◌, map, take}
use Rattle.resolve_types.specs.Resolved.{written_shapes}
use Rattle.resolve_types.proofs.shapes.shape_table.Given as goal

abbrev pub invariant-loop-written : goal.invariant-loop-written
invariant-loop-written l = map (λ e. e.shape) l.table.entries ≡ written_shapes (take l.written-index l.types)
