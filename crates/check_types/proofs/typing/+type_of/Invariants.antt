use Rattle.std.proofs.Common.{◌≡◌, [], drop, map}
use Rattle.check_types.specs.TypeRules as spec
use Rattle.check_types.specs.TypeTexts as folds
use Rattle.check_types.proofs.typing.+type_of.Given as goal

abbrev pub invariant-indexes_of-loop-shape : goal.invariant-indexes_of-loop-shape
invariant-indexes_of-loop-shape l = record {
  value : spec.indexes_from l.fn.around (spec.indexes_of l.fn.state [] 12) (map (folds.type_of l.outer) l.shapes) ≡ spec.indexes_from l.around (spec.indexes_of l.state l.types l.kind) (map (folds.type_of l.outer) (drop l.shape-index l.shapes));
  kept : l.around ≡ l.fn.around;
}

abbrev pub invariant-fields_from-loop-field : goal.invariant-fields_from-loop-field
invariant-fields_from-loop-field l = record {
  value : spec.fields_from l.fn.around l.packed (spec.fields_of l.fn.state l.fn.walk) (map (folds.field_of l.outer) l.fields) ≡ spec.fields_from l.around l.packed (spec.fields_of l.state l.so_far) (map (folds.field_of l.outer) (drop l.field-index l.fields));
  kept : l.around ≡ l.fn.around;
}
