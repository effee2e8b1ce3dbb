use Rattle.std.proofs.Common.{◌≡◌, ◌++◌, drop, map}
use Rattle.check_types.specs.TypeRules.{all_idents}
use Rattle.check_types.specs.TypeTexts as folds
use Rattle.check_types.proofs.enumerations.+push_constants.Given as goal

abbrev pub invariant-push_all-loop-shape : goal.invariant-push_all-loop-shape
invariant-push_all-loop-shape l =
    l.fn.out ++ all_idents (map folds.constants_of l.shapes)
    ≡ l.out ++ all_idents (map folds.constants_of (drop l.shape-index l.shapes))

abbrev pub invariant-push_fields-loop-field : goal.invariant-push_fields-loop-field
invariant-push_fields-loop-field l =
    l.fn.out ++ all_idents (map folds.field_constants_of l.fields)
    ≡ l.out ++ all_idents (map folds.field_constants_of (drop l.field-index l.fields))
