use Rattle.std.proofs.Common.{◌≡◌, take}
use Rattle.pascal_tree.proofs.decl_copies.+copy_type.Given as goal

abbrev pub invariant-copy_types-loop-shape : goal.invariant-copy_types-loop-shape
invariant-copy_types-loop-shape l = l.all ≡ take l.shape-index l.shapes

abbrev pub invariant-copy_fields-loop-field : goal.invariant-copy_fields-loop-field
invariant-copy_fields-loop-field l = l.all ≡ take l.field-index l.fields
