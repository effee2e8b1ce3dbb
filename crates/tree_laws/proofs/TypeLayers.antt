-- Whether a type is formed and how many levels it takes, by the same of its parts.
use Rattle.std.specs.Prelude.{◌≡◌, ℕ, Bool, List, [], ◌∷◌, map}
use Rattle.std.proofs.Common.{refl, ap}
use Rattle.pascal_tree.specs.declared.typing.TypeText.{TypeText, TypeText-F, roll-TypeText, map-TypeText}
use Rattle.pascal_tree.specs.declared.typing.FieldText.{FieldText, FieldText-F, roll-FieldText, map-FieldText}
use Rattle.pascal_tree.specs.declared.typing.TypeText.TheFolds.{fold-roll-TypeText, fold-roll-FieldText}
use Rattle.pascal_tree.specs.Formed.{TypeShape, is_simple, shape_of_type, formed_field, type_shape, field_is_formed, type_is_formed, is_simple_type}
use Rattle.pascal_tree.specs.Depth.{depth_of_type, depth_of_field, type_depth, field_depth}
use Rattle.expression_laws.proofs.Layers.{Layer}

-- ---- a layer of each, with trees in the places of its parts

abbrev pub TypeTextLayer : Type 0
TypeTextLayer = TypeText-F TypeText FieldText

abbrev pub FieldTextLayer : Type 0
FieldTextLayer = FieldText-F TypeText FieldText

-- ---- what a layer says

abbrev pub layer_shape : TypeTextLayer → TypeShape
layer_shape x = shape_of_type (map-TypeText TypeText FieldText TypeShape Bool type_shape field_is_formed x)

abbrev pub type_levels : TypeTextLayer → ℕ
type_levels x = depth_of_type (map-TypeText TypeText FieldText ℕ ℕ type_depth field_depth x)

shape-is : (x : TypeTextLayer) → type_shape (roll-TypeText x) ≡ layer_shape x
unfolding type_shape field_is_formed
shape-is x = fold-roll-TypeText TypeShape Bool shape_of_type formed_field x

depth-is : (x : TypeTextLayer) → type_depth (roll-TypeText x) ≡ type_levels x
unfolding type_depth field_depth
depth-is x = fold-roll-TypeText ℕ ℕ depth_of_type depth_of_field x

pub type_layer : Layer type_is_formed type_depth roll-TypeText (λ x. (layer_shape x).formed) type_levels
type_layer = record { formed_is = λ x. ap (λ (s : TypeShape). s.formed) (shape-is x); depth_is = depth-is }

-- as an index type or a base
pub simple_layer : Layer is_simple_type type_depth roll-TypeText (λ x. is_simple (layer_shape x)) type_levels
simple_layer = record { formed_is = λ x. ap is_simple (shape-is x); depth_is = depth-is }

abbrev pub field_formed : FieldTextLayer → Bool
field_formed x = formed_field (map-FieldText TypeText FieldText TypeShape Bool type_shape field_is_formed x)

abbrev pub field_levels : FieldTextLayer → ℕ
field_levels x = depth_of_field (map-FieldText TypeText FieldText ℕ ℕ type_depth field_depth x)

pub field_layer : Layer field_is_formed field_depth roll-FieldText field_formed field_levels
unfolding type_shape field_is_formed type_depth field_depth
field_layer = record {
  formed_is = λ x. fold-roll-FieldText TypeShape Bool shape_of_type formed_field x;
  depth_is = λ x. fold-roll-FieldText ℕ ℕ depth_of_type depth_of_field x;
}

-- of index types
pub shapes-simple : (ts : List TypeText) → map is_simple (map type_shape ts) ≡ map is_simple_type ts
shapes-simple [] = refl
shapes-simple (t ∷ ts) = ap (λ bs. is_simple_type t ∷ bs) (shapes-simple ts)
