-- The judgement of a written type, and the enumeration constants that it declares.
use Rattle.pascal_tree.specs.declared.typing.TypeText.{TypeText, fold-TypeText}
use Rattle.pascal_tree.specs.declared.typing.FieldText.{FieldText, fold-FieldText}
use Rattle.check_rules.specs.Regions.{Texts, Regions}
use Rattle.check_types.specs.TypeRules.{TypeJudge, TypeReading, FieldJudge, constants_in, constants_in_field, in_type, in_field}

unfoldable pub constants_of : TypeText → Texts
constants_of = fold-TypeText Texts Texts constants_in constants_in_field

unfoldable pub field_constants_of : FieldText → Texts
field_constants_of = fold-FieldText Texts Texts constants_in constants_in_field

-- where these regions are outside the block
module _ (outer : Regions) where
  unfoldable pub type_of : TypeText → TypeJudge
  type_of = fold-TypeText TypeJudge FieldJudge (in_type outer) (in_field outer)

  unfoldable pub field_of : FieldText → FieldJudge
  field_of = fold-FieldText TypeJudge FieldJudge (in_type outer) (in_field outer)

abbrev pub reading_of : TypeText → TypeReading
reading_of t = record { constants = constants_of t; judge = (λ outer. type_of outer t) }
