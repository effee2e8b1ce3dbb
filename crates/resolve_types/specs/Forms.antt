-- The own form of a routine over the lists of its heading and its variables.
use Rattle.std.specs.Prelude.{ℕ, ◌+◌, if◌then◌else◌, List, [], ◌∷◌}
use Rattle.core_tree.specs.declared.form.Parameter.{Parameter}
use Rattle.core_tree.specs.declared.form.Parameter.TheVariants as parameter
use Rattle.core_tree.specs.declared.shape.WrittenShape.{WrittenShape}
use Rattle.core_tree.specs.declared.shape.WrittenShape.TheVariants as written
use Rattle.core_tree.specs.declared.program.CoreVariable.{CoreVariable}
use Rattle.core_tree.specs.declared.program.HeadingParameter.{HeadingParameter}
use Rattle.core_tree.specs.Shapes.{ShapeTree, tree_of, words_of}
use Rattle.core_tree.specs.Plain.{value_parameter}

-- how a value parameter is taken whose type is such an entry of the table, of so many words
abbrev pub written_parameter : ℕ → WrittenShape → Parameter
written_parameter words (written.SetOf base) = parameter.Set
written_parameter words (written.ArrayOf index component) = parameter.Structure words
written_parameter words (written.RecordOf fields) = parameter.Structure words
written_parameter words s = parameter.Scalar

abbrev pub parameter_over : List ShapeTree → HeadingParameter → Parameter
parameter_over trees p = if p.by_place then parameter.ByPlace else value_parameter (tree_of trees p.shape)

abbrev pub variables_words : List ShapeTree → List CoreVariable → ℕ
variables_words trees [] = 0
variables_words trees (v ∷ vs) = words_of (tree_of trees v.shape) + variables_words trees vs
