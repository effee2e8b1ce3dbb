-- The types, the headings and the variables of a resolved program, from those of the check (ISO 7185:1990, 6.4, 6.5, 6.6).
use Rattle.std.specs.Prelude.{◌≡◌, ℕ, ◌+◌, if◌then◌else◌, List, [], ◌∷◌, ◌++◌, length, map, drop, Option, Some, None, is_some, unwrap_or}
use Rattle.dice_base.specs.declared.name.Name.{Name}
use Rattle.check_rules.specs.declared.typing.Typing.{Typing}
use Rattle.check_rules.specs.declared.typing.Domain.{Domain}
use Rattle.check_rules.specs.declared.typing.Domain.TheVariants as domain
use Rattle.check_rules.specs.declared.typing.Structure.{Structure}
use Rattle.check_rules.specs.declared.typing.Structure.TheVariants as made
use Rattle.check_rules.specs.declared.typing.FieldType.{FieldType}
use Rattle.check_rules.specs.declared.entity.Parameter.{Parameter}
use Rattle.check_rules.specs.declared.entity.RoutineEntity.{RoutineEntity}
use Rattle.check_rules.specs.Typing.{Table}
use Rattle.check_decl.specs.declared.place.Row.{Row}
use Rattle.core_tree.specs.declared.shape.Domain.{Domain as ShapeDomain}
use Rattle.core_tree.specs.declared.shape.Domain.TheVariants as target
use Rattle.core_tree.specs.declared.shape.Shape.{Shape}
use Rattle.core_tree.specs.declared.shape.Shape.TheVariants as shape
use Rattle.core_tree.specs.declared.shape.FieldShape.{FieldShape}
use Rattle.core_tree.specs.declared.shape.WrittenShape.{WrittenShape}
use Rattle.core_tree.specs.declared.shape.WrittenShape.TheVariants as written
use Rattle.core_tree.specs.declared.program.DomainShape.{DomainShape}
use Rattle.core_tree.specs.declared.program.CoreHeading.{CoreHeading}
use Rattle.core_tree.specs.declared.program.CoreVariable.{CoreVariable}
use Rattle.core_tree.specs.declared.program.HeadingParameter.{HeadingParameter}
use Rattle.core_tree.specs.Shapes.{ShapeTree, written_tree, words_of, counted_words}
use Rattle.resolve_expr.specs.Nodes.{shape_of, host_shape}

-- ---- types

-- the shape of a type of a declaration. What breaks a rule has no meaning here, and is given the integers
abbrev pub declared_shape : Typing → Shape
declared_shape t = unwrap_or (shape_of t) shape.Integer

abbrev pub field_shape : FieldType → FieldShape
field_shape f = record { ident = f.ident; shape = declared_shape f.typing }

abbrev pub shape_domain : Domain → ShapeDomain
shape_domain (domain.Declared n) = target.Declared n
shape_domain (domain.Predeclared h) = target.Predeclared (host_shape h)

-- a shape does not tell whether it is packed
abbrev pub written_shape : Structure → WrittenShape
written_shape (made.Enumeration idents) = written.Enumeration idents
written_shape (made.Subrange h first last) = written.Subrange (host_shape h) first last
written_shape (made.SetOf packed base) = written.SetOf (declared_shape base)
written_shape (made.ArrayOf packed index component) = written.ArrayOf (declared_shape index) (declared_shape component)
written_shape (made.RecordOf packed fields) = written.RecordOf (map field_shape fields)
written_shape (made.Pointer d) = written.Pointer (shape_domain d)

-- the table of types, entry by entry
abbrev pub written_shapes : Table → List WrittenShape
written_shapes types = map (λ w. written_shape w.structure) types

-- the same unfolded, each entry over those before it
abbrev pub trees_over : List ShapeTree → List WrittenShape → List ShapeTree
trees_over trees [] = trees
trees_over trees (s ∷ ss) = trees_over (trees ++ written_tree trees s ∷ []) ss

abbrev pub type_trees : Table → List ShapeTree
type_trees types = trees_over [] (written_shapes types)

-- each type takes the words that its shape does
abbrev pub HaveShapeWords : Table → Type 0
HaveShapeWords types = map (λ w. w.words) types ≡ map (λ tree. counted_words (words_of tree)) (type_trees types)

-- a type under the name of its declaration
abbrev pub domain_shape : Name × Typing → DomainShape
domain_shape (n, t) = record { declared = n; shape = declared_shape t }

-- ---- headings

abbrev pub heading_parameter : Parameter → HeadingParameter
heading_parameter p = record { ident = p.ident; by_place = p.by_place; shape = declared_shape p.typing }

abbrev pub result_shape : RoutineEntity → Option Shape
result_shape f = if f.function then Some (declared_shape f.result) else None

abbrev pub core_heading : RoutineEntity → CoreHeading
core_heading f = record { parameters = map heading_parameter f.parameters; result = result_shape f }

-- the program takes nothing and gives nothing
abbrev pub program_heading : CoreHeading
program_heading = record { parameters = []; result = None }

-- ---- variables

abbrev pub core_variable : Row → CoreVariable
core_variable r = record { ident = r.ident; shape = declared_shape r.typing }

-- the rows of a layout that a heading takes: the result, and the parameters
abbrev pub heading_rows : CoreHeading → ℕ
heading_rows h = (if is_some h.result then 1 else 0) + length h.parameters

-- behind them stand those of the variable part
abbrev pub core_variables : CoreHeading → List Row → List CoreVariable
core_variables h rows = map core_variable (drop (heading_rows h) rows)
