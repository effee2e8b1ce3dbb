-- Worked examples: the types, headings and variables of
--
--   type colour = (red, green);
--     index = 1..10;
--     list = array [index] of integer;
--     item = packed record tint : colour; values : list end;
--     link = ^item;
--     digits = set of index;
--   function first(var a : list; b : digits; c : link) : colour;
--   var x : integer; y : item;
use Rattle.std.specs.Prelude.{◌≡◌, refl, pos, false, true, List, [], ◌∷◌, Some, codes}
use Rattle.dice_base.specs.declared.name.Name.{Name}
use Rattle.check_rules.specs.declared.typing.Host.TheVariants as host
use Rattle.check_rules.specs.declared.typing.Typing.TheVariants.{Ordinal, Written, Unknown}
use Rattle.check_rules.specs.declared.typing.Domain.TheVariants as domain
use Rattle.check_rules.specs.declared.typing.Structure.TheVariants as made
use Rattle.check_rules.specs.declared.entity.RoutineEntity.{RoutineEntity}
use Rattle.check_rules.specs.Typing.{Table}
use Rattle.check_decl.specs.declared.place.Row.{Row}
use Rattle.core_tree.specs.declared.form.Parameter.TheVariants as parameter
use Rattle.core_tree.specs.declared.program.CoreRoutine.{CoreRoutine}
use Rattle.core_tree.specs.declared.shape.Domain.TheVariants as target
use Rattle.core_tree.specs.declared.shape.Shape.TheVariants as shape
use Rattle.core_tree.specs.declared.shape.WrittenShape.TheVariants as written
use Rattle.core_tree.specs.Shapes.{ShapeTree, Integer, Enumeration, Subrange, ArrayOf, RecordOf, Field, NoField, Pointer, SetOf}
use Rattle.core_tree.specs.Plain.{RoutineBlock, head_form}
use Rattle.core_tree.specs.Views.{head_over}
use Rattle.resolve_types.specs.Resolved.{HaveShapeWords, core_heading, core_variables, declared_shape, domain_shape, program_heading, type_trees, written_shapes}

abbrev item_name : Name
item_name = record { 0 = 5 }

abbrev types : Table
types =
    record { structure = made.Enumeration (codes "red" ∷ codes "green" ∷ []); words = 1 }
    ∷ record { structure = made.Subrange host.Integer (pos 1) (pos 10); words = 1 }
    ∷ record { structure = made.ArrayOf false (Written 1) (Ordinal host.Integer); words = 10 }
    ∷ record {
      structure = made.RecordOf true (record { ident = codes "tint"; typing = Ordinal (host.Enumeration 0); offset = 0 } ∷ record { ident = codes "values"; typing = Written 2; offset = 1 } ∷ []);
      words = 11;
    }
    ∷ record { structure = made.Pointer (domain.Declared item_name); words = 1 }
    ∷ record { structure = made.SetOf false (Written 1); words = 8 }
    ∷ []

-- ---- types

-- an enumeration stands at its own place in the table, `packed` is left out
abbrev shapes_worked :
    written_shapes types
    ≡ written.Enumeration (codes "red" ∷ codes "green" ∷ [])
    ∷ written.Subrange shape.Integer (pos 1) (pos 10)
    ∷ written.ArrayOf (shape.Written 1) shape.Integer
    ∷ written.RecordOf (record { ident = codes "tint"; shape = shape.Written 0 } ∷ record { ident = codes "values"; shape = shape.Written 2 } ∷ [])
    ∷ written.Pointer (target.Declared item_name)
    ∷ written.SetOf (shape.Written 1)
    ∷ []
shapes_worked = refl

abbrev index_tree : ShapeTree
index_tree = Subrange Integer (pos 1) (pos 10)

abbrev colour_tree : ShapeTree
colour_tree = Enumeration (codes "red" ∷ codes "green" ∷ [])

abbrev item_tree : ShapeTree
item_tree = RecordOf (Field (codes "tint") colour_tree (Field (codes "values") (ArrayOf index_tree Integer) NoField))

abbrev trees_worked :
    type_trees types
    ≡ colour_tree
    ∷ index_tree
    ∷ ArrayOf index_tree Integer
    ∷ item_tree
    ∷ Pointer (target.Declared item_name)
    ∷ SetOf index_tree
    ∷ []
trees_worked = refl

abbrev words_worked : HaveShapeWords types
words_worked = refl

abbrev domain_worked : domain_shape (item_name, Written 3) ≡ record { declared = item_name; shape = shape.Written 3 }
domain_worked = refl

abbrev predeclared_worked : declared_shape (Ordinal host.Char) ≡ shape.Char
predeclared_worked = refl

abbrev lost_worked : declared_shape Unknown ≡ shape.Integer
lost_worked = refl

-- ---- a function, and its variables

abbrev first : RoutineEntity
first = record {
  name = record { 0 = 8 };
  function = true;
  level = 1;
  parameters =
      record { ident = codes "a"; by_place = true; typing = Written 2 }
      ∷ record { ident = codes "b"; by_place = false; typing = Written 5 }
      ∷ record { ident = codes "c"; by_place = false; typing = Written 4 }
      ∷ [];
  result = Ordinal (host.Enumeration 0);
  forward = false;
}

abbrev heading_worked :
    core_heading first
    ≡ record {
      parameters =
          record { ident = codes "a"; by_place = true; shape = shape.Written 2 }
          ∷ record { ident = codes "b"; by_place = false; shape = shape.Written 5 }
          ∷ record { ident = codes "c"; by_place = false; shape = shape.Written 4 }
          ∷ [];
      result = Some (shape.Written 0);
    }
heading_worked = refl

abbrev rows : List Row
rows =
    record { ident = codes "first"; typing = Ordinal (host.Enumeration 0); offset = 0; by_place = false }
    ∷ record { ident = codes "a"; typing = Written 2; offset = 1; by_place = true }
    ∷ record { ident = codes "b"; typing = Written 5; offset = 2; by_place = false }
    ∷ record { ident = codes "c"; typing = Written 4; offset = 10; by_place = false }
    ∷ record { ident = codes "x"; typing = Ordinal host.Integer; offset = 11; by_place = false }
    ∷ record { ident = codes "y"; typing = Written 3; offset = 12; by_place = false }
    ∷ []

abbrev variables_worked :
    core_variables (core_heading first) rows
    ≡ record { ident = codes "x"; shape = shape.Integer } ∷ record { ident = codes "y"; shape = shape.Written 3 } ∷ []
variables_worked = refl

-- the program has all of its rows
abbrev globals_worked :
    core_variables program_heading (record { ident = codes "z"; typing = Ordinal host.Boolean; offset = 0; by_place = false } ∷ [])
    ≡ record { ident = codes "z"; shape = shape.Boolean } ∷ []
globals_worked = refl

abbrev routine : CoreRoutine
routine = record {
  name = record { 0 = 8 };
  owner = record { 0 = 1 };
  ident = codes "first";
  level = 1;
  heading = core_heading first;
  variables = core_variables (core_heading first) rows;
  labels = [];
}

-- its variables take 12 words
abbrev form_worked :
    head_form (head_over (type_trees types) routine)
    ≡ RoutineBlock (record {
      level = 1;
      parameters = parameter.ByPlace ∷ parameter.Set ∷ parameter.Scalar ∷ [];
      function = true;
      local_words = 12;
    })
form_worked = refl
