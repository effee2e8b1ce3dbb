-- What begins a type and a heading, and what may follow constants, types, declarations and headings: tables of classes.
use Rattle.std.specs.Prelude.{Bool, [], ◌∷◌, ◌++◌}
use Rattle.dice_base.specs.Tokens.{Classes, end_of_tokens}
use Rattle.pascal_tree.specs.Classes.{const_class, end_class, function_class, label_class, packed_class, procedure_class, type_class, var_class, open_class, close_class, right_class, comma_class, semicolon_class, colon_class, range_class, arrow_class}
use Rattle.declaration_parser.specs.Readers.{constant_first, structured_first}

-- a table that does not depend on the flag
abbrev pub Any : Classes → Bool → Classes
Any table w = table

-- behind a declaration, and behind a heading
abbrev pub decl_ends : Classes
decl_ends = end_of_tokens ∷ semicolon_class ∷ []

-- the fields of a record contain types
abbrev pub type_ends : Classes
type_ends = end_class ∷ decl_ends

-- behind an index type too
abbrev pub simple_ends : Classes
simple_ends = comma_class ∷ right_class ∷ type_ends

abbrev pub constant_ends : Classes
constant_ends = colon_class ∷ range_class ∷ simple_ends

-- behind a list of identifiers
abbrev pub idents_ends : Classes
idents_ends = close_class ∷ colon_class ∷ []

-- the end stands in the table of each item of a list
abbrev pub section_ends : Classes
section_ends = close_class ∷ decl_ends

abbrev pub simple_first : Classes
simple_first = open_class ∷ constant_first

abbrev pub type_first : Classes
type_first = arrow_class ∷ packed_class ∷ structured_first ++ simple_first

abbrev pub decl_first : Classes
decl_first = label_class ∷ const_class ∷ type_class ∷ var_class ∷ []

abbrev pub heading_first : Classes
heading_first = procedure_class ∷ function_class ∷ []
