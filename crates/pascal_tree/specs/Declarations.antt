-- The grammar of constants (ISO 7185:1990, 6.3), types (6.4), declarations (6.2.1) and headings (6.6.1, 6.6.2).
use Rattle.std.specs.Prelude.{ℕ, zero, suc, Bool, true, false, List, [], ◌∷◌, Option, Some, None}
use Rattle.dice_base.specs.declared.name.Name.{Name}
use Rattle.dice_base.specs.Tokens.{operator_of}
use Rattle.dice_base.specs.Forms.{Form, never, just, one, token, chain, either, list_of, ended_list, named, numeral, quoted}
use Rattle.pascal_tree.specs.Classes.{array_class, const_class, end_class, function_class, label_class, of_class, packed_class, procedure_class, record_class, set_class, type_class, var_class, equal_class, open_class, close_class, left_class, right_class, comma_class, semicolon_class, colon_class, range_class, arrow_class}
use Rattle.pascal_tree.specs.declared.expr.Prefix.TheVariants as prefix
use Rattle.pascal_tree.specs.declared.stmt.Constant.{Constant}
use Rattle.pascal_tree.specs.declared.stmt.Constant.TheVariants as constant
use Rattle.pascal_tree.specs.declared.typing.TypeText.{TypeText}
use Rattle.pascal_tree.specs.declared.typing.TypeText.TheVariants as typed
use Rattle.pascal_tree.specs.declared.typing.FieldText.{FieldText, roll-FieldText}
use Rattle.pascal_tree.specs.declared.decl.Decl.{Decl}
use Rattle.pascal_tree.specs.declared.decl.DeclKind.{DeclKind}
use Rattle.pascal_tree.specs.declared.decl.DeclKind.TheVariants as decl
use Rattle.pascal_tree.specs.declared.decl.Section.{Section}
use Rattle.pascal_tree.specs.declared.decl.Heading.{Heading}
use Rattle.pascal_tree.specs.Expressions.{signs}

-- the name of an item before names are given
abbrev pub no_name : Name
no_name = record { 0 = 0 }

-- ---- trees of their parts

abbrev pub make_decl : DeclKind → Decl
make_decl kind = record { name = no_name; kind = kind }

abbrev pub make_field : List (List ℕ) → TypeText → FieldText
make_field idents shape = roll-FieldText (record { idents = idents; shape = shape })

abbrev pub make_section : Bool → List (List ℕ) → List ℕ → Section
make_section by_place idents shape = record { by_place = by_place; idents = idents; shape = shape }

abbrev pub make_heading : Bool → List ℕ → List Section → Option (List ℕ) → Heading
make_heading function x sections result =
    record { function = function; ident = x; sections = sections; result = result }

-- ---- constants (6.3)

-- an identifier, a string, a number, or a sign and one of the two that it may stand before
abbrev pub constant_form : Form Constant
constant_form =
    either (chain named (λ x _. just (constant.Named prefix.Without x) false))
    (either (chain quoted (λ x _. just (constant.Str x) false))
    (either (chain numeral (λ n _. just (constant.Number prefix.Without n) false))
    (chain (one (operator_of signs)) (λ p _.
    either (chain numeral (λ n _. just (constant.Number p n) false))
    (chain named (λ x _. just (constant.Named p x) false))))))

-- ---- types

-- identifiers with commas between (6.4.2.3)
abbrev pub idents_form : Form (List (List ℕ))
idents_form = list_of comma_class named

-- a type identifier (6.4.1), an enumerated type (6.4.2.3), or a subrange type (6.4.2.4)
abbrev pub simple_form : Form TypeText
simple_form =
    either (token open_class (chain idents_form (λ xs _. token close_class (just (typed.Enumeration xs) false))))
    (either (chain named (λ x _. just (typed.Named x) false))
    (chain constant_form (λ first _. token range_class (chain constant_form (λ last _.
    just (typed.Range first last) false)))))

-- where I and T are an index type or a base, and a type, one level further in
module _ (I T : Form TypeText) where
  -- fields of one type (a record section, 6.4.3.3)
  abbrev pub field_form : Form FieldText
  field_form = chain idents_form (λ xs _. token colon_class (chain T (λ t _. just (make_field xs t) false)))

  -- what follows `record`: the fields, with a semicolon between, which may stand behind the last too
  abbrev pub record_in : Bool → Form TypeText
  record_in packed =
      either (token end_class (just (typed.RecordOf packed []) false))
      (chain (ended_list semicolon_class field_form) (λ fields _.
      token end_class (just (typed.RecordOf packed fields) false)))

  -- what follows `array` (6.4.3.2)
  abbrev pub array_in : Bool → Form TypeText
  array_in packed =
      token left_class (chain (list_of comma_class I) (λ indexes _. token right_class (token of_class
      (chain T (λ component _. just (typed.Array packed indexes component) false)))))

  -- what follows `set` (6.4.3.4)
  abbrev pub set_in : Bool → Form TypeText
  set_in packed = token of_class (chain I (λ base _. just (typed.SetOf packed base) false))

  -- a structured type (6.4.3.1), behind `packed` or without it
  abbrev pub struct_form : Bool → Form TypeText
  struct_form packed =
      either (token array_class (array_in packed))
      (either (token set_class (set_in packed)) (token record_class (record_in packed)))

  abbrev pub type_form : Form TypeText
  type_form =
      either (token arrow_class (chain named (λ x _. just (typed.Pointer x) false)))
      (either (token packed_class (struct_form true))
      (either (struct_form false) simple_form))

-- with at most so many levels
unfoldable pub simple_at : ℕ → Form TypeText
simple_at zero = never
simple_at (suc d) = simple_form

unfoldable pub type_at : ℕ → Form TypeText
type_at zero = never
type_at (suc d) = type_form (simple_at d) (type_at d)

-- ---- declarations, without the word before the first of them and the semicolon after each (6.2.1)

abbrev pub labels_form : Form DeclKind
labels_form = chain (list_of comma_class numeral) (λ ns _. just (decl.LabelDecl ns) false)

abbrev pub constdef_form : Form DeclKind
constdef_form =
    chain named (λ x _. token equal_class (chain constant_form (λ c _. just (decl.ConstDecl x c) false)))

-- where T is a type at the level of the block
module _ (T : Form TypeText) where
  abbrev pub typedef_form : Form DeclKind
  typedef_form = chain named (λ x _. token equal_class (chain T (λ t _. just (decl.TypeDecl x t) false)))

  abbrev pub vardef_form : Form DeclKind
  vardef_form = chain idents_form (λ xs _. token colon_class (chain T (λ t _. just (decl.VarDecl xs t) false)))

  -- one declaration by itself, with its word
  abbrev pub decl_form : Form Decl
  decl_form =
      chain (either (token label_class labels_form)
      (either (token const_class constdef_form)
      (either (token type_class typedef_form) (token var_class vardef_form))))
      (λ kind _. just (make_decl kind) false)

unfoldable pub decl_at : ℕ → Form Decl
decl_at d = decl_form (type_at d)

-- ---- headings

-- parameters of one type (a formal parameter section, 6.6.3.1), behind `var` or without it
abbrev pub section_in : Bool → Form Section
section_in by_place =
    chain idents_form (λ xs _. token colon_class (chain named (λ x _. just (make_section by_place xs x) false)))

abbrev pub section_form : Form Section
section_form = either (token var_class (section_in true)) (section_in false)

-- a formal parameter list, or none
abbrev pub params_form : Form (List Section)
params_form =
    either (token open_class (chain (list_of semicolon_class section_form) (λ ss _. token close_class (just ss false))))
    (just [] false)

abbrev pub procedure_in : Form Heading
procedure_in = chain named (λ x _. chain params_form (λ ss _. just (make_heading false x ss None) false))

-- without parameters and a result it is the heading of a function that was declared before (6.6.2)
abbrev pub function_in : Form Heading
function_in =
    chain named (λ x _.
    either (chain params_form (λ ss _. token colon_class (chain named (λ r _. just (make_heading true x ss (Some r)) false))))
    (just (make_heading true x [] None) false))

abbrev pub heading_form : Form Heading
heading_form = either (token procedure_class procedure_in) (token function_class function_in)
