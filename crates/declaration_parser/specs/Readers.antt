-- Constants (ISO 7185:1990, 6.3), types (6.4), declarations (6.2.1) and headings (6.6.1, 6.6.2), read from left to
-- right.
use Rattle.std.specs.Prelude.{ℕ, zero, suc, Bool, true, false, List, [], ◌∷◌, Some, None}
use Rattle.dice_base.specs.Tokens.{Classes, operator_of, keys}
use Rattle.token_reader.specs.Readers.{Parser, ◌>>=◌, ◌>>◌, pure, deep, one, by, on, expect, ident, number, string, separated, ended}
use Rattle.pascal_tree.specs.declared.expr.Prefix.{Prefix}
use Rattle.pascal_tree.specs.declared.expr.Prefix.TheVariants as prefix
use Rattle.pascal_tree.specs.declared.stmt.Constant.{Constant}
use Rattle.pascal_tree.specs.declared.stmt.Constant.TheVariants as value
use Rattle.pascal_tree.specs.declared.typing.TypeText.{TypeText}
use Rattle.pascal_tree.specs.declared.typing.TypeText.TheVariants as typed
use Rattle.pascal_tree.specs.declared.typing.FieldText.{FieldText}
use Rattle.pascal_tree.specs.declared.decl.Decl.{Decl}
use Rattle.pascal_tree.specs.declared.decl.DeclKind.{DeclKind}
use Rattle.pascal_tree.specs.declared.decl.DeclKind.TheVariants as kind
use Rattle.pascal_tree.specs.declared.decl.Section.{Section}
use Rattle.pascal_tree.specs.declared.decl.Heading.{Heading}
use Rattle.pascal_tree.specs.Classes.{ident_class, number_class, string_class, array_class, const_class, end_class, function_class, label_class, of_class, packed_class, procedure_class, record_class, set_class, type_class, var_class, equal_class, open_class, close_class, left_class, right_class, comma_class, semicolon_class, colon_class, range_class, arrow_class}
use Rattle.pascal_tree.specs.Expressions.{signs}
use Rattle.pascal_tree.specs.Declarations.{make_decl, make_field, make_section, make_heading}

-- ---- constants

-- what follows a sign
unfoldable pub signed : Prefix → Parser Constant
signed p =
    by (number_class ∷ []) (number >>= (λ n. pure (value.Number p n)))
    (ident >>= (λ x. pure (value.Named p x)))

-- a constant that does not begin with an identifier
unfoldable pub literal : Parser Constant
literal =
    by (string_class ∷ []) (string >>= (λ x. pure (value.Str x)))
    (by (number_class ∷ []) (number >>= (λ n. pure (value.Number prefix.Without n)))
    (one (operator_of signs) >>= signed))

unfoldable pub constant : Parser Constant
constant =
    by (ident_class ∷ []) (ident >>= (λ x. pure (value.Named prefix.Without x))) literal

-- the classes with which a constant begins
abbrev pub constant_first : Classes
constant_first = ident_class ∷ string_class ∷ number_class ∷ keys signs

-- ---- types

unfoldable pub idents : Parser (List (List ℕ))
idents = separated comma_class ident

-- what follows `(`
unfoldable pub enumeration : Parser TypeText
enumeration = do
  xs ← idents
  expect close_class
  pure (typed.Enumeration xs)

-- the rest of a subrange type
unfoldable pub range_from : Constant → Parser TypeText
range_from first = do
  expect range_class
  last ← constant
  pure (typed.Range first last)

-- an identifier, and by what follows it a subrange type or a type identifier
unfoldable pub by_ident : Parser TypeText
by_ident = ident >>= (λ x.
    by (range_class ∷ []) (range_from (value.Named prefix.Without x)) (pure (typed.Named x)))

unfoldable pub subrange : Parser TypeText
subrange = literal >>= range_from

unfoldable pub simple : Parser TypeText
simple = on open_class enumeration (by (ident_class ∷ []) by_ident subrange)

-- the classes with which a structured type begins
abbrev pub structured_first : Classes
structured_first = array_class ∷ set_class ∷ record_class ∷ []

-- where the readers of an index type or a base, and of a type, are those of one level further in
module _ (index inner : Parser TypeText) where
  unfoldable pub field : Parser FieldText
  field = do
    xs ← idents
    expect colon_class
    t ← inner
    pure (make_field xs t)

  -- what follows `record`
  unfoldable pub record_rest : Bool → Parser TypeText
  record_rest packed =
      on end_class (pure (typed.RecordOf packed []))
      (do
        fields ← ended semicolon_class (ident_class ∷ []) field
        expect end_class
        pure (typed.RecordOf packed fields))

  -- what follows `array`
  unfoldable pub array_rest : Bool → Parser TypeText
  array_rest packed = do
    expect left_class
    indexes ← separated comma_class index
    expect right_class
    expect of_class
    component ← inner
    pure (typed.Array packed indexes component)

  -- what follows `set`
  unfoldable pub set_rest : Bool → Parser TypeText
  set_rest packed = do
    expect of_class
    base ← index
    pure (typed.SetOf packed base)

  unfoldable pub structured : Bool → Parser TypeText
  structured packed =
      on array_class (array_rest packed)
      (on set_class (set_rest packed) (expect record_class >> record_rest packed))

  unfoldable pub whole_type : Parser TypeText
  whole_type =
      on arrow_class (ident >>= (λ x. pure (typed.Pointer x)))
      (on packed_class (structured true) (by structured_first (structured false) simple))

-- with this many levels
unfoldable pub simple_in : ℕ → Parser TypeText
simple_in zero = deep
simple_in (suc d) = simple

unfoldable pub type_in : ℕ → Parser TypeText
type_in zero = deep
type_in (suc d) = whole_type (simple_in d) (type_in d)

-- ---- declarations, without the word before the first of them and the semicolon after each

unfoldable pub labels : Parser DeclKind
labels = separated comma_class number >>= (λ ns. pure (kind.LabelDecl ns))

unfoldable pub constdef : Parser DeclKind
constdef = do
  x ← ident
  expect equal_class
  c ← constant
  pure (kind.ConstDecl x c)

module _ (typ : Parser TypeText) where
  unfoldable pub typedef : Parser DeclKind
  typedef = do
    x ← ident
    expect equal_class
    t ← typ
    pure (kind.TypeDecl x t)

  unfoldable pub vardef : Parser DeclKind
  vardef = do
    xs ← idents
    expect colon_class
    t ← typ
    pure (kind.VarDecl xs t)

  -- with its word
  unfoldable pub declared : Parser DeclKind
  declared =
      on label_class labels
      (on const_class constdef
      (on type_class typedef (expect var_class >> vardef)))

-- one declaration by itself, with its word; in its types this many levels may nest
unfoldable pub decl : ℕ → Parser Decl
decl d = declared (type_in d) >>= (λ k. pure (make_decl k))

-- ---- headings

unfoldable pub section_rest : Bool → Parser Section
section_rest by_place = do
  xs ← idents
  expect colon_class
  x ← ident
  pure (make_section by_place xs x)

unfoldable pub section : Parser Section
section = on var_class (section_rest true) (section_rest false)

-- what follows `(`
unfoldable pub params_rest : Parser (List Section)
params_rest = do
  ss ← separated semicolon_class section
  expect close_class
  pure ss

unfoldable pub params : Parser (List Section)
params = on open_class params_rest (pure [])

-- what follows `procedure`
unfoldable pub procedure_rest : Parser Heading
procedure_rest = do
  x ← ident
  ss ← params
  pure (make_heading false x ss None)

-- what follows `function`: with neither parameters nor a type it was declared before
unfoldable pub function_rest : Parser Heading
function_rest = ident >>= (λ x.
    by (open_class ∷ colon_class ∷ []) (do
      ss ← params
      expect colon_class
      r ← ident
      pure (make_heading true x ss (Some r)))
    (pure (make_heading true x [] None)))

unfoldable pub heading : Parser Heading
heading = on procedure_class procedure_rest (expect function_class >> function_rest)
