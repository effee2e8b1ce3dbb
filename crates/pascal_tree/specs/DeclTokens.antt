-- The tokens of constants, types, declarations and headings (ISO 7185:1990, 6.3, 6.4 and 6.6), in the order in which the
-- tree has them. The semicolon that 6.4.3.3 allows after the last field of a record is left out.
use Rattle.std.specs.Prelude.{ℕ, Bool, List, [], ◌∷◌, ◌++◌, Option, Some, None, if◌then◌else◌, map}
use Rattle.dice_base.specs.declared.token.TokenKind.{TokenKind}
use Rattle.dice_base.specs.declared.token.TokenKind.TheVariants as token
use Rattle.pascal_tree.specs.declared.stmt.Constant.{Constant}
use Rattle.pascal_tree.specs.declared.stmt.Constant.TheVariants as constant
use Rattle.pascal_tree.specs.declared.typing.TypeText.{TypeText, TypeText-F, fold-TypeText}
use Rattle.pascal_tree.specs.declared.typing.FieldText.{FieldText, FieldText-F, fold-FieldText}
use Rattle.pascal_tree.specs.declared.decl.DeclKind.{DeclKind}
use Rattle.pascal_tree.specs.declared.decl.DeclKind.TheVariants as decl
use Rattle.pascal_tree.specs.declared.decl.Section.{Section}
use Rattle.pascal_tree.specs.declared.decl.Heading.{Heading}
use Rattle.dice_base.specs.Tokens.{Toks}
use Rattle.pascal_tree.specs.Joined.{join}
use Rattle.dice_base.specs.Symbols.{array_word, end_word, function_word, of_word, packed_word, procedure_word, record_word, set_word, var_word, equal_sign, open_sign, close_sign, semicolon_sign, colon_sign, range_sign, arrow_sign}
use Rattle.pascal_tree.specs.ExprTokens.{prefix_tokens, comma_list, in_brackets, in_parens}

-- an identifier alone
abbrev pub ident_tokens : List ℕ → Toks
ident_tokens x = token.Ident x ∷ []

-- a label (6.1.6)
abbrev pub number_tokens : ℕ → Toks
number_tokens n = token.Number n ∷ []

-- an identifier list (6.4.2.3): commas between
unfoldable pub idents_tokens : List (List ℕ) → Toks
idents_tokens xs = comma_list (map ident_tokens xs)

-- ---- constants

-- a constant (6.3): a number or an identifier, perhaps with a sign, or a string
unfoldable pub constant_tokens : Constant → Toks
constant_tokens (constant.Number p n) = prefix_tokens p ++ token.Number n ∷ []
constant_tokens (constant.Named p x) = prefix_tokens p ++ token.Ident x ∷ []
constant_tokens (constant.Str x) = token.Str x ∷ []

-- the constants before a case list element (6.8.3.5), with commas between
unfoldable pub constants_tokens : List Constant → Toks
constants_tokens cs = comma_list (map constant_tokens cs)

-- ---- types

-- the word before a structured type (6.4.3.1)
abbrev pub packed_tokens : Bool → Toks
packed_tokens packed = if packed then packed_word ∷ [] else []

-- one layer of the tree, in which the tokens of each part stand in its place
abbrev pub in_type : TypeText-F Toks Toks → Toks
in_type (TypeText-F.Named x) = token.Ident x ∷ []
in_type (TypeText-F.Enumeration xs) = open_sign ∷ idents_tokens xs ++ close_sign ∷ []
in_type (TypeText-F.Range first last) = constant_tokens first ++ range_sign ∷ constant_tokens last
in_type (TypeText-F.Pointer x) = arrow_sign ∷ token.Ident x ∷ []
in_type (TypeText-F.Array packed indexes component) =
    packed_tokens packed ++ array_word ∷ in_brackets indexes ++ of_word ∷ component
in_type (TypeText-F.SetOf packed base) = packed_tokens packed ++ set_word ∷ of_word ∷ base
in_type (TypeText-F.RecordOf packed fields) =
    packed_tokens packed ++ record_word ∷ join (semicolon_sign ∷ []) fields ++ end_word ∷ []

-- fields of one type (a record section, 6.4.3.3)
abbrev pub in_field : FieldText-F Toks Toks → Toks
in_field f = idents_tokens f.idents ++ colon_sign ∷ f.shape

-- a type (6.4.1), and fields of one
unfoldable pub type_tokens : TypeText → Toks
type_tokens = fold-TypeText Toks Toks in_type in_field

unfoldable pub field_tokens : FieldText → Toks
field_tokens = fold-FieldText Toks Toks in_type in_field

-- ---- declarations

-- without the word before the first of them and the semicolon after each (6.2.1)
unfoldable pub decl_tokens : DeclKind → Toks
decl_tokens (decl.LabelDecl ns) = comma_list (map number_tokens ns)
decl_tokens (decl.ConstDecl x c) = token.Ident x ∷ equal_sign ∷ constant_tokens c
decl_tokens (decl.TypeDecl x t) = token.Ident x ∷ equal_sign ∷ type_tokens t
decl_tokens (decl.VarDecl xs t) = idents_tokens xs ++ colon_sign ∷ type_tokens t

-- ---- headings

-- the word before variable parameters (6.6.3.1)
abbrev pub var_tokens : Bool → Toks
var_tokens by_place = if by_place then var_word ∷ [] else []

-- parameters of one type (a formal parameter section, 6.6.3.1)
unfoldable pub section_tokens : Section → Toks
section_tokens s =
    var_tokens s.by_place ++ idents_tokens s.idents ++ colon_sign ∷ token.Ident s.shape ∷ []

-- the type of a function's result (6.6.2)
abbrev pub result_tokens : Option (List ℕ) → Toks
result_tokens None = []
result_tokens (Some x) = colon_sign ∷ token.Ident x ∷ []

-- the word before a heading
abbrev pub routine_word : Bool → TokenKind
routine_word function = if function then function_word else procedure_word

-- the heading of a procedure or a function (6.6.1, 6.6.2), without the semicolon after it
unfoldable pub heading_tokens : Heading → Toks
heading_tokens h =
    routine_word h.function ∷ token.Ident h.ident
    ∷ in_parens semicolon_sign (map section_tokens h.sections) ++ result_tokens h.result
