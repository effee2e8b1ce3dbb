-- The rules of constants, types, declarations and headings: all laws of each.
use Rattle.std.specs.Prelude.{◌≡◌, Bool, true, false, ◌&&◌, [], ◌∷◌, Some, None}
use Rattle.std.proofs.Common.{refl, inl}
use Rattle.dice_base.specs.Tokens.{Classes, end_of_tokens, operator_of, keys}
use Rattle.dice_base.specs.Forms.{Form, just, one, token, chain, either, list_of, named, numeral, quoted}
use Rattle.pascal_tree.specs.declared.expr.Prefix.{Prefix}
use Rattle.pascal_tree.specs.declared.expr.Prefix.TheVariants as prefix
use Rattle.pascal_tree.specs.declared.stmt.Constant.{Constant}
use Rattle.pascal_tree.specs.declared.stmt.Constant.TheVariants as value
use Rattle.pascal_tree.specs.declared.typing.TypeText.{TypeText}
use Rattle.pascal_tree.specs.declared.typing.TypeText.TheVariants as typed
use Rattle.pascal_tree.specs.declared.decl.DeclKind.TheVariants as kind
use Rattle.pascal_tree.specs.Classes.{ident_class, number_class, string_class, array_class, const_class, end_class, function_class, label_class, of_class, packed_class, procedure_class, record_class, set_class, type_class, var_class, equal_class, open_class, close_class, left_class, right_class, comma_class, semicolon_class, colon_class, range_class, arrow_class}
use Rattle.pascal_tree.specs.Expressions.{signs}
use Rattle.pascal_tree.specs.Declarations as form
use Rattle.pascal_tree.specs.Declarations.{make_decl, make_field, make_section, make_heading}
use Rattle.token_reader.specs.Readers.{Parser, ◌>>=◌, ◌>>◌, pure, expect}
use Rattle.token_reader.proofs.Tables.{sub_same}
use Rattle.token_reader.proofs.Rules.{Rule, Nothing, fits, give, seq, seq_sub, tok, op, choose, narrow, as_same, split, in_left, in_right, swap, reassociate, distribute, made, ident_rule, number_rule, string_rule}
use Rattle.token_reader.proofs.Loops.{list_rule, ended_rule}
use Rattle.declaration_parser.specs.Readers as read
use Rattle.declaration_parser.specs.Readers.{constant_first, structured_first}
use Rattle.declaration_parser.specs.Follows.{Any, constant_ends, simple_ends, type_ends, decl_ends, idents_ends, section_ends, simple_first, type_first, decl_first, heading_first}

-- the parts of the form of a constant: what follows a sign, and a constant that does not begin with an identifier
abbrev signed_form : Prefix → Form Constant
signed_form p =
    either (chain numeral (λ n _. just (value.Number p n) false)) (chain named (λ x _. just (value.Named p x) false))

abbrev literal_form : Form Constant
literal_form =
    either (chain quoted (λ x _. just (value.Str x) false))
    (either (chain numeral (λ n _. just (value.Number prefix.Without n) false))
    (chain (one (operator_of signs)) (λ p _. signed_form p)))

abbrev literal_first : Classes
literal_first = string_class ∷ number_class ∷ keys signs

-- the parts of the form of a simple type: a type identifier, a constant that is an identifier, the rest of a range
abbrev named_form : Form TypeText
named_form = chain named (λ x _. just (typed.Named x) false)

abbrev ident_form : Form Constant
ident_form = chain named (λ x _. just (value.Named prefix.Without x) false)

abbrev range_in : Constant → Bool → Form TypeText
range_in first w = token range_class (chain form.constant_form (λ last _. just (typed.Range first last) false))

abbrev enumeration_form : Form TypeText
enumeration_form =
    token open_class (chain form.idents_form (λ xs _. token close_class (just (typed.Enumeration xs) false)))

module _ {I : Type 0} {R : I → I → Type 0} where
  -- the last part, and the value that is made of it
  last : {A B : Type 0} {s : Bool} {P L F : Classes} {p : I → Parser A} {g : I → Form A} {E : Bool → Classes}
      (make : A → B)
      → Rule R s P L p g E (Any F)
      → Rule R (s && true) P L (λ i. p i >>= (λ x. pure (make x)))
      (λ i. chain (g i) (λ x _. just (make x) false)) Nothing (Any F)
  last {A} {B} {s} {P} {L} {F} make part = seq_sub part (λ x w. give (make x) false (Any F)) (λ w. sub_same F)

  -- ---- constants

  signed_rule : (p : Prefix)
      → Rule R true [] (number_class ∷ ident_class ∷ []) (λ i. read.signed p) (λ i. signed_form p) Nothing
      (Any constant_ends)
  unfolding read.signed
  signed_rule p =
      choose (number_class ∷ []) (last (value.Number p) (number_rule (Any constant_ends)))
      (last (value.Named p) (ident_rule (Any constant_ends))) refl

  literal_rule : Rule R true [] literal_first (λ i. read.literal) (λ i. literal_form) Nothing (Any constant_ends)
  unfolding read.literal
  literal_rule =
      choose (string_class ∷ []) (last value.Str (string_rule (Any constant_ends)))
      (choose (number_class ∷ []) (last (value.Number prefix.Without) (number_rule (Any constant_ends)))
      (op signs signed_rule) refl) refl

  pub constant_rule : Rule R true [] constant_first (λ i. read.constant) (λ i. form.constant_form) Nothing
      (Any constant_ends)
  unfolding read.constant
  constant_rule =
      choose (ident_class ∷ [])
      (last (value.Named prefix.Without) (ident_rule (Any constant_ends))) literal_rule refl

  -- ---- simple types

  pub idents_rule : Rule R true [] (ident_class ∷ []) (λ i. read.idents) (λ i. form.idents_form) Nothing
      (Any idents_ends)
  unfolding read.idents
  idents_rule =
      list_rule comma_class idents_ends (ident_rule (Any (end_of_tokens ∷ comma_class ∷ idents_ends)))
      (λ w. refl)

  enumeration_rule : Rule R true [] (open_class ∷ []) (λ i. expect open_class >> read.enumeration)
      (λ i. enumeration_form) Nothing (Any simple_ends)
  unfolding read.enumeration
  enumeration_rule =
      tok open_class
      (seq idents_rule (λ xs _. tok close_class (give (typed.Enumeration xs) false (Any simple_ends)))
      (λ w. refl))

  range_rule : (first : Constant)
      → Rule R true [] (range_class ∷ []) (λ i. read.range_from first) (λ i. range_in first false) Nothing
      (Any simple_ends)
  unfolding read.range_from
  range_rule first = tok range_class (last (typed.Range first) (narrow (Any simple_ends) (λ w. refl) constant_rule))

  -- the grammar has the identifier in each of two
  by_ident_rule : Rule R true [] (ident_class ∷ []) (λ i. read.by_ident)
      (λ i. either named_form (chain ident_form range_in)) Nothing (Any simple_ends)
  unfolding read.by_ident
  by_ident_rule =
      as_same (λ i. swap (chain ident_form range_in) named_form)
      (as_same (λ i. in_left named_form (made named (value.Named prefix.Without) range_in (λ c. inl (inl refl))))
      (as_same (λ i. split named (λ x _. range_in (value.Named prefix.Without x) false)
      (λ x _. just (typed.Named x) false))
      (seq (ident_rule (Any (range_class ∷ simple_ends)))
      (λ x _. choose (range_class ∷ []) (range_rule (value.Named prefix.Without x))
      (give (typed.Named x) false (Any simple_ends)) refl) (λ w. refl))))

  subrange_rule : Rule R true [] literal_first (λ i. read.subrange) (λ i. chain literal_form range_in) Nothing
      (Any simple_ends)
  unfolding read.subrange
  subrange_rule = seq literal_rule (λ first _. range_rule first) (λ w. refl)

  pub simple_rule : Rule R true [] simple_first (λ i. read.simple) (λ i. form.simple_form) Nothing (Any simple_ends)
  unfolding read.simple
  simple_rule =
      as_same (λ i. in_right enumeration_form (in_right named_form (distribute ident_form literal_form range_in)))
      (as_same (λ i. in_right enumeration_form
      (reassociate named_form (chain ident_form range_in) (chain literal_form range_in)))
      (choose (open_class ∷ []) enumeration_rule (choose (ident_class ∷ []) by_ident_rule subrange_rule refl) refl))

  -- ---- types

  module _ (index inner : I → Parser TypeText) (S T : I → Form TypeText)
      (index_inner : Rule R false [] simple_first index S Nothing (Any simple_ends))
      (type_inner : Rule R false [] type_first inner T Nothing (Any type_ends))
    where
      field_rule : Rule R true [] (ident_class ∷ []) (λ i. read.field (index i) (inner i))
          (λ i. form.field_form (S i) (T i)) Nothing (Any type_ends)
      unfolding read.field
      field_rule = seq idents_rule (λ xs _. tok colon_class (last (make_field xs) type_inner)) (λ w. refl)

      record_rule : (packed : Bool)
          → Rule R true [] (end_class ∷ ident_class ∷ []) (λ i. read.record_rest (index i) (inner i) packed)
          (λ i. form.record_in (S i) (T i) packed) Nothing (Any type_ends)
      unfolding read.record_rest
      record_rule packed =
          choose (end_class ∷ []) (tok end_class (give (typed.RecordOf packed []) false (Any type_ends)))
          (seq (ended_rule semicolon_class (end_class ∷ []) field_rule (λ w. refl) refl)
          (λ fields _. tok end_class (give (typed.RecordOf packed fields) false (Any type_ends)))
          (λ w. refl)) refl

      array_rule : (packed : Bool)
          → Rule R true [] (left_class ∷ []) (λ i. read.array_rest (index i) (inner i) packed)
          (λ i. form.array_in (S i) (T i) packed) Nothing (Any type_ends)
      unfolding read.array_rest
      array_rule packed =
          tok left_class
          (seq (list_rule comma_class (right_class ∷ []) index_inner (λ w. refl))
          (λ indexes _. tok right_class (tok of_class (last (typed.Array packed indexes) type_inner)))
          (λ w. refl))

      set_rule : (packed : Bool)
          → Rule R true [] (of_class ∷ []) (λ i. read.set_rest (index i) (inner i) packed)
          (λ i. form.set_in (S i) (T i) packed) Nothing (Any type_ends)
      unfolding read.set_rest
      set_rule packed = tok of_class (last (typed.SetOf packed) (narrow (Any type_ends) (λ w. refl) index_inner))

      structured_rule : (packed : Bool)
          → Rule R true [] structured_first (λ i. read.structured (index i) (inner i) packed)
          (λ i. form.struct_form (S i) (T i) packed) Nothing (Any type_ends)
      unfolding read.structured
      structured_rule packed =
          choose (array_class ∷ []) (tok array_class (array_rule packed))
          (choose (set_class ∷ []) (tok set_class (set_rule packed)) (tok record_class (record_rule packed)) refl) refl

      pub type_rule : Rule R true [] type_first (λ i. read.whole_type (index i) (inner i))
          (λ i. form.type_form (S i) (T i)) Nothing (Any type_ends)
      unfolding read.whole_type
      type_rule =
          choose (arrow_class ∷ []) (tok arrow_class (last typed.Pointer (ident_rule (Any type_ends))))
          (choose (packed_class ∷ []) (tok packed_class (structured_rule true))
          (choose structured_first (structured_rule false)
          (narrow (Any type_ends) (λ w. refl) simple_rule) refl) refl) refl

  -- ---- declarations

  pub labels_rule : Rule R true [] (number_class ∷ []) (λ i. read.labels) (λ i. form.labels_form) Nothing
      (Any decl_ends)
  unfolding read.labels
  labels_rule =
      last kind.LabelDecl
      (list_rule comma_class decl_ends (number_rule (Any (comma_class ∷ decl_ends))) (λ w. refl))

  pub constdef_rule : Rule R true [] (ident_class ∷ []) (λ i. read.constdef) (λ i. form.constdef_form) Nothing
      (Any decl_ends)
  unfolding read.constdef
  constdef_rule =
      seq (ident_rule (Any (equal_class ∷ [])))
      (λ x _. tok equal_class
      (last (kind.ConstDecl x) (narrow (Any decl_ends) (λ w. refl) constant_rule))) (λ w. refl)

  module _ (typ : I → Parser TypeText) (T : I → Form TypeText)
      (types : Rule R false [] type_first typ T Nothing (Any type_ends)) where
    pub typedef_rule : Rule R true [] (ident_class ∷ []) (λ i. read.typedef (typ i))
        (λ i. form.typedef_form (T i)) Nothing (Any decl_ends)
    unfolding read.typedef
    typedef_rule =
        seq (ident_rule (Any (equal_class ∷ [])))
        (λ x _. tok equal_class (last (kind.TypeDecl x) (narrow (Any decl_ends) (λ w. refl) types)))
        (λ w. refl)

    pub vardef_rule : Rule R true [] (ident_class ∷ []) (λ i. read.vardef (typ i))
        (λ i. form.vardef_form (T i)) Nothing (Any decl_ends)
    unfolding read.vardef
    vardef_rule =
        seq idents_rule
        (λ xs _. tok colon_class (last (kind.VarDecl xs) (narrow (Any decl_ends) (λ w. refl) types)))
        (λ w. refl)

    pub decl_rule : Rule R true [] decl_first (λ i. read.declared (typ i) >>= (λ k. pure (make_decl k)))
        (λ i. form.decl_form (T i)) Nothing (Any decl_ends)
    unfolding read.declared
    decl_rule =
        last make_decl
        (choose (label_class ∷ []) (tok label_class labels_rule)
        (choose (const_class ∷ []) (tok const_class constdef_rule)
        (choose (type_class ∷ []) (tok type_class typedef_rule) (tok var_class vardef_rule) refl) refl) refl)

  -- ---- headings

  section_rest_rule : (by_place : Bool)
      → Rule R true [] (ident_class ∷ []) (λ i. read.section_rest by_place)
      (λ i. form.section_in by_place) Nothing (Any section_ends)
  unfolding read.section_rest
  section_rest_rule by_place =
      seq idents_rule
      (λ xs _. tok colon_class (last (make_section by_place xs) (ident_rule (Any section_ends))))
      (λ w. refl)

  section_rule : Rule R true [] (var_class ∷ ident_class ∷ []) (λ i. read.section)
      (λ i. form.section_form) Nothing (Any section_ends)
  unfolding read.section
  section_rule = choose (var_class ∷ []) (tok var_class (section_rest_rule true)) (section_rest_rule false) refl

  params_in_rule : (F : Classes)
      → Rule R true [] (open_class ∷ []) (λ i. expect open_class >> read.params_rest)
      (λ i. token open_class
      (chain (list_of semicolon_class form.section_form) (λ ss _. token close_class (just ss false)))) Nothing
      (Any F)
  unfolding read.params_rest
  params_in_rule F =
      tok open_class
      (seq (list_rule semicolon_class (close_class ∷ []) section_rule (λ w. refl))
      (λ ss _. tok close_class (give ss false (Any F))) (λ w. refl))

  -- behind `procedure` and behind `function` not the same may follow
  params_rule : (F : Classes) → fits (open_class ∷ []) (open_class ∷ []) F ≡ true
      → Rule R true [] (open_class ∷ F) (λ i. read.params) (λ i. form.params_form) Nothing (Any F)
  unfolding read.params
  params_rule F fit = choose (open_class ∷ []) (params_in_rule F) (give [] false (Any F)) fit

  procedure_rule : Rule R true [] (ident_class ∷ []) (λ i. read.procedure_rest)
      (λ i. form.procedure_in) Nothing (Any decl_ends)
  unfolding read.procedure_rest
  procedure_rule =
      seq (ident_rule (Any (open_class ∷ decl_ends)))
      (λ x _. seq (params_rule decl_ends refl)
      (λ ss _. give (make_heading false x ss None) false (Any decl_ends)) (λ w. refl)) (λ w. refl)

  function_rule : Rule R true [] (ident_class ∷ []) (λ i. read.function_rest) (λ i. form.function_in) Nothing
      (Any decl_ends)
  unfolding read.function_rest
  function_rule =
      seq (ident_rule (Any (open_class ∷ colon_class ∷ decl_ends)))
      (λ x _. choose (open_class ∷ colon_class ∷ [])
      (seq (params_rule (colon_class ∷ []) refl)
      (λ ss _. tok colon_class (last (λ r. make_heading true x ss (Some r)) (ident_rule (Any decl_ends))))
      (λ w. refl))
      (give (make_heading true x [] None) false (Any decl_ends)) refl)
      (λ w. refl)

  pub heading_rule : Rule R true [] heading_first (λ i. read.heading) (λ i. form.heading_form) Nothing (Any decl_ends)
  unfolding read.heading
  heading_rule =
      choose (procedure_class ∷ []) (tok procedure_class procedure_rule)
      (tok function_class function_rule) refl
