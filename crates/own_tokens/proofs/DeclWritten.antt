-- Constants, types, declarations and headings are spelled by their own tokens.
use Rattle.std.specs.Prelude.{◌≡◌, ℕ, zero, suc, Bool, true, false, List, [], ◌∷◌, ◌++◌, map}
use Rattle.std.proofs.Common.{refl, sym, ap, ◌∙◌, append_assoc}
use Rattle.dice_base.specs.declared.token.TokenKind.{TokenKind}
use Rattle.dice_base.specs.declared.token.TokenKind.TheVariants.{Ident}
use Rattle.dice_base.specs.declared.symbols.words.TheConstants as words
use Rattle.dice_base.specs.declared.symbols.signs.TheConstants as signs
use Rattle.dice_base.specs.Tokens.{Toks}
use Rattle.dice_base.specs.Forms.{Form, list_of}
use Rattle.dice_base.specs.Symbols.{array_word, end_word, of_word, record_word, set_word, open_sign, close_sign, left_sign, right_sign, semicolon_sign, colon_sign, range_sign, arrow_sign}
use Rattle.pascal_tree.specs.declared.stmt.Constant.{Constant}
use Rattle.pascal_tree.specs.declared.typing.TypeText.{TypeText, TypeText-F, roll-TypeText, map-TypeText}
use Rattle.pascal_tree.specs.declared.typing.TypeText.TheVariants as typed
use Rattle.pascal_tree.specs.declared.typing.TypeText.TheVariants.{rolls-Named, rolls-Enumeration, rolls-Range, rolls-Pointer, rolls-Array, rolls-SetOf, rolls-RecordOf}
use Rattle.pascal_tree.specs.declared.typing.TypeText.TheFolds.{fold-roll-TypeText, fold-roll-FieldText}
use Rattle.pascal_tree.specs.declared.typing.FieldText.{FieldText}
use Rattle.pascal_tree.specs.Classes.{comma_class, semicolon_class}
use Rattle.pascal_tree.specs.Joined.{join}
use Rattle.pascal_tree.specs.Expressions.{signs}
use Rattle.pascal_tree.specs.Declarations.{make_field, constant_form, idents_form, simple_form, field_form, struct_form, type_form, simple_at, type_at, labels_form, constdef_form, typedef_form, vardef_form, section_in, section_form, params_form, heading_form}
use Rattle.pascal_tree.specs.ExprTokens.{prefix_tokens, comma_list, in_parens}
use Rattle.pascal_tree.specs.DeclTokens.{constant_tokens, constants_tokens, idents_tokens, packed_tokens, in_type, in_field, type_tokens, field_tokens, decl_tokens, var_tokens, section_tokens, heading_tokens}
use Rattle.own_tokens.proofs.Written.{IsClassOf, sign_is, Writes, Written, done, refused, choice, behind, last, word, sign, operators, identifier, number, string, list, ended, parens}
use Rattle.own_tokens.proofs.ExprWritten.{sign_classes, comma_is}

-- ---- the tokens of a type, by those of its parts

type-opened : (x : TypeText-F TypeText FieldText)
    → type_tokens (roll-TypeText x) ≡ in_type (map-TypeText TypeText FieldText Toks Toks type_tokens field_tokens x)
unfolding type_tokens field_tokens
type-opened x = fold-roll-TypeText Toks Toks in_type in_field x

type-named : (x : List ℕ) → type_tokens (typed.Named x) ≡ Ident x ∷ []
type-named x = ap type_tokens (sym (rolls-Named x)) ∙ type-opened (TypeText-F.Named x)

enumeration-made : (xs : List (List ℕ)) → type_tokens (typed.Enumeration xs) ≡ open_sign ∷
    (idents_tokens xs ++ close_sign ∷ [])
enumeration-made xs = ap type_tokens (sym (rolls-Enumeration xs)) ∙ type-opened (TypeText-F.Enumeration xs)

range-made : (c d : Constant) → type_tokens (typed.Range c d) ≡ constant_tokens c ++ range_sign ∷ constant_tokens d
range-made c d = ap type_tokens (sym (rolls-Range c d)) ∙ type-opened (TypeText-F.Range c d)

pointer-made : (x : List ℕ) → type_tokens (typed.Pointer x) ≡ arrow_sign ∷ Ident x ∷ []
pointer-made x = ap type_tokens (sym (rolls-Pointer x)) ∙ type-opened (TypeText-F.Pointer x)

array-made : (packed : Bool) (indexes : List TypeText) (t : TypeText) → type_tokens (typed.Array packed indexes t)
    ≡ packed_tokens packed ++ array_word ∷ left_sign ∷
    (comma_list (map type_tokens indexes) ++ right_sign ∷ of_word ∷ type_tokens t)
array-made packed indexes t =
    ap type_tokens (sym (rolls-Array packed indexes t)) ∙ type-opened (TypeText-F.Array packed indexes t)
    ∙ append_assoc (packed_tokens packed)
    (array_word ∷ left_sign ∷ (comma_list (map type_tokens indexes) ++ right_sign ∷ []))
    (of_word ∷ type_tokens t)
    ∙ ap (λ (ts : Toks). packed_tokens packed ++ array_word ∷ left_sign ∷ ts)
    (append_assoc (comma_list (map type_tokens indexes)) (right_sign ∷ []) (of_word ∷ type_tokens t))

set-made : (packed : Bool) (t : TypeText) → type_tokens (typed.SetOf packed t)
    ≡ packed_tokens packed ++ set_word ∷ of_word ∷ type_tokens t
set-made packed t = ap type_tokens (sym (rolls-SetOf packed t)) ∙ type-opened (TypeText-F.SetOf packed t)

record-made : (packed : Bool) (fields : List FieldText) → type_tokens (typed.RecordOf packed fields)
    ≡ packed_tokens packed ++ record_word ∷ (join (semicolon_sign ∷ []) (map field_tokens fields) ++ end_word ∷ [])
record-made packed fields =
    ap type_tokens (sym (rolls-RecordOf packed fields)) ∙ type-opened (TypeText-F.RecordOf packed fields)
    ∙ append_assoc (packed_tokens packed) (record_word ∷ join (semicolon_sign ∷ []) (map field_tokens fields))
    (end_word ∷ [])

field-made : (xs : List (List ℕ)) (t : TypeText) → field_tokens (make_field xs t)
    ≡ idents_tokens xs ++ colon_sign ∷ type_tokens t
unfolding type_tokens field_tokens
field-made xs t = fold-roll-FieldText Toks Toks in_type in_field (record { idents = xs; shape = t })

-- ---- the law

pub semicolon_is : IsClassOf semicolon_class semicolon_sign
semicolon_is = sign_is signs.SEMICOLON

module _ {P : TokenKind → Type 0} where
  constant-written : Written P constant_form constant_tokens
  unfolding constant_tokens
  constant-written =
      choice (last identifier (λ x w. refl))
      (choice (last string (λ x w. refl))
      (choice (last number (λ n w. refl))
      (behind (operators prefix_tokens signs sign_classes) (λ p w.
      choice (last number (λ n w. refl)) (last identifier (λ x w. refl))))))

  pub constants-written : Written P (list_of comma_class constant_form) constants_tokens
  unfolding constants_tokens
  constants-written = list comma_is constant-written

  idents-written : Written P idents_form idents_tokens
  unfolding idents_tokens
  idents-written = list comma_is identifier

  simple-written : Written P simple_form type_tokens
  simple-written =
      choice (sign signs.OPEN (behind idents-written (λ xs w. sign signs.CLOSE (done (enumeration-made xs)))))
      (choice (last identifier (λ x w. type-named x))
      (behind constant-written (λ c w. sign signs.RANGE (last constant-written (λ d w. range-made c d)))))

-- where it holds of an index type or a base, and of a type, one level further in
module _ {P : TokenKind → Type 0} {I T : Form TypeText} (index : Written P I type_tokens)
    (inner : Written P T type_tokens) where
  field-written : Written P (field_form I T) field_tokens
  field-written = behind idents-written (λ xs w. sign signs.COLON (last inner (λ t w. field-made xs t)))

  struct-written : (packed : Bool) → Writes P (λ z. packed_tokens packed ++ z) (struct_form I T packed) type_tokens
  struct-written packed =
      choice (word words.ARRAY (sign signs.LEFT (behind (list comma_is index) (λ indexes w.
      sign signs.RIGHT (word words.OF (last inner (λ t w. array-made packed indexes t)))))))
      (choice (word words.SET (word words.OF (last index (λ t w. set-made packed t))))
      (word words.RECORD (choice (word words.END (done (record-made packed [])))
      (behind (ended semicolon_is field-written) (λ fields w. word words.END (done (record-made packed fields)))))))

  type-written_in : Written P (type_form I T) type_tokens
  type-written_in =
      choice (sign signs.ARROW (last identifier (λ x w. pointer-made x)))
      (choice (word words.PACKED (struct-written true)) (choice (struct-written false) simple-written))

module _ {P : TokenKind → Type 0} where
  simple-written_at : (d : ℕ) → Written P (simple_at d) type_tokens
  unfolding simple_at
  simple-written_at zero = refused
  simple-written_at (suc d) = simple-written

  pub type-written : (d : ℕ) → Written P (type_at d) type_tokens
  unfolding type_at
  type-written zero = refused
  type-written (suc d) = type-written_in (simple-written_at d) (type-written d)

  -- ---- declarations

  pub labels-written : Written P labels_form decl_tokens
  unfolding decl_tokens
  labels-written = last (list comma_is number) (λ ns w. refl)

  pub constdef-written : Written P constdef_form decl_tokens
  unfolding decl_tokens
  constdef-written = behind identifier (λ x w. sign signs.EQUAL (last constant-written (λ c w. refl)))

  pub typedef-written : {T : Form TypeText} → Written P T type_tokens → Written P (typedef_form T) decl_tokens
  unfolding decl_tokens
  typedef-written inner = behind identifier (λ x w. sign signs.EQUAL (last inner (λ t w. refl)))

  pub vardef-written : {T : Form TypeText} → Written P T type_tokens → Written P (vardef_form T) decl_tokens
  unfolding decl_tokens
  vardef-written inner = behind idents-written (λ xs w. sign signs.COLON (last inner (λ t w. refl)))

  -- ---- headings

  section-written_in : (by_place : Bool) → Writes P (λ z. var_tokens by_place ++ z) (section_in by_place) section_tokens
  unfolding section_tokens
  section-written_in by_place =
      behind idents-written (λ xs w. sign signs.COLON (last identifier (λ x w.
      append_assoc (var_tokens by_place) (idents_tokens xs) (colon_sign ∷ Ident x ∷ []))))

  section-written : Written P section_form section_tokens
  section-written = choice (word words.VAR (section-written_in true)) (section-written_in false)

  params-written : Written P params_form (λ ss. in_parens semicolon_sign (map section_tokens ss))
  params-written = parens semicolon_is section-written

  pub heading-written : Written P heading_form heading_tokens
  unfolding heading_tokens
  heading-written =
      choice (word words.PROCEDURE (behind identifier (λ x w. behind params-written (λ ss w. done refl))))
      (word words.FUNCTION (behind identifier (λ x w.
      choice (behind params-written (λ ss w. sign signs.COLON (last identifier (λ r w. refl)))) (done refl))))
