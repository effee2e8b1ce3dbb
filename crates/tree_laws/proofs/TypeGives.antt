-- A constant, a type, a declaration and a heading that a text spells is formed, and has no more levels than it is
-- spelled with.
use Rattle.std.specs.Prelude.{◌≡◌, ℕ, zero, suc, Bool, true, false, List, []}
use Rattle.std.proofs.Common.{refl, ap, ◌∙◌, arith}
use Rattle.dice_base.specs.Forms.{Form}
use Rattle.pascal_tree.specs.Classes.{comma_class, semicolon_class}
use Rattle.pascal_tree.specs.declared.typing.TypeText.{TypeText, TypeText-F}
use Rattle.pascal_tree.specs.declared.typing.TypeText.TheVariants as typed
use Rattle.pascal_tree.specs.declared.typing.TypeText.TheVariants.{rolls-Named, rolls-Enumeration, rolls-Range, rolls-Pointer, rolls-Array, rolls-SetOf, rolls-RecordOf}
use Rattle.pascal_tree.specs.declared.typing.FieldText.{FieldText}
use Rattle.pascal_tree.specs.Declarations.{constant_form, idents_form, simple_form, field_form, record_in, array_in, set_in, struct_form, type_form, simple_at, type_at}
use Rattle.pascal_tree.specs.FormedExprs.{some_formed}
use Rattle.pascal_tree.specs.Formed.{are_identifiers, constant_is_formed, type_is_formed, is_simple_type, field_is_formed}
use Rattle.pascal_tree.specs.Depth.{type_depth, field_depth}
use Rattle.expression_laws.proofs.Words.{and-parts, and-true}
use Rattle.expression_laws.proofs.Gives.{Fits, AllFit, SomeFit, Gives, Fitting, some-all, give, refused, choice, behind, weaken, operator, mark, identifier, number, string, list, ended, flat_list}
use Rattle.expression_laws.proofs.Layers.{made, variant}
use Rattle.tree_laws.proofs.TypeLayers.{type_layer, simple_layer, field_layer, shapes-simple}

-- ---- constants and identifiers

pub constant-gives : Gives constant_form (λ c w. constant_is_formed c ≡ true)
unfolding constant_is_formed
constant-gives =
    choice (behind identifier (λ x w e. give e))
    (choice (behind string (λ x w e. give e))
    (choice (behind number (λ n w e. give e))
    (behind operator (λ p w any. choice (behind number (λ n w e. give e)) (behind identifier (λ x w e. give e))))))

pub idents-gives : Gives idents_form (λ xs w. are_identifiers xs ≡ true)
idents-gives = flat_list comma_class identifier

-- ---- simple types

pub simple-gives : (d : ℕ) → Gives simple_form (Fitting is_simple_type type_depth (suc d))
simple-gives d =
    choice (mark (behind idents-gives
    (λ xs w e. mark (give
    (variant simple_layer (TypeText-F.Enumeration xs) (rolls-Enumeration xs) (and-true _ _ e refl) (omega arith))))))
    (choice (behind identifier
    (λ x w e. give (variant simple_layer (TypeText-F.Named x) (rolls-Named x) (and-true _ _ e refl) (omega arith))))
    (behind constant-gives (λ first w e. mark (behind constant-gives (λ last v f.
    give (variant simple_layer (TypeText-F.Range first last) (rolls-Range first last)
    (and-true _ _ (and-true _ _ e f) refl) (omega arith)))))))

-- as a type
simple-type : (d : ℕ) (t : TypeText) → Fits is_simple_type type_depth d t → Fits type_is_formed type_depth d t
simple-type d t f = record { is_formed = (and-parts _ _ f.is_formed).0; levels = f.levels }

-- ---- types, where it holds of inner ones

module _ (d : ℕ) (I T : Form TypeText) (index : Gives I (Fitting is_simple_type type_depth d))
    (inner : Gives T (Fitting type_is_formed type_depth d)) where
  field-gives : Gives (field_form I T) (Fitting field_is_formed field_depth d)
  field-gives =
      behind idents-gives (λ xs w e. mark (behind inner (λ t v f.
      give (made field_layer (record { idents = xs; shape = t }) (and-true _ _ e f.is_formed) f.levels))))

  record-fits : (packed : Bool) (fields : List FieldText) → AllFit field_is_formed field_depth d fields
      → Fits type_is_formed type_depth (suc d) (typed.RecordOf packed fields)
  record-fits packed fields f =
      variant type_layer (TypeText-F.RecordOf packed fields) (rolls-RecordOf packed fields) f.is_formed
      (omega (arith, f.levels))

  record-gives : (packed : Bool) → Gives (record_in I T packed) (Fitting type_is_formed type_depth (suc d))
  record-gives packed =
      choice (mark (give (record-fits packed [] (record { is_formed = refl; levels = omega arith }))))
      (behind (ended semicolon_class field-gives)
      (λ fields w f. mark (give (record-fits packed fields (some-all fields f)))))

  array-fits : (packed : Bool) (indexes : List TypeText) (component : TypeText)
      → SomeFit is_simple_type type_depth d indexes → Fits type_is_formed type_depth d component
      → Fits type_is_formed type_depth (suc d) (typed.Array packed indexes component)
  array-fits packed indexes component f g =
      variant type_layer (TypeText-F.Array packed indexes component) (rolls-Array packed indexes component)
      (and-true _ _ (ap some_formed (shapes-simple indexes) ∙ f.is_formed) g.is_formed)
      (omega (arith, f.levels, g.levels))

  array-gives : (packed : Bool) → Gives (array_in I T packed) (Fitting type_is_formed type_depth (suc d))
  array-gives packed =
      mark (behind (list comma_class index)
      (λ indexes w f. mark (mark (behind inner (λ component v g. give (array-fits packed indexes component f g))))))

  set-gives : (packed : Bool) → Gives (set_in I T packed) (Fitting type_is_formed type_depth (suc d))
  set-gives packed =
      mark (behind index (λ base w f. give
      (variant type_layer (TypeText-F.SetOf packed base) (rolls-SetOf packed base) f.is_formed
      (omega (arith, f.levels)))))

  struct-gives : (packed : Bool) → Gives (struct_form I T packed) (Fitting type_is_formed type_depth (suc d))
  struct-gives packed =
      choice (mark (array-gives packed)) (choice (mark (set-gives packed)) (mark (record-gives packed)))

  type-gives_in : Gives (type_form I T) (Fitting type_is_formed type_depth (suc d))
  type-gives_in =
      choice (mark (behind identifier
      (λ x w e. give (variant type_layer (TypeText-F.Pointer x) (rolls-Pointer x) e (omega arith)))))
      (choice (mark (struct-gives true))
      (choice (struct-gives false) (weaken (simple-gives d) (λ t w f. simple-type (suc d) t f))))

-- ---- with any number of levels

simple-at : (d : ℕ) → Gives (simple_at d) (Fitting is_simple_type type_depth d)
unfolding simple_at
simple-at zero = refused
simple-at (suc d) = simple-gives d

pub type-gives : (d : ℕ) → Gives (type_at d) (Fitting type_is_formed type_depth d)
unfolding type_at
type-gives zero = refused
type-gives (suc d) = type-gives_in d (simple_at d) (type_at d) (simple-at d) (type-gives d)
