-- A constant and a type that is formed is spelled by a text, with the levels that it takes.
use Rattle.std.specs.Prelude.{◌≡◌, ℕ, ◌≤◌, zero, suc, Bool, true, false, ◌&&◌, List, [], ◌∷◌}
use Rattle.std.proofs.Common.{refl, sym, ap, ◌∙◌, arith}
use Rattle.dice_base.specs.Forms.{Form}
use Rattle.dice_base.specs.declared.symbols.words.TheConstants as words
use Rattle.dice_base.specs.declared.symbols.signs.TheConstants as signs
use Rattle.pascal_tree.specs.declared.expr.Prefix.TheVariants as prefix
use Rattle.pascal_tree.specs.declared.stmt.Constant.{Constant}
use Rattle.pascal_tree.specs.declared.stmt.Constant.TheVariants as constant
use Rattle.pascal_tree.specs.declared.typing.TypeText.{TypeText, TypeText-F, out-TypeText, roll-TypeText, roll-out-TypeText}
use Rattle.pascal_tree.specs.declared.typing.TypeText.TheVariants.{rolls-Named, rolls-Enumeration, rolls-Range, rolls-Pointer, rolls-Array, rolls-SetOf, rolls-RecordOf}
use Rattle.pascal_tree.specs.declared.typing.FieldText.{FieldText, out-FieldText, roll-FieldText, roll-out-FieldText}
use Rattle.pascal_tree.specs.Declarations.{constant_form, idents_form, simple_form, field_form, record_in, array_in, set_in, struct_form, type_form, simple_at, type_at}
use Rattle.pascal_tree.specs.FormedExprs.{some_formed}
use Rattle.pascal_tree.specs.Formed.{are_identifiers, constant_is_formed, type_is_formed, is_simple_type, field_is_formed}
use Rattle.pascal_tree.specs.Depth.{type_depth, field_depth}
use Rattle.expression_laws.specs.Spelled.{Spelled}
use Rattle.expression_laws.proofs.Words.{and-parts, and-true}
use Rattle.expression_laws.proofs.Gives.{Fits}
use Rattle.expression_laws.proofs.Layers.{made, opened, some_levels}
use Rattle.tree_laws.proofs.TypeLayers.{TypeTextLayer, FieldTextLayer, layer_shape, type_levels, type_layer, simple_layer, field_layer, shapes-simple}
use Rattle.expression_laws.proofs.Spells.{Spelling, whole, done, left, right, after, identifier, number, string, word, sign, sign_operator, list, ended, flat_list}

-- ---- constants and identifiers

pub constant-spelled : (c : Constant) → constant_is_formed c ≡ true → Spelled constant_form c false
unfolding constant_is_formed
constant-spelled (constant.Named prefix.Without x) e = left (after (identifier x e) (done refl))
constant-spelled (constant.Str x) e = right (left (after (string x e) (done refl)))
constant-spelled (constant.Number prefix.Without n) e = right (right (left (after (number n e) (done refl))))
constant-spelled (constant.Number prefix.Plus n) e =
    right (right (right (after (sign_operator signs.PLUS refl refl) (left (after (number n e) (done refl))))))
constant-spelled (constant.Number prefix.Minus n) e =
    right (right (right (after (sign_operator signs.MINUS refl refl) (left (after (number n e) (done refl))))))
constant-spelled (constant.Named prefix.Plus x) e =
    right (right (right (after (sign_operator signs.PLUS refl refl) (right (after (identifier x e) (done refl))))))
constant-spelled (constant.Named prefix.Minus x) e =
    right (right (right (after (sign_operator signs.MINUS refl refl) (right (after (identifier x e) (done refl))))))

pub idents-spelled : (xs : List (List ℕ)) → are_identifiers xs ≡ true → Spelled idents_form xs false
idents-spelled xs e = flat_list signs.COMMA refl identifier xs e

-- ---- simple types

no_simple : (b : Bool) → (b && false) ≡ true → ⊥
no_simple b e = let r = and-parts b false e in let bad : false ≡ true = r.1 in cc

simple-layer : (d : ℕ) (x : TypeTextLayer) → Fits is_simple_type type_depth d (roll-TypeText x)
    → Spelled simple_form (roll-TypeText x) false
simple-layer d (TypeText-F.Named x) h =
    let (e, n) = opened simple_layer (TypeText-F.Named x) h in
    right (left (after (identifier x (and-parts _ _ e).0) (done (rolls-Named x))))
simple-layer d (TypeText-F.Enumeration xs) h =
    let (e, n) = opened simple_layer (TypeText-F.Enumeration xs) h in
    left (sign signs.OPEN refl
    (after (idents-spelled xs (and-parts _ _ e).0) (sign signs.CLOSE refl (done (rolls-Enumeration xs)))))
simple-layer d (TypeText-F.Range first last) h =
    let (e, n) = opened simple_layer (TypeText-F.Range first last) h in
    let (p, q) = and-parts _ _ (and-parts _ _ e).0 in
    right (right (after (constant-spelled first p)
    (sign signs.RANGE refl (after (constant-spelled last q) (done (rolls-Range first last))))))
simple-layer d (TypeText-F.Pointer x) h = absurd (no_simple _ (opened simple_layer (TypeText-F.Pointer x) h).0)
simple-layer d (TypeText-F.Array packed indexes component) h =
    absurd (no_simple _ (opened simple_layer (TypeText-F.Array packed indexes component) h).0)
simple-layer d (TypeText-F.SetOf packed base) h =
    absurd (no_simple _ (opened simple_layer (TypeText-F.SetOf packed base) h).0)
simple-layer d (TypeText-F.RecordOf packed fields) h =
    absurd (no_simple _ (opened simple_layer (TypeText-F.RecordOf packed fields) h).0)

pub simple-spelled : (d : ℕ) → Spelling simple_form is_simple_type type_depth d
simple-spelled d = whole roll-TypeText out-TypeText roll-out-TypeText (simple-layer d)

-- ---- types, where it holds of inner ones

module _ (d : ℕ) (I T : Form TypeText) (index : Spelling I is_simple_type type_depth d)
    (inner : Spelling T type_is_formed type_depth d) where
  field-layer : (x : FieldTextLayer) → Fits field_is_formed field_depth d (roll-FieldText x)
      → Spelled (field_form I T) (roll-FieldText x) false
  field-layer x h =
      let (e, n) = opened field_layer x h in
      let (p, q) = and-parts _ _ e in
      after (idents-spelled x.idents p)
      (sign signs.COLON refl (after (inner x.shape (record { is_formed = q; levels = n })) (done refl)))

  field-spelled : Spelling (field_form I T) field_is_formed field_depth d
  field-spelled = whole roll-FieldText out-FieldText roll-out-FieldText field-layer

  -- behind `array`, `set` and `record`
  array-spelled : (packed : Bool) (indexes : List TypeText) (component : TypeText)
      → Fits type_is_formed type_depth (suc d) (roll-TypeText (TypeText-F.Array packed indexes component))
      → Spelled (array_in I T packed) (roll-TypeText (TypeText-F.Array packed indexes component)) false
  array-spelled packed indexes component h =
      let (e, n) = opened type_layer (TypeText-F.Array packed indexes component) h in
      let (p, q) = and-parts _ _ e in
      sign signs.LEFT refl
      (after (list signs.COMMA refl index indexes
      (record { is_formed = sym (ap some_formed (shapes-simple indexes)) ∙ p; levels = omega (arith, n) }))
      (sign signs.RIGHT refl
      (word words.OF refl (after (inner component (record { is_formed = q; levels = omega (arith, n) }))
      (done (rolls-Array packed indexes component))))))

  set-spelled : (packed : Bool) (base : TypeText)
      → Fits type_is_formed type_depth (suc d) (roll-TypeText (TypeText-F.SetOf packed base))
      → Spelled (set_in I T packed) (roll-TypeText (TypeText-F.SetOf packed base)) false
  set-spelled packed base h =
      let (e, n) = opened type_layer (TypeText-F.SetOf packed base) h in
      word words.OF refl (after (index base (record { is_formed = e; levels = omega (arith, n) }))
      (done (rolls-SetOf packed base)))

  record-spelled : (packed : Bool) (fields : List FieldText)
      → Fits type_is_formed type_depth (suc d) (roll-TypeText (TypeText-F.RecordOf packed fields))
      → Spelled (record_in I T packed) (roll-TypeText (TypeText-F.RecordOf packed fields)) false
  record-spelled packed [] h = left (word words.END refl (done (rolls-RecordOf packed [])))
  record-spelled packed (x ∷ xs) h =
      let (e, n) = opened type_layer (TypeText-F.RecordOf packed (x ∷ xs)) h in
      right (after (ended signs.SEMICOLON refl field-spelled (x ∷ xs)
      (record { is_formed = e; levels = omega (arith, n) }))
      (word words.END refl (done (rolls-RecordOf packed (x ∷ xs)))))

  -- behind `packed` or without it
  struct-spelled : (packed : Bool) (a : TypeText) → Spelled (struct_form I T packed) a false
      → Spelled (type_form I T) a false
  struct-spelled true a s = right (left (word words.PACKED refl s))
  struct-spelled false a s = right (right (left s))

  simple-fits : (x : TypeTextLayer) → (layer_shape x).simple ≡ true
      → Fits type_is_formed type_depth (suc d) (roll-TypeText x) → Spelled (type_form I T) (roll-TypeText x) false
  simple-fits x is h =
      let (e, n) = opened type_layer x h in
      right (right (right (simple-spelled (suc d) (roll-TypeText x) (made simple_layer x (and-true _ _ e is) n))))

  type-layer : (x : TypeTextLayer) → Fits type_is_formed type_depth (suc d) (roll-TypeText x)
      → Spelled (type_form I T) (roll-TypeText x) false
  type-layer (TypeText-F.Named x) h = simple-fits (TypeText-F.Named x) refl h
  type-layer (TypeText-F.Enumeration xs) h = simple-fits (TypeText-F.Enumeration xs) refl h
  type-layer (TypeText-F.Range first last) h = simple-fits (TypeText-F.Range first last) refl h
  type-layer (TypeText-F.Pointer x) h =
      let (e, n) = opened type_layer (TypeText-F.Pointer x) h in
      left (sign signs.ARROW refl (after (identifier x e) (done (rolls-Pointer x))))
  type-layer (TypeText-F.Array packed indexes component) h =
      struct-spelled packed _ (left (word words.ARRAY refl (array-spelled packed indexes component h)))
  type-layer (TypeText-F.SetOf packed base) h =
      struct-spelled packed _ (right (left (word words.SET refl (set-spelled packed base h))))
  type-layer (TypeText-F.RecordOf packed fields) h =
      struct-spelled packed _ (right (right (word words.RECORD refl (record-spelled packed fields h))))

  type-spelled_in : Spelling (type_form I T) type_is_formed type_depth (suc d)
  type-spelled_in = whole roll-TypeText out-TypeText roll-out-TypeText type-layer

-- ---- each takes a level at least

type-some : (t : TypeText) → 1 ≤ type_depth t
type-some = some_levels type_layer out-TypeText roll-out-TypeText go where
  go : (x : TypeTextLayer) → 1 ≤ type_levels x
  go (TypeText-F.Named x) = omega arith
  go (TypeText-F.Enumeration xs) = omega arith
  go (TypeText-F.Range first last) = omega arith
  go (TypeText-F.Pointer x) = omega arith
  go (TypeText-F.Array packed indexes component) = omega arith
  go (TypeText-F.SetOf packed base) = omega arith
  go (TypeText-F.RecordOf packed fields) = omega arith

-- ---- with any number of levels

simple-at : (d : ℕ) → Spelling (simple_at d) is_simple_type type_depth d
unfolding simple_at
simple-at zero = λ t h. absurd (omega (arith, type-some t, h.levels))
simple-at (suc d) = simple-spelled (suc d)

pub type-spelled : (d : ℕ) → Spelling (type_at d) type_is_formed type_depth d
unfolding type_at
type-spelled zero = λ t h. absurd (omega (arith, type-some t, h.levels))
type-spelled (suc d) = type-spelled_in d (simple_at d) (type_at d) (simple-at d) (type-spelled d)
