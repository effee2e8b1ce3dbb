-- A declaration and a heading that is formed is spelled by a text, with the levels that it takes.
use Rattle.std.specs.Prelude.{◌≡◌, ℕ, ◌*◌, ltb, Bool, true, false, ◌||◌, List, [], ◌∷◌, Option, Some, None, map, option_map}
use Rattle.std.proofs.Common.{refl, arith}
use Rattle.dice_base.specs.Forms.{Form}
use Rattle.dice_base.specs.declared.symbols.words.TheConstants as words
use Rattle.dice_base.specs.declared.symbols.signs.TheConstants as signs
use Rattle.pascal_tree.specs.declared.typing.TypeText.{TypeText}
use Rattle.pascal_tree.specs.declared.decl.Decl.{Decl}
use Rattle.pascal_tree.specs.declared.decl.DeclKind.{DeclKind}
use Rattle.pascal_tree.specs.declared.decl.DeclKind.TheVariants as decl
use Rattle.pascal_tree.specs.declared.decl.Section.{Section}
use Rattle.pascal_tree.specs.declared.decl.Heading.{Heading}
use Rattle.pascal_tree.specs.Declarations.{make_section, make_heading, labels_form, constdef_form, typedef_form, vardef_form, decl_at, type_at, section_form, params_form, heading_form}
use Rattle.pascal_tree.specs.Programs.{ended_form, labels_part, decls_part}
use Rattle.pascal_tree.specs.Unnamed.{unnamed_decl}
use Rattle.pascal_tree.specs.FormedExprs.{is_identifier, all_formed}
use Rattle.pascal_tree.specs.Formed.{type_is_formed, labels_are_formed, const_is_formed, typedef_is_formed, vars_are_formed, decl_is_formed, label_part_is_formed, section_is_formed, result_is_formed, heading_is_formed}
use Rattle.pascal_tree.specs.Depth.{type_depth, decl_depth}
use Rattle.expression_laws.specs.Spelled.{Spelled}
use Rattle.expression_laws.proofs.Words.{and-parts}
use Rattle.expression_laws.proofs.Gives.{Fits, AllFit}
use Rattle.expression_laws.proofs.Spells.{Spelling, done, left, right, after, identifier, number, word, sign, some_items_as, flat_list}
use Rattle.tree_laws.proofs.TypeSpells.{constant-spelled, idents-spelled, type-spelled}
use Rattle.tree_laws.proofs.DeclGives.{of_kind}

-- ---- declarations, where T is a type at the level of the block

pub labels-spelled : (d : ℕ) → Spelling labels_form labels_are_formed decl_depth d
unfolding labels_are_formed
labels-spelled d (decl.LabelDecl ns) f = after (flat_list signs.COMMA refl number ns f.is_formed) (done refl)
labels-spelled d (decl.ConstDecl x c) f = let e = f.is_formed in absurd cc
labels-spelled d (decl.TypeDecl x t) f = let e = f.is_formed in absurd cc
labels-spelled d (decl.VarDecl xs t) f = let e = f.is_formed in absurd cc

pub constdef-spelled : (d : ℕ) → Spelling constdef_form const_is_formed decl_depth d
unfolding const_is_formed
constdef-spelled d (decl.ConstDecl x c) f =
    let (p, q) = and-parts _ _ f.is_formed in
    after (identifier x p) (sign signs.EQUAL refl (after (constant-spelled c q) (done refl)))
constdef-spelled d (decl.LabelDecl ns) f = let e = f.is_formed in absurd cc
constdef-spelled d (decl.TypeDecl x t) f = let e = f.is_formed in absurd cc
constdef-spelled d (decl.VarDecl xs t) f = let e = f.is_formed in absurd cc

module _ (d : ℕ) (T : Form TypeText) (inner : Spelling T type_is_formed type_depth d) where
  pub typedef-spelled : Spelling (typedef_form T) typedef_is_formed decl_depth d
  unfolding typedef_is_formed decl_depth
  typedef-spelled (decl.TypeDecl x t) f =
      let (p, q) = and-parts _ _ f.is_formed in
      after (identifier x p)
      (sign signs.EQUAL refl (after (inner t (record { is_formed = q; levels = f.levels })) (done refl)))
  typedef-spelled (decl.LabelDecl ns) f = let e = f.is_formed in absurd cc
  typedef-spelled (decl.ConstDecl x c) f = let e = f.is_formed in absurd cc
  typedef-spelled (decl.VarDecl xs t) f = let e = f.is_formed in absurd cc

  pub vardef-spelled : Spelling (vardef_form T) vars_are_formed decl_depth d
  unfolding vars_are_formed decl_depth
  vardef-spelled (decl.VarDecl xs t) f =
      let (p, q) = and-parts _ _ f.is_formed in
      after (idents-spelled xs p)
      (sign signs.COLON refl (after (inner t (record { is_formed = q; levels = f.levels })) (done refl)))
  vardef-spelled (decl.LabelDecl ns) f = let e = f.is_formed in absurd cc
  vardef-spelled (decl.ConstDecl x c) f = let e = f.is_formed in absurd cc
  vardef-spelled (decl.TypeDecl x t) f = let e = f.is_formed in absurd cc

-- ---- the parts of a block, without names

module _ {formed : DeclKind → Bool} {depth : DeclKind → ℕ} {d : ℕ} where
  ended-spelled : {K : Form DeclKind} → Spelling K formed depth d → (x : Decl)
      → Fits (of_kind formed) (of_kind depth) d x → Spelled (ended_form K) (unnamed_decl x) false
  ended-spelled inner x f =
      after (inner x.kind (record { is_formed = f.is_formed; levels = f.levels }))
      (sign signs.SEMICOLON refl (done refl))

  pub part-spelled : {K : Form DeclKind} (k : ℕ) → ltb k 35 ≡ true → Spelling K formed depth d → (ds : List Decl)
      → AllFit (of_kind formed) (of_kind depth) d ds → Spelled (decls_part (6 * k) K) (map unnamed_decl ds) false
  part-spelled k e inner [] f = right (done refl)
  part-spelled k e inner (x ∷ xs) f =
      left (word k e (some_items_as (λ y g. (false, ended-spelled inner y g)) (x ∷ xs)
      (record { is_formed = f.is_formed; levels = f.levels })))

pub label-part-spelled : (labels : Option Decl) → label_part_is_formed labels ≡ true
    → Spelled labels_part (option_map unnamed_decl labels) false
label-part-spelled None e = right (done refl)
label-part-spelled (Some x) e =
    left (word words.LABEL refl
    (after (after (labels-spelled (decl_depth x.kind) x.kind (record { is_formed = e; levels = omega arith }))
    (sign signs.SEMICOLON refl (done refl))) (done refl)))

-- ---- a declaration by itself

or-elim : {P : Type 0} (a b : Bool) → (a ≡ true → P) → (b ≡ true → P) → (a || b) ≡ true → P
or-elim true b f g e = f refl
or-elim false b f g e = g e

pub decl-spelled : (d : ℕ) (x : Decl) → Fits (of_kind decl_is_formed) (of_kind decl_depth) d x
    → Spelled (decl_at d) (unnamed_decl x) false
unfolding decl_at
decl-spelled d x f =
    after
    (or-elim _ _
    (or-elim _ _
    (or-elim _ _
    (λ e. left (word words.LABEL refl (labels-spelled d x.kind (record { is_formed = e; levels = f.levels }))))
    (λ e. right (left (word words.CONST refl
    (constdef-spelled d x.kind (record { is_formed = e; levels = f.levels }))))))
    (λ e. right (right (left
    (word words.TYPE refl
    (typedef-spelled d (type_at d) (type-spelled d) x.kind (record { is_formed = e; levels = f.levels })))))))
    (λ e. right (right (right
    (word words.VAR refl
    (vardef-spelled d (type_at d) (type-spelled d) x.kind (record { is_formed = e; levels = f.levels }))))))
    f.is_formed)
    (done refl)

-- ---- headings

section-spelled : (by_place : Bool) (xs : List (List ℕ)) (x : List ℕ)
    → section_is_formed (make_section by_place xs x) ≡ true → Spelled section_form (make_section by_place xs x) false
section-spelled true xs x e =
    let (p, q) = and-parts _ _ e in
    left (word words.VAR refl
    (after (idents-spelled xs p) (sign signs.COLON refl (after (identifier x q) (done refl)))))
section-spelled false xs x e =
    let (p, q) = and-parts _ _ e in
    right (after (idents-spelled xs p) (sign signs.COLON refl (after (identifier x q) (done refl))))

params-spelled : (ss : List Section) → all_formed (map section_is_formed ss) ≡ true → Spelled params_form ss false
params-spelled [] e = right (done refl)
params-spelled (s ∷ ss) e =
    left (sign signs.OPEN refl
    (after (flat_list signs.SEMICOLON refl (λ x f. section-spelled x.by_place x.idents x.shape f) (s ∷ ss) e)
    (sign signs.CLOSE refl (done refl))))

heading-of : (function : Bool) (x : List ℕ) (ss : List Section) (result : Option (List ℕ)) → is_identifier x ≡ true
    → all_formed (map section_is_formed ss) ≡ true
    → result_is_formed function ss result ≡ true → Spelled heading_form (make_heading function x ss result) false
heading-of false x ss None p q r =
    left (word words.PROCEDURE refl (after (identifier x p) (after (params-spelled ss q) (done refl))))
heading-of false x ss (Some y) p q r = absurd cc
heading-of true x [] None p q r = right (word words.FUNCTION refl (after (identifier x p) (right (done refl))))
heading-of true x (s ∷ ss) None p q r = absurd cc
heading-of true x ss (Some y) p q r =
    right (word words.FUNCTION refl
    (after (identifier x p)
    (left (after (params-spelled ss q) (sign signs.COLON refl (after (identifier y r) (done refl)))))))

pub heading-spelled : (h : Heading) → heading_is_formed h ≡ true → Spelled heading_form h false
heading-spelled h e =
    let (p, r) = and-parts _ _ e in
    let (x, ss) = and-parts _ _ p in
    heading-of h.function h.ident h.sections h.result x ss r
