-- A declaration and a heading that a text spells is formed, and has no more levels than it is spelled with.
use Rattle.std.specs.Prelude.{◌≡◌, ℕ, Bool, true, false, ◌||◌, List, [], ◌∷◌, map}
use Rattle.std.proofs.Common.{refl, arith}
use Rattle.dice_base.specs.Forms.{Form}
use Rattle.pascal_tree.specs.Classes.{comma_class, semicolon_class}
use Rattle.pascal_tree.specs.declared.typing.TypeText.{TypeText}
use Rattle.pascal_tree.specs.declared.decl.Decl.{Decl}
use Rattle.pascal_tree.specs.declared.decl.DeclKind.{DeclKind}
use Rattle.pascal_tree.specs.declared.decl.Section.{Section}
use Rattle.pascal_tree.specs.Declarations.{labels_form, constdef_form, typedef_form, vardef_form, decl_at, type_at, section_in, section_form, params_form, procedure_in, function_in, heading_form}
use Rattle.pascal_tree.specs.Programs.{ended_form, labels_part, decls_part}
use Rattle.pascal_tree.specs.FormedExprs.{all_formed}
use Rattle.pascal_tree.specs.Formed.{type_is_formed, labels_are_formed, const_is_formed, typedef_is_formed, vars_are_formed, decl_is_formed, label_part_is_formed, section_is_formed, heading_is_formed}
use Rattle.pascal_tree.specs.Depth.{type_depth, decl_depth}
use Rattle.expression_laws.proofs.Words.{and-true}
use Rattle.expression_laws.proofs.Gives.{Fits, AllFit, Gives, Fitting, AreFormed, some-all, give, choice, behind, weaken, mark, identifier, number, some_items, flat_list}
use Rattle.tree_laws.proofs.TypeGives.{constant-gives, idents-gives, type-gives}

-- ---- declarations, where T is a type at the level of the block

pub labels-gives : (d : ℕ) → Gives labels_form (Fitting labels_are_formed decl_depth d)
unfolding labels_are_formed decl_depth
labels-gives d =
    behind (flat_list comma_class number) (λ ns w e. give (record { is_formed = e; levels = omega arith }))

pub constdef-gives : (d : ℕ) → Gives constdef_form (Fitting const_is_formed decl_depth d)
unfolding const_is_formed decl_depth
constdef-gives d =
    behind identifier (λ x w e. mark (behind constant-gives (λ c v f.
    give (record { is_formed = and-true _ _ e f; levels = omega arith }))))

module _ (d : ℕ) (T : Form TypeText) (inner : Gives T (Fitting type_is_formed type_depth d)) where
  pub typedef-gives : Gives (typedef_form T) (Fitting typedef_is_formed decl_depth d)
  unfolding typedef_is_formed decl_depth
  typedef-gives =
      behind identifier (λ x w e. mark (behind inner (λ t v f.
      give (record { is_formed = and-true _ _ e f.is_formed; levels = f.levels }))))

  pub vardef-gives : Gives (vardef_form T) (Fitting vars_are_formed decl_depth d)
  unfolding vars_are_formed decl_depth
  vardef-gives =
      behind idents-gives (λ xs w e. mark (behind inner (λ t v f.
      give (record { is_formed = and-true _ _ e f.is_formed; levels = f.levels }))))

-- ---- the parts of a block

-- this of the kind of a declaration
abbrev pub of_kind : {B : Type 0} → (DeclKind → B) → Decl → B
of_kind f d = f d.kind

module _ {formed : DeclKind → Bool} {depth : DeclKind → ℕ} {d : ℕ} where
  ended-gives : {K : Form DeclKind} → Gives K (Fitting formed depth d)
      → Gives (ended_form K) (Fitting (of_kind formed) (of_kind depth) d)
  ended-gives inner = behind inner (λ kind w f. mark (give (record { is_formed = f.is_formed; levels = f.levels })))

  pub part-gives : {K : Form DeclKind} (word : ℕ) → Gives K (Fitting formed depth d)
      → Gives (decls_part word K) (λ ds w. AllFit (of_kind formed) (of_kind depth) d ds)
  part-gives word inner =
      choice (mark (weaken (some_items (ended-gives inner)) (λ ds w f. some-all ds f)))
      (give (record { is_formed = refl; levels = omega arith }))

pub label-part-gives : Gives labels_part (λ labels w. label_part_is_formed labels ≡ true)
label-part-gives = choice (mark (behind (ended-gives (labels-gives 0)) (λ d w f. give f.is_formed))) (give refl)

-- ---- a declaration by itself

module _ (d : ℕ) where
  or-left : (a b : Bool) → a ≡ true → (a || b) ≡ true
  or-left a b e = rw e refl

  or-right : (a b : Bool) → b ≡ true → (a || b) ≡ true
  or-right true b e = refl
  or-right false b e = e

  labels-decl : (k : DeclKind) → Fits labels_are_formed decl_depth d k → Fits decl_is_formed decl_depth d k
  labels-decl k f = record { is_formed = or-left _ _ (or-left _ _ (or-left _ _ f.is_formed)); levels = f.levels }

  const-decl : (k : DeclKind) → Fits const_is_formed decl_depth d k → Fits decl_is_formed decl_depth d k
  const-decl k f = record { is_formed = or-left _ _ (or-left _ _ (or-right _ _ f.is_formed)); levels = f.levels }

  type-decl : (k : DeclKind) → Fits typedef_is_formed decl_depth d k → Fits decl_is_formed decl_depth d k
  type-decl k f = record { is_formed = or-left _ _ (or-right _ _ f.is_formed); levels = f.levels }

  vars-decl : (k : DeclKind) → Fits vars_are_formed decl_depth d k → Fits decl_is_formed decl_depth d k
  vars-decl k f = record { is_formed = or-right _ _ f.is_formed; levels = f.levels }

  pub decl-gives : Gives (decl_at d) (Fitting (of_kind decl_is_formed) (of_kind decl_depth) d)
  unfolding decl_at
  decl-gives =
      behind {P = Fitting decl_is_formed decl_depth d}
      (choice (mark (weaken (labels-gives d) (λ k w f. labels-decl k f)))
      (choice (mark (weaken (constdef-gives d) (λ k w f. const-decl k f)))
      (choice (mark (weaken (typedef-gives d (type_at d) (type-gives d)) (λ k w f. type-decl k f)))
      (mark (weaken (vardef-gives d (type_at d) (type-gives d)) (λ k w f. vars-decl k f))))))
      (λ kind w f. give (record { is_formed = f.is_formed; levels = f.levels }))

-- ---- headings

section-in-gives : (by_place : Bool) → Gives (section_in by_place) (λ s w. section_is_formed s ≡ true)
section-in-gives by_place =
    behind idents-gives (λ xs w e. mark (behind identifier (λ x v f. give (and-true _ _ e f))))

section-gives : Gives section_form (λ s w. section_is_formed s ≡ true)
section-gives = choice (mark (section-in-gives true)) (section-in-gives false)

some-all-formed : (ss : List Section) → (w : Bool) → AreFormed section_is_formed ss w
    → all_formed (map section_is_formed ss) ≡ true
some-all-formed [] w e = absurd cc
some-all-formed (s ∷ ss) w e = e

params-gives : Gives params_form (λ ss w. all_formed (map section_is_formed ss) ≡ true)
params-gives =
    choice (mark (behind (flat_list semicolon_class section-gives) (λ ss w e. mark (give (some-all-formed ss w e)))))
    (give refl)

procedure-gives : Gives procedure_in (λ h w. heading_is_formed h ≡ true)
procedure-gives =
    behind identifier (λ x w e. behind params-gives (λ ss v f. give (and-true _ _ (and-true _ _ e f) refl)))

function-gives : Gives function_in (λ h w. heading_is_formed h ≡ true)
function-gives =
    behind identifier (λ x w e.
    choice (behind params-gives
    (λ ss v f. mark (behind identifier (λ r u g. give (and-true _ _ (and-true _ _ e f) g)))))
    (give (and-true _ _ (and-true _ _ e refl) refl)))

pub heading-gives : Gives heading_form (λ h w. heading_is_formed h ≡ true)
heading-gives = choice (mark procedure-gives) (mark function-gives)
