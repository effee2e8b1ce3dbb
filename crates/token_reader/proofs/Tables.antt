-- What the tests of tables show.
use Rattle.std.specs.Prelude.{◌≡◌, ◌⊎◌, ℕ, Bool, true, false, [], ◌∷◌, ◌++◌}
use Rattle.std.proofs.Common.{refl, sym, subst, ◌∙◌, inl, inr, cond, eqb}
use Rattle.std.proofs.lemmas.Bool.{cases_Bool, eqb-true}
use Rattle.dice_base.specs.Tokens.{Classes, is_in}
use Rattle.token_reader.specs.Tables.{within, clear}

abbrev pub Sub : Classes → Classes → Type 0
Sub A B = (c : ℕ) → is_in A c ≡ true → is_in B c ≡ true

abbrev pub Apart : Classes → Classes → Type 0
Apart A B = (c : ℕ) → is_in A c ≡ true → is_in B c ≡ false

false_not : {X : Type 0} → (b : Bool) → b ≡ false → b ≡ true → X
false_not b e f = let no : true ≡ false = sym f ∙ e in absurd cc

pub within_sub : (A B : Classes) → within A B ≡ true → Sub A B
within_sub [] B e c is = absurd cc
within_sub (k ∷ ks) B e c is =
    elim (cases_Bool (is_in B k)) [
      | inl here ↦ elim (cases_Bool (eqb c k)) [
        | inl same ↦ subst (λ (x : ℕ). is_in B x ≡ true) (sym (eqb-true c k same)) here
        | inr other ↦ within_sub ks B (rw here at e) c (rw other at is)
      ]
      | inr gone ↦ (let no : false ≡ true = rw gone at e in absurd cc)
    ]

pub clear_apart : (A B : Classes) → clear A B ≡ true → Apart A B
clear_apart [] B e c is = absurd cc
clear_apart (k ∷ ks) B e c is =
    elim (cases_Bool (is_in B k)) [
      | inl here ↦ (let no : false ≡ true = rw here at e in absurd cc)
      | inr gone ↦ elim (cases_Bool (eqb c k)) [
        | inl same ↦ subst (λ (x : ℕ). is_in B x ≡ false) (sym (eqb-true c k same)) gone
        | inr other ↦ clear_apart ks B (rw gone at e) c (rw other at is)
      ]
    ]

-- what is in two tables, one behind the other
pub in_both : (A B : Classes) (c : ℕ) → is_in (A ++ B) c ≡ cond (is_in A c) true (is_in B c)
in_both [] B c = refl
in_both (k ∷ ks) B c =
    elim (cases_Bool (eqb c k)) [
      | inl same ↦ rw same refl
      | inr other ↦ rw other (in_both ks B c)
    ]

pub in_left : (A B : Classes) (c : ℕ) → is_in A c ≡ true → is_in (A ++ B) c ≡ true
in_left A B c e = rw (in_both A B c, e) refl

pub in_right : (A B : Classes) (c : ℕ) → is_in B c ≡ true → is_in (A ++ B) c ≡ true
in_right A B c e =
    elim (cases_Bool (is_in A c)) [
      | inl here ↦ in_left A B c here
      | inr gone ↦ rw (in_both A B c, gone) e
    ]

pub in_cases : (A B : Classes) (c : ℕ) → is_in (A ++ B) c ≡ true → (is_in A c ≡ true) ⊎ (is_in B c ≡ true)
in_cases A B c e =
    elim (cases_Bool (is_in A c)) [
      | inl here ↦ inl here
      | inr gone ↦ inr (rw (in_both A B c, gone) at e)
    ]

pub sub_same : (A : Classes) → Sub A A
sub_same A c e = e

pub sub_tail : (k : ℕ) (A : Classes) → Sub A (k ∷ A)
sub_tail k A c e =
    elim (cases_Bool (eqb c k)) [
      | inl same ↦ rw same refl
      | inr other ↦ rw other e
    ]
