-- A text that spells each value of which something holds, by one lemma for each way in which forms are made.
use Rattle.std.specs.Prelude.{◌≡◌, ◌≤◌, ℕ, ◌+◌, ◌*◌, ◌<◌, Bool, true, false, ◌==◌, ltb, List, [], ◌∷◌, ◌++◌, Option, Some}
use Rattle.std.proofs.Common.{map, refl, sym, ap, subst, arith, inl, inr}
use Rattle.std.proofs.lemmas.Bool.Decides.{nat_tests}
use Rattle.std.specs.List.{AllByRecursion}
use Rattle.dice_base.specs.declared.token.TokenKind.{TokenKind}
use Rattle.dice_base.specs.declared.token.TokenKind.TheVariants.{Word, Ident, Number, Str, Sign}
use Rattle.dice_base.specs.Tokens.{Toks, class_of, has_class}
use Rattle.dice_base.specs.Forms.{Form, just, one, token, chain, either, named, numeral, quoted, row, rows_behind, rows, some_rows, list_of, ended_list}
use Rattle.pascal_tree.specs.FormedExprs.{is_identifier, is_number, is_string, some_formed}
use Rattle.pascal_tree.specs.Depth.{most}
use Rattle.pascal_tree.specs.Sources.{HasLexeme}
use Rattle.expression_laws.specs.Spelled.{Spelled}
use Rattle.expression_laws.proofs.Words.{and-parts, ident_lexeme, number_lexeme, string_lexeme, word_lexeme, sign_lexeme}
use Rattle.expression_laws.proofs.Gives.{no_levels, Fits, AllFit, SomeFit, some-all, all-append}

-- ---- nothing, one form or another, and one after another

pub done : {A : Type 0} {a b : A} {w : Bool} → b ≡ a → Spelled (just a w) b w
done e = record { tokens = []; spell = (e, refl, refl); each = tt }

pub left : {A : Type 0} {g h : Form A} {a : A} {w : Bool} → Spelled g a w → Spelled (either g h) a w
left s = record { tokens = s.tokens; spell = inl s.spell; each = s.each }

pub right : {A : Type 0} {g h : Form A} {a : A} {w : Bool} → Spelled h a w → Spelled (either g h) a w
right s = record { tokens = s.tokens; spell = inr s.spell; each = s.each }

pub after : {A B : Type 0} {g : Form A} {h : A → Bool → Form B} {a : A} {w : Bool} {b : B} {v : Bool} → Spelled g a w
    → Spelled (h a w) b v → Spelled (chain g h) b v
after {a = a} {w = w} s r = record {
  tokens = s.tokens ++ r.tokens;
  spell = (a, w, s.tokens, r.tokens, refl, s.spell, r.spell);
  each = all-append HasLexeme s.tokens r.tokens s.each r.each;
}

-- ---- one token

abbrev some_of : {A : Type 0} → A → Option A
some_of a = Some a

pub single : {A : Type 0} {f : TokenKind → Option A} {a : A} (t : TokenKind) → f t ≡ some_of a → HasLexeme t
    → Spelled (one f) a false
single t e h = record { tokens = t ∷ []; spell = (t, refl, e, refl); each = (h, tt) }

pub identifier : (x : List ℕ) → is_identifier x ≡ true → Spelled named x false
identifier x e = single (Ident x) refl (ident_lexeme x e)

pub number : (n : ℕ) → is_number n ≡ true → Spelled numeral n false
number n e = single (Number n) refl (number_lexeme n e)

pub string : (x : List ℕ) → is_string x ≡ true → Spelled quoted x false
string x e = single (Str x) refl (string_lexeme x e)

class-has : (t : TokenKind) → has_class (class_of t) t ≡ some_of tt
class-has t = rw (eqb-same (class_of t)) refl where
  eqb-same : (n : ℕ) → (n == n) ≡ true
  eqb-same n = grind (arith, nat_tests)

below : (k n : ℕ) → ltb k n ≡ true → k < n
below k n e = grind (arith, nat_tests)

-- the word symbol or the sign with this number, and then the rest
pub word : {A : Type 0} {g : Form A} {a : A} {w : Bool} (k : ℕ) → ltb k 35 ≡ true → Spelled g a w
    → Spelled (token (6 * k) g) a w
word k e r = after (single (Word k) (class-has (Word k)) (word_lexeme k (below k 35 e))) r

pub sign : {A : Type 0} {g : Form A} {a : A} {w : Bool} (k : ℕ) → ltb k 20 ≡ true → Spelled g a w
    → Spelled (token (6 * k + 4) g) a w
sign k e r = after (single (Sign k) (class-has (Sign k)) (sign_lexeme k (below k 20 e))) r

-- an operator, by the number of its word symbol or sign
pub word_operator : {O : Type 0} {f : TokenKind → Option O} {o : O} (k : ℕ) → ltb k 35 ≡ true
    → f (Word k) ≡ some_of o → Spelled (one f) o false
word_operator k e is = single (Word k) is (word_lexeme k (below k 35 e))

pub sign_operator : {O : Type 0} {f : TokenKind → Option O} {o : O} (k : ℕ) → ltb k 20 ≡ true
    → f (Sign k) ≡ some_of o → Spelled (one f) o false
sign_operator k e is = single (Sign k) is (sign_lexeme k (below k 20 e))

-- ---- lists

-- an item, whatever its flag
abbrev pub Item : {A : Type 0} → Form A → A → Type 0
Item g a = (w : Bool) × Spelled g a w

-- this of each tree that is formed and has at most so many levels
abbrev pub CoversAs : {A B : Type 0} → Form B → (A → B) → (A → Bool) → (A → ℕ) → ℕ → Type 0
CoversAs {A} g view formed depth d = (a : A) → Fits formed depth d a → Item g (view a)

record Row {A : Type 0} (g : Form A) (xs : List A) : Type 0 where
  tokens : Toks
  spell : row g xs tokens
  each : AllByRecursion HasLexeme tokens

module _ {A : Type 0} {formed : A → Bool} {depth : A → ℕ} {d : ℕ} where
  pub fit-head : {a : A} {xs : List A} → AllFit formed depth d (a ∷ xs) → Fits formed depth d a
  fit-head f = record { is_formed = (and-parts _ _ f.is_formed).0; levels = omega (arith, f.levels) }

  pub fit-tail : {a : A} {xs : List A} → AllFit formed depth d (a ∷ xs) → AllFit formed depth d xs
  fit-tail f = record { is_formed = (and-parts _ _ f.is_formed).1; levels = omega (arith, f.levels) }

  no_item : SomeFit formed depth d [] → ⊥
  no_item f = let e = f.is_formed in cc

  module _ {B : Type 0} {view : A → B} where
    row_of : {g : Form B} → CoversAs g view formed depth d → (xs : List A) → AllFit formed depth d xs
        → Row g (map view xs)
    row_of inner [] f = record { tokens = []; spell = refl; each = tt }
    row_of {g} inner (a ∷ xs) f =
        let (w, s) = inner a (fit-head f) in
        let r = row_of inner xs (fit-tail f) in
        record {
          tokens = s.tokens ++ r.tokens;
          spell = (w, s.tokens, r.tokens, refl, s.spell, r.spell);
          each = all-append HasLexeme s.tokens r.tokens s.each r.each;
        }

    -- as many as there are
    pub items_as : {g : Form B} → CoversAs g view formed depth d → (xs : List A) → AllFit formed depth d xs
        → Spelled (rows g) (map view xs) false
    items_as inner xs f =
        let r = row_of inner xs f in
        record { tokens = r.tokens; spell = (map view xs, refl, r.spell, refl); each = r.each }

    -- behind a first one
    more_items : {g : Form B} → CoversAs g view formed depth d → (b : B) (xs : List A) → AllFit formed depth d xs
        → Spelled (rows_behind g (b ∷ [])) (b ∷ map view xs) false
    more_items inner b xs f =
        let r = row_of inner xs f in
        record { tokens = r.tokens; spell = (map view xs, refl, r.spell, refl); each = r.each }

    pub some_items_as : {g : Form B} → CoversAs g view formed depth d → (xs : List A) → SomeFit formed depth d xs
        → Spelled (some_rows g) (map view xs) false
    some_items_as inner [] f = absurd (no_item f)
    some_items_as inner (a ∷ xs) f =
        let (w, s) = inner a (fit-head (some-all (a ∷ xs) f)) in
        after s (more_items inner (view a) xs (fit-tail (some-all (a ∷ xs) f)))

    separated : {g : Form B} (k : ℕ) → ltb k 20 ≡ true → CoversAs g view formed depth d
        → CoversAs (token (6 * k + 4) g) view formed depth d
    separated k e inner = λ a f. let (w, s) = inner a f in (w, sign k e s)

    -- with this sign between
    pub list_as : {g : Form B} (k : ℕ) → ltb k 20 ≡ true → CoversAs g view formed depth d → (xs : List A)
        → SomeFit formed depth d xs → Spelled (list_of (6 * k + 4) g) (map view xs) false
    list_as k e inner [] f = absurd (no_item f)
    list_as k e inner (a ∷ xs) f =
        let (w, s) = inner a (fit-head (some-all (a ∷ xs) f)) in
        after s (more_items (separated k e inner) (view a) xs (fit-tail (some-all (a ∷ xs) f)))

    -- and none behind the last
    pub ended_as : {g : Form B} (k : ℕ) → ltb k 20 ≡ true → CoversAs g view formed depth d → (xs : List A)
        → SomeFit formed depth d xs → Spelled (ended_list (6 * k + 4) g) (map view xs) false
    ended_as k e inner [] f = absurd (no_item f)
    ended_as k e inner (a ∷ xs) f =
        let (w, s) = inner a (fit-head (some-all (a ∷ xs) f)) in
        after s (after (more_items (separated k e inner) (view a) xs (fit-tail (some-all (a ∷ xs) f)))
        (right (done refl)))

-- ---- trees

-- a text spells each tree that is formed and has at most so many levels
abbrev pub Spelling : {A : Type 0} → Form A → (A → Bool) → (A → ℕ) → ℕ → Type 0
Spelling {A} g formed depth d = (a : A) → Fits formed depth d a → Spelled g a false

map-self : {A : Type 0} (xs : List A) → map (λ a. a) xs ≡ xs
map-self [] = refl
map-self (a ∷ xs) = ap (λ ys. a ∷ ys) (map-self xs)

module _ {A : Type 0} {g : Form A} {formed : A → Bool} {depth : A → ℕ} {d : ℕ} where
  -- each tree is made of its layer
  pub whole : {X : Type 0} (roll : X → A) (out : A → X) → ((a : A) → roll (out a) ≡ a)
      → ((x : X) → Fits formed depth d (roll x) → Spelled g (roll x) false) → Spelling g formed depth d
  whole roll out is each =
      λ a f. subst (λ b. Spelled g b false) (is a) (each (out a) (subst (λ b. Fits formed depth d b) (sym (is a)) f))

  self : Spelling g formed depth d → CoversAs g (λ a. a) formed depth d
  self s = λ a f. (false, s a f)

  -- lists of them
  pub items : Spelling g formed depth d → (xs : List A) → AllFit formed depth d xs → Spelled (rows g) xs false
  items s xs f = subst (λ ys. Spelled (rows g) ys false) (map-self xs) (items_as (self s) xs f)

  pub list : (k : ℕ) → ltb k 20 ≡ true → Spelling g formed depth d → (xs : List A) → SomeFit formed depth d xs
      → Spelled (list_of (6 * k + 4) g) xs false
  list k e s xs f = subst (λ ys. Spelled (list_of (6 * k + 4) g) ys false) (map-self xs) (list_as k e (self s) xs f)

  pub ended : (k : ℕ) → ltb k 20 ≡ true → Spelling g formed depth d → (xs : List A) → SomeFit formed depth d xs
      → Spelled (ended_list (6 * k + 4) g) xs false
  ended k e s xs f =
      subst (λ ys. Spelled (ended_list (6 * k + 4) g) ys false) (map-self xs) (ended_as k e (self s) xs f)

-- ---- values without levels of their own

most-none : {A : Type 0} (xs : List A) → most (map no_levels xs) ≤ 0
most-none [] = omega arith
most-none (x ∷ xs) = omega (arith, most-none xs)

pub flat_list : {A : Type 0} {formed : A → Bool} {g : Form A} (k : ℕ) → ltb k 20 ≡ true
    → ((a : A) → formed a ≡ true → Spelled g a false)
    → (xs : List A) → some_formed (map formed xs) ≡ true → Spelled (list_of (6 * k + 4) g) xs false
flat_list {formed = formed} k e r xs is =
    list k e (λ a f. r a f.is_formed) xs (record { is_formed = is; levels = most-none xs })
