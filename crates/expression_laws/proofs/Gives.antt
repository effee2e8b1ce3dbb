-- What holds of each value that a text spells by a form, by one lemma for each way in which forms are made.
use Rattle.std.specs.Prelude.{◌≡◌, ℕ, ◌≤◌, Bool, true, List, [], ◌∷◌, ◌++◌, Option, Some, map}
use Rattle.std.proofs.Common.{refl, subst, arith, inl, inr}
use Rattle.std.specs.List.{AllByRecursion}
use Rattle.dice_base.specs.declared.token.TokenKind.{TokenKind}
use Rattle.dice_base.specs.declared.token.TokenKind.TheVariants.{Word, Ident, Number, Str, Sign, Hole}
use Rattle.dice_base.specs.Tokens.{Toks, ident_of, number_of, string_of}
use Rattle.dice_base.specs.Forms.{Form, never, just, one, chain, either, named, numeral, quoted, row, rows_behind, rows, some_rows, list_of, ended_list}
use Rattle.pascal_tree.specs.FormedExprs.{is_identifier, is_number, is_string, all_formed, some_formed}
use Rattle.pascal_tree.specs.Depth.{most}
use Rattle.pascal_tree.specs.Sources.{HasLexeme}
use Rattle.expression_laws.proofs.Words.{and-true, possible}

-- ---- what holds of each of some tokens

module _ (P : TokenKind → Type 0) where
  pub all-left : (x y : Toks) → AllByRecursion P (x ++ y) → AllByRecursion P x
  all-left [] y h = tt
  all-left (t ∷ x) y h = (h.0, all-left x y h.1)

  pub all-right : (x y : Toks) → AllByRecursion P (x ++ y) → AllByRecursion P y
  all-right [] y h = h
  all-right (t ∷ x) y h = all-right x y h.1

  pub all-append : (x y : Toks) → AllByRecursion P x → AllByRecursion P y → AllByRecursion P (x ++ y)
  all-append [] y h k = k
  all-append (t ∷ x) y h k = (h.0, all-append x y h.1 k)

-- ---- a tree is formed, and has at most so many levels; each tree of a list; and there is one or more

pub record Fits {A : Type 0} (formed : A → Bool) (depth : A → ℕ) (d : ℕ) (a : A) : Type 0 where
  pub is_formed : formed a ≡ true
  pub levels : depth a ≤ d

pub record AllFit {A : Type 0} (formed : A → Bool) (depth : A → ℕ) (d : ℕ) (xs : List A) : Type 0 where
  pub is_formed : all_formed (map formed xs) ≡ true
  pub levels : most (map depth xs) ≤ d

pub record SomeFit {A : Type 0} (formed : A → Bool) (depth : A → ℕ) (d : ℕ) (xs : List A) : Type 0 where
  pub is_formed : some_formed (map formed xs) ≡ true
  pub levels : most (map depth xs) ≤ d

pub fit-cons : {A : Type 0} {formed : A → Bool} {depth : A → ℕ} {d : ℕ} {a : A} {xs : List A} → Fits formed depth d a
    → AllFit formed depth d xs → AllFit formed depth d (a ∷ xs)
fit-cons f g = record { is_formed = and-true _ _ f.is_formed g.is_formed; levels = omega (arith, f.levels, g.levels) }

pub fit-some : {A : Type 0} {formed : A → Bool} {depth : A → ℕ} {d : ℕ} {a : A} {xs : List A} → Fits formed depth d a
    → AllFit formed depth d xs → SomeFit formed depth d (a ∷ xs)
fit-some f g = record { is_formed = and-true _ _ f.is_formed g.is_formed; levels = omega (arith, f.levels, g.levels) }

pub some-all : {A : Type 0} {formed : A → Bool} {depth : A → ℕ} {d : ℕ} (xs : List A) → SomeFit formed depth d xs
    → AllFit formed depth d xs
some-all [] f = let e = f.is_formed in absurd cc
some-all (a ∷ xs) f = record { is_formed = f.is_formed; levels = f.levels }

-- ---- the law, and the laws of forms made of others

-- it holds of what tokens of a text spell
pub record Gives {A : Type 0} (g : Form A) (Q : A → Bool → Type 0) : Type 0 where
  pub given : (a : A) (w : Bool) (u : Toks) → g.full a w u → AllByRecursion HasLexeme u → Q a w

pub give : {A : Type 0} {Q : A → Bool → Type 0} {a : A} {w : Bool} → Q a w → Gives (just a w) Q
give q = record { given = λ b v u h each. rw (h.0, h.1) q }

pub refused : {A : Type 0} {Q : A → Bool → Type 0} → Gives never Q
refused = record { given = λ a w u h each. absurd h }

pub choice : {A : Type 0} {Q : A → Bool → Type 0} {g h : Form A} → Gives g Q → Gives h Q → Gives (either g h) Q
choice {A} {Q} {g} {h} r s = record { given = split } where
  split : (a : A) (w : Bool) (u : Toks) → (either g h).full a w u → AllByRecursion HasLexeme u → Q a w
  split a w u (inl k) each = r.given a w u k each
  split a w u (inr k) each = s.given a w u k each

pub behind : {A B : Type 0} {P : A → Bool → Type 0} {Q : B → Bool → Type 0} {g : Form A} {h : A → Bool → Form B}
    → Gives g P → ((a : A) (w : Bool) → P a w → Gives (h a w) Q) → Gives (chain g h) Q
behind {A} {B} {P} {Q} {g} {h} r s = record { given = both } where
  both : (b : B) (v : Bool) (u : Toks) → (chain g h).full b v u → AllByRecursion HasLexeme u → Q b v
  both b v u (a, w, x, y, e, gx, hy) each =
      let parts = subst (λ (t : Toks). AllByRecursion HasLexeme t) e each in
      (s a w (r.given a w x gx (all-left HasLexeme x y parts))).given b v y hy (all-right HasLexeme x y parts)

pub weaken : {A : Type 0} {P Q : A → Bool → Type 0} {g : Form A} → Gives g P → ((a : A) (w : Bool) → P a w → Q a w)
    → Gives g Q
weaken r f = record { given = λ a w u h each. f a w (r.given a w u h each) }

-- ---- one token

abbrev pub Anything : {A : Type 0} → A → Bool → Type 0
Anything a w = Unit {0}

pub operator : {A : Type 0} {f : TokenKind → Option A} → Gives (one f) Anything
operator = record { given = λ a w u h each. tt }

-- a word symbol or a sign, and then the rest
pub mark : {A B : Type 0} {Q : A → Bool → Type 0} {f : TokenKind → Option B} {g : Form A} → Gives g Q
    → Gives (chain (one f) (λ x w. g)) Q
mark r = behind operator (λ x w any. r)

abbrev some_of : {A : Type 0} → A → Option A
some_of a = Some a

pub identifier : Gives named (λ x w. is_identifier x ≡ true)
identifier =
    record {
      given = λ x w u (t, e, gives, flag) each. holds t x gives
          (subst (λ (v : Toks). AllByRecursion HasLexeme v) e each).0;
    } where
      holds : (t : TokenKind) (x : List ℕ) → ident_of t ≡ some_of x → HasLexeme t → is_identifier x ≡ true
      holds (Ident y) x e h = let same : x ≡ y = cc in rw same (possible (Ident y) h)
      holds (Word k) x e h = absurd cc
      holds (Number n) x e h = absurd cc
      holds (Str y) x e h = absurd cc
      holds (Sign k) x e h = absurd cc
      holds Hole x e h = absurd cc

pub number : Gives numeral (λ n w. is_number n ≡ true)
number =
    record {
      given = λ n w u (t, e, gives, flag) each. holds t n gives
          (subst (λ (v : Toks). AllByRecursion HasLexeme v) e each).0;
    } where
      holds : (t : TokenKind) (n : ℕ) → number_of t ≡ some_of n → HasLexeme t → is_number n ≡ true
      holds (Number m) n e h = let same : n ≡ m = cc in rw same (possible (Number m) h)
      holds (Word k) n e h = absurd cc
      holds (Ident x) n e h = absurd cc
      holds (Str x) n e h = absurd cc
      holds (Sign k) n e h = absurd cc
      holds Hole n e h = absurd cc

pub string : Gives quoted (λ x w. is_string x ≡ true)
string =
    record {
      given = λ x w u (t, e, gives, flag) each. holds t x gives
          (subst (λ (v : Toks). AllByRecursion HasLexeme v) e each).0;
    } where
      holds : (t : TokenKind) (x : List ℕ) → string_of t ≡ some_of x → HasLexeme t → is_string x ≡ true
      holds (Str y) x e h = let same : x ≡ y = cc in rw same (possible (Str y) h)
      holds (Word k) x e h = absurd cc
      holds (Ident y) x e h = absurd cc
      holds (Number n) x e h = absurd cc
      holds (Sign k) x e h = absurd cc
      holds Hole x e h = absurd cc

-- ---- lists

abbrev pub Fitting : {A : Type 0} → (A → Bool) → (A → ℕ) → ℕ → A → Bool → Type 0
Fitting formed depth d a w = Fits formed depth d a

module _ {A : Type 0} {formed : A → Bool} {depth : A → ℕ} {d : ℕ} where
  row-given : (g : Form A) → Gives g (Fitting formed depth d) → (xs : List A) (u : Toks) → row g xs u
      → AllByRecursion HasLexeme u → AllFit formed depth d xs
  row-given g r [] u h each = record { is_formed = refl; levels = omega arith }
  row-given g r (a ∷ xs) u (w, x, y, e, gx, rest) each =
      let parts = subst (λ (t : Toks). AllByRecursion HasLexeme t) e each in
      fit-cons (r.given a w x gx (all-left HasLexeme x y parts))
      (row-given g r xs y rest (all-right HasLexeme x y parts))

  -- as many items as there are
  pub items : {g : Form A} → Gives g (Fitting formed depth d) → Gives (rows g) (λ xs w. AllFit formed depth d xs)
  items {g} r = record {
    given = λ xs w u (more, made, h, flag) each. rw made (row-given g r more u h each);
  }

  -- behind a first one
  pub more_items : {g : Form A} {a : A} → Gives g (Fitting formed depth d) → Fits formed depth d a
      → Gives (rows_behind g (a ∷ [])) (λ xs w. SomeFit formed depth d xs)
  more_items {g} {a} r f = record {
    given = λ xs w u (more, made, h, flag) each. rw made (fit-some f (row-given g r more u h each));
  }

  pub some_items : {g : Form A} → Gives g (Fitting formed depth d)
      → Gives (some_rows g) (λ xs w. SomeFit formed depth d xs)
  some_items r = behind r (λ a w f. more_items r f)

  pub list : {g : Form A} (c : ℕ) → Gives g (Fitting formed depth d)
      → Gives (list_of c g) (λ xs w. SomeFit formed depth d xs)
  list c r = behind r (λ a w f. more_items (mark r) f)

  pub ended : {g : Form A} (c : ℕ) → Gives g (Fitting formed depth d)
      → Gives (ended_list c g) (λ xs w. SomeFit formed depth d xs)
  ended c r = behind r (λ a w f. behind (more_items (mark r) f) (λ xs w f. choice (mark (give f)) (give f)))

-- ---- values without levels of their own

abbrev pub no_levels : {A : Type 0} → A → ℕ
no_levels a = 0

-- each of a list
abbrev pub AreFormed : {A : Type 0} → (A → Bool) → List A → Bool → Type 0
AreFormed formed xs w = some_formed (map formed xs) ≡ true

pub flat_list : {A : Type 0} {formed : A → Bool} {g : Form A} (c : ℕ) → Gives g (λ a w. formed a ≡ true)
    → Gives (list_of c g) (AreFormed formed)
flat_list {A} {formed} {g} c r =
    weaken (list c (weaken r fit)) (λ xs w f. f.is_formed)
  where
    fit : (a : A) (w : Bool) → formed a ≡ true → Fits formed no_levels 0 a
    fit a w e = record { is_formed = e; levels = omega arith }
