-- A value that some tokens spell is spelled by its own tokens too, and each of these is one of those. One lemma for
-- each way in which forms are made.
use Rattle.std.specs.Prelude.{◌≡◌, ℕ, ◌+◌, ◌*◌, Bool, true, false, cond, ◌==◌, List, [], ◌∷◌, ◌++◌, Option, Some, None, map}
use Rattle.std.proofs.Common.{refl, sym, ap, subst, ◌∙◌, arith, inl, inr, eqb-true, append-nil}
use Rattle.std.specs.List.{AllByRecursion}
use Rattle.dice_base.specs.declared.token.TokenKind.{TokenKind}
use Rattle.dice_base.specs.declared.token.TokenKind.TheVariants.{Word, Ident, Number, Str, Sign, Hole}
use Rattle.dice_base.proofs.Appended.{all-left, all-right, all-append}
use Rattle.dice_base.specs.Tokens.{Toks, class_of, has_class, operator, operator_of, ident_of, number_of, string_of}
use Rattle.dice_base.specs.Forms.{Form, never, just, one, token, chain, either, named, numeral, quoted, row, rows_behind, rows, some_rows, list_of, ended_list}
use Rattle.dice_base.specs.declared.symbols.signs.TheConstants as signs
use Rattle.dice_base.specs.Symbols.{open_sign, close_sign}
use Rattle.pascal_tree.specs.Classes.{open_class, close_class}
use Rattle.pascal_tree.specs.Joined.{flat, behind_each, join}
use Rattle.pascal_tree.specs.ExprTokens.{in_parens}

abbrev pub some_of : {A : Type 0} → A → Option A
some_of a = Some a

-- ---- the one token of a class

word_token : (t : TokenKind) (k : ℕ) → class_of t ≡ 6 * k → t ≡ Word k
word_token (Word j) k e = ap Word (omega (arith, e))
word_token (Ident x) k e = absurd (omega (arith, e))
word_token (Number n) k e = absurd (omega (arith, e))
word_token (Str x) k e = absurd (omega (arith, e))
word_token (Sign j) k e = absurd (omega (arith, e))
word_token Hole k e = absurd (omega (arith, e))

sign_token : (t : TokenKind) (k : ℕ) → class_of t ≡ 6 * k + 4 → t ≡ Sign k
sign_token (Word j) k e = absurd (omega (arith, e))
sign_token (Ident x) k e = absurd (omega (arith, e))
sign_token (Number n) k e = absurd (omega (arith, e))
sign_token (Str x) k e = absurd (omega (arith, e))
sign_token (Sign j) k e = ap Sign (omega (arith, e))
sign_token Hole k e = absurd (omega (arith, e))

-- the class is that of this token alone
pub record IsClassOf (c : ℕ) (s : TokenKind) : Type 0 where
  pub alone : (t : TokenKind) → class_of t ≡ c → t ≡ s

pub word_is : (k : ℕ) → IsClassOf (6 * k) (Word k)
word_is k = record { alone = λ t e. word_token t k e }

pub sign_is : (k : ℕ) → IsClassOf (6 * k + 4) (Sign k)
sign_is k = record { alone = λ t e. sign_token t k e }

has-class : (c : ℕ) (t : TokenKind) (x : Unit {0}) → has_class c t ≡ some_of x → class_of t ≡ c
has-class c t x e = go (class_of t == c) refl e where
  go : (b : Bool) → (class_of t == c) ≡ b → cond b (some_of tt) None ≡ some_of x → class_of t ≡ c
  go true is known = eqb-true (class_of t) c is
  go false is known = absurd cc

-- each value of a table is one token, which alone has the class beside it
abbrev pub AreClasses : {O : Type 0} → (O → Toks) → List (ℕ × O) → Type 0
AreClasses own [] = Unit {0}
AreClasses own (e ∷ table) = (s : TokenKind) × (own e.1 ≡ s ∷ []) × IsClassOf e.0 s × AreClasses own table

operator-token : {O : Type 0} (own : O → Toks) (table : List (ℕ × O)) → AreClasses own table
    → (t : TokenKind) (o : O) → operator table (class_of t) ≡ some_of o → own o ≡ t ∷ []
operator-token own [] each t o e = absurd cc
operator-token {O} own (x ∷ table) (s, is, class, each) t o e =
    go (operator-token own table each t o) (class_of t == x.0) refl e where
      go : (operator table (class_of t) ≡ some_of o → own o ≡ t ∷ []) → (b : Bool) → (class_of t == x.0) ≡ b
          → cond b (some_of x.1) (operator table (class_of t)) ≡ some_of o → own o ≡ t ∷ []
      go later true same known =
          let value : x.1 ≡ o = cc in
          sym (ap own value) ∙ is
          ∙ ap (λ (v : TokenKind). v ∷ []) (sym (class.alone t (eqb-true (class_of t) x.0 same)))
      go later false same known = later known

-- ---- the law, and the laws of forms made of others

-- the tokens of the value are `before` of these, which spell it as the others do; and where P holds of each of the
-- others, it holds of each of these
pub record Rewritten {A : Type 0} (P : TokenKind → Type 0) (before : Toks → Toks) (g : Form A) (own : A → Toks)
    (a : A) (w : Bool) (u : Toks) : Type 0 where
  pub tokens : Toks
  pub are : own a ≡ before tokens
  pub spell : g.full a w tokens
  pub among : AllByRecursion P u → AllByRecursion P tokens

-- behind tokens that spell the parts before it, what the form spells is spelled by the rest of the own tokens
pub record Writes {A : Type 0} (P : TokenKind → Type 0) (before : Toks → Toks) (g : Form A)
    (own : A → Toks) : Type 0 where
  pub rewritten : (a : A) (w : Bool) (u : Toks) → g.full a w u → Rewritten P before g own a w u

-- what the form spells is spelled by its own tokens
abbrev pub Written : {A : Type 0} → (TokenKind → Type 0) → Form A → (A → Toks) → Type 0
Written P g own = Writes P (λ u. u) g own

separate : {A : Type 0} (s : TokenKind) (item : A → Toks) (xs : List A) → behind_each (s ∷ []) (map item xs)
    ≡ flat (map (λ a. s ∷ item a) xs)
separate s item [] = refl
separate s item (x ∷ xs) = ap (λ (t : Toks). s ∷ (item x ++ t)) (separate s item xs)

-- a list without its first item
abbrev others : {A : Type 0} → List A → List A
others [] = []
others (x ∷ xs) = xs

-- a list that tokens spell has an item
pub in-parens : {A : Type 0} (c : ℕ) (g : Form A) (s : TokenKind) (item : A → Toks) (xs : List A) (w : Bool)
    (u : Toks) → (list_of c g).full xs w u
    → in_parens s (map item xs) ≡ open_sign ∷ (join (s ∷ []) (map item xs) ++ close_sign ∷ [])
in-parens c g s item [] w u (a, v, x, y, e, ga, (more, made, r, flag)) = absurd cc
in-parens c g s item (x ∷ xs) w u h = refl

module _ {P : TokenKind → Type 0} where
  pub own-spell : {A : Type 0} {g : Form A} {own : A → Toks} → Written P g own → (a : A) (w : Bool) (u : Toks)
      → g.full a w u → g.full a w (own a)
  own-spell {A} {g} {own} r a w u h =
      let x = r.rewritten a w u h in subst (λ (t : Toks). g.full a w t) (sym x.are) x.spell

  pub own-among : {A : Type 0} {g : Form A} {own : A → Toks} → Written P g own → (a : A) (w : Bool) (u : Toks)
      → g.full a w u → AllByRecursion P u → AllByRecursion P (own a)
  own-among {A} {g} {own} r a w u h all =
      let x = r.rewritten a w u h in subst (λ (t : Toks). AllByRecursion P t) (sym x.are) (x.among all)

  -- ---- nothing, and what is never spelled

  pub done : {A : Type 0} {before : Toks → Toks} {own : A → Toks} {a : A} {w : Bool} → own a ≡ before []
      → Writes P before (just a w) own
  done {A} {before} {own} {a} {w} is =
      record {
        rewritten = λ b v u h.
            record { tokens = []; are = ap own h.0 ∙ is; spell = (h.0, h.1, refl); among = λ all. tt };
      }

  pub refused : {A : Type 0} {before : Toks → Toks} {own : A → Toks} → Writes P before never own
  refused = record { rewritten = λ a w u h. absurd h }

  -- ---- one form or another

  pub choice : {A : Type 0} {before : Toks → Toks} {g h : Form A} {own : A → Toks} → Writes P before g own
      → Writes P before h own → Writes P before (either g h) own
  choice {A} {before} {g} {h} {own} r s = record { rewritten = split } where
    split : (a : A) (w : Bool) (u : Toks) → (either g h).full a w u → Rewritten P before (either g h) own a w u
    split a w u (inl k) =
        let x = r.rewritten a w u k in
        record { tokens = x.tokens; are = x.are; spell = inl x.spell; among = x.among }
    split a w u (inr k) =
        let x = s.rewritten a w u k in
        record { tokens = x.tokens; are = x.are; spell = inr x.spell; among = x.among }

  -- ---- one form and then another, which may know that the first has spelled its value

  pub behind_known : {A B : Type 0} {before : Toks → Toks} {g : Form A} {h : A → Bool → Form B}
      {first : A → Toks} {own : B → Toks}
      → Written P g first
      → ((a : A) (w : Bool) (u : Toks) → g.full a w u → Writes P (λ z. before (first a ++ z)) (h a w) own)
      → Writes P before (chain g h) own
  behind_known {A} {B} {before} {g} {h} {first} {own} r s = record { rewritten = both } where
    both : (b : B) (v : Bool) (u : Toks) → (chain g h).full b v u → Rewritten P before (chain g h) own b v u
    both b v u (a, w, x, y, e, gx, hy) =
        let z = (s a w x gx).rewritten b v y hy in
        record {
          tokens = first a ++ z.tokens;
          are = z.are;
          spell = (a, w, first a, z.tokens, refl, own-spell r a w x gx, z.spell);
          among = λ all.
              (let parts = subst (λ (t : Toks). AllByRecursion P t) e all in
              all-append P (first a) z.tokens (own-among r a w x gx (all-left P x y parts))
              (z.among (all-right P x y parts)));
        }

  pub behind : {A B : Type 0} {before : Toks → Toks} {g : Form A} {h : A → Bool → Form B} {first : A → Toks}
      {own : B → Toks}
      → Written P g first → ((a : A) (w : Bool) → Writes P (λ z. before (first a ++ z)) (h a w) own)
      → Writes P before (chain g h) own
  behind r s = behind_known r (λ a w u gx. s a w)

  -- and behind which nothing comes
  pub last_known : {A B : Type 0} {before : Toks → Toks} {g : Form A} {make : A → Bool → B}
      {flag : A → Bool → Bool} {first : A → Toks} {own : B → Toks}
      → Written P g first
      → ((a : A) (w : Bool) (u : Toks) → g.full a w u → own (make a w) ≡ before (first a))
      → Writes P before (chain g (λ a w. just (make a w) (flag a w))) own
  last_known {A} {B} {before} {g} {make} {flag} {first} {own} r is =
      behind_known r (λ a w u gx. done (is a w u gx ∙ ap before (sym (append-nil (first a)))))

  pub last : {A B : Type 0} {before : Toks → Toks} {g : Form A} {make : A → Bool → B} {flag : A → Bool → Bool}
      {first : A → Toks} {own : B → Toks}
      → Written P g first → ((a : A) (w : Bool) → own (make a w) ≡ before (first a))
      → Writes P before (chain g (λ a w. just (make a w) (flag a w))) own
  last r is = last_known r (λ a w u gx. is a w)

  -- ---- one token

  pub single : {A : Type 0} {f : TokenKind → Option A} {own : A → Toks}
      → ((t : TokenKind) (a : A) → f t ≡ some_of a → own a ≡ t ∷ []) → Written P (one f) own
  single {A} {f} {own} is = record {
    rewritten = λ a w u h.
        (let (t, e, gives, flag) = h in
        record {
          tokens = t ∷ [];
          are = is t a gives;
          spell = (t, refl, gives, flag);
          among = λ all. subst (λ (v : Toks). AllByRecursion P v) e all;
        });
  }

  of_class : {c : ℕ} {s : TokenKind} → IsClassOf c s → Written P (one (has_class c)) (λ x. s ∷ [])
  of_class {c} {s} is = single (λ t x e. ap (λ (v : TokenKind). v ∷ []) (sym (is.alone t (has-class c t x e))))

  -- the token of a class, a word symbol, or a sign, and then the rest
  pub mark : {A : Type 0} {before : Toks → Toks} {c : ℕ} {s : TokenKind} {g : Form A} {own : A → Toks}
      → IsClassOf c s → Writes P (λ z. before (s ∷ z)) g own → Writes P before (token c g) own
  mark is r = behind (of_class is) (λ x w. r)

  pub word : {A : Type 0} {before : Toks → Toks} {g : Form A} {own : A → Toks} (k : ℕ)
      → Writes P (λ z. before (Word k ∷ z)) g own → Writes P before (token (6 * k) g) own
  word k r = mark (word_is k) r

  pub sign : {A : Type 0} {before : Toks → Toks} {g : Form A} {own : A → Toks} (k : ℕ)
      → Writes P (λ z. before (Sign k ∷ z)) g own → Writes P before (token (6 * k + 4) g) own
  sign k r = mark (sign_is k) r

  pub operators : {O : Type 0} (own : O → Toks) (table : List (ℕ × O)) → AreClasses own table
      → Written P (one (operator_of table)) own
  operators own table each = single (λ t o e. operator-token own table each t o e)

  pub identifier : Written P named (λ x. Ident x ∷ [])
  identifier = single gives where
    gives : (t : TokenKind) (x : List ℕ) → ident_of t ≡ some_of x → Ident x ∷ [] ≡ t ∷ []
    gives (Ident y) x e = let same : x ≡ y = cc in ap (λ (z : List ℕ). Ident z ∷ []) same
    gives (Word k) x e = absurd cc
    gives (Number n) x e = absurd cc
    gives (Str y) x e = absurd cc
    gives (Sign k) x e = absurd cc
    gives Hole x e = absurd cc

  pub number : Written P numeral (λ n. Number n ∷ [])
  number = single gives where
    gives : (t : TokenKind) (n : ℕ) → number_of t ≡ some_of n → Number n ∷ [] ≡ t ∷ []
    gives (Number m) n e = let same : n ≡ m = cc in ap (λ (z : ℕ). Number z ∷ []) same
    gives (Word k) n e = absurd cc
    gives (Ident x) n e = absurd cc
    gives (Str x) n e = absurd cc
    gives (Sign k) n e = absurd cc
    gives Hole n e = absurd cc

  pub string : Written P quoted (λ x. Str x ∷ [])
  string = single gives where
    gives : (t : TokenKind) (x : List ℕ) → string_of t ≡ some_of x → Str x ∷ [] ≡ t ∷ []
    gives (Str y) x e = let same : x ≡ y = cc in ap (λ (z : List ℕ). Str z ∷ []) same
    gives (Word k) x e = absurd cc
    gives (Ident y) x e = absurd cc
    gives (Number n) x e = absurd cc
    gives (Sign k) x e = absurd cc
    gives Hole x e = absurd cc

  -- ---- lists

  after : {A : Type 0} {g : Form A} {own : A → Toks} (before : Toks → Toks) → Written P g own
      → Writes P before g (λ a. before (own a))
  after before r =
      record {
        rewritten = λ a w u h.
            (let x = r.rewritten a w u h in
            record { tokens = x.tokens; are = ap before x.are; spell = x.spell; among = x.among });
      }

  row-spell : {A : Type 0} {g : Form A} {own : A → Toks} → Written P g own → (xs : List A) (u : Toks)
      → row g xs u → row g xs (flat (map own xs))
  row-spell r [] u h = refl
  row-spell {A} {g} {own} r (a ∷ xs) u (w, x, y, e, ga, more) =
      (w, own a, flat (map own xs), refl, own-spell r a w x ga, row-spell r xs y more)

  row-among : {A : Type 0} {g : Form A} {own : A → Toks} → Written P g own → (xs : List A) (u : Toks)
      → row g xs u → AllByRecursion P u → AllByRecursion P (flat (map own xs))
  row-among r [] u h all = tt
  row-among {A} {g} {own} r (a ∷ xs) u (w, x, y, e, ga, more) all =
      let parts = subst (λ (t : Toks). AllByRecursion P t) e all in
      all-append P (own a) (flat (map own xs)) (own-among r a w x ga (all-left P x y parts))
      (row-among r xs y more (all-right P x y parts))

  -- items behind those that were found
  items_behind : {A : Type 0} {before : Toks → Toks} {g : Form A} {item : A → Toks} {own : List A → Toks}
      (found : List A)
      → Written P g item → ((more : List A) → own (found ++ more) ≡ before (flat (map item more)))
      → Writes P before (rows_behind g found) own
  items_behind {A} {before} {g} {item} {own} found r is = record { rewritten = items } where
    items : (xs : List A) (w : Bool) (u : Toks) → (rows_behind g found).full xs w u
        → Rewritten P before (rows_behind g found) own xs w u
    items xs w u (more, made, h, flag) = record {
      tokens = flat (map item more);
      are = ap own made ∙ is more;
      spell = (more, made, row-spell r more u h, flag);
      among = row-among r more u h;
    }

  pub items : {A : Type 0} {g : Form A} {item : A → Toks} → Written P g item
      → Written P (rows g) (λ xs. flat (map item xs))
  items r = items_behind [] r (λ more. refl)

  pub some_items : {A : Type 0} {before : Toks → Toks} {g : Form A} {item : A → Toks} {own : List A → Toks}
      → Written P g item → ((x : A) (more : List A) → own (x ∷ more) ≡ before (item x ++ flat (map item more)))
      → Writes P before (some_rows g) own
  some_items r is = behind r (λ x w. items_behind (x ∷ []) r (λ more. is x more))

  separated : {A : Type 0} {g : Form A} {item : A → Toks} {c : ℕ} {s : TokenKind} → IsClassOf c s
      → Written P g item → Written P (token c g) (λ a. s ∷ item a)
  separated {A} {g} {item} {c} {s} is r = mark is (after (λ z. s ∷ z) r)

  -- with a separator between
  pub list : {A : Type 0} {g : Form A} {item : A → Toks} {c : ℕ} {s : TokenKind} → IsClassOf c s
      → Written P g item → Written P (list_of c g) (λ xs. join (s ∷ []) (map item xs))
  list {A} {g} {item} {c} {s} is r =
      behind r (λ x w. items_behind (x ∷ []) (separated is r)
      (λ more. ap (λ (t : Toks). item x ++ t) (separate s item more)))

  -- and where it may stand behind the last too, none is written there
  none_last : {A : Type 0} {before : Toks → Toks} {own : A → Toks} {a : A} (c : ℕ) → own a ≡ before []
      → Writes P before (either (token c (just a false)) (just a false)) own
  none_last {A} {before} {own} {a} c is = record { rewritten = split } where
    split : (b : A) (w : Bool) (u : Toks) → (either (token c (just a false)) (just a false)).full b w u
        → Rewritten P before (either (token c (just a false)) (just a false)) own b w u
    split b w u (inl (t, v, x, y, e, of_c, (same, flag, rest))) =
        record { tokens = []; are = ap own same ∙ is; spell = inr (same, flag, refl); among = λ all. tt }
    split b w u (inr (same, flag, rest)) =
        record { tokens = []; are = ap own same ∙ is; spell = inr (same, flag, refl); among = λ all. tt }

  pub ended : {A : Type 0} {g : Form A} {item : A → Toks} {c : ℕ} {s : TokenKind} → IsClassOf c s
      → Written P g item → Written P (ended_list c g) (λ xs. join (s ∷ []) (map item xs))
  ended {A} {g} {item} {c} {s} is r =
      behind r (λ x w.
      behind_known
      (items_behind {own = λ xs. behind_each (s ∷ []) (map item (others xs))} (x ∷ []) (separated is r)
      (λ more. separate s item more))
      (λ xs v u h. none_last c (known x xs u h)))
    where
      known : (x : A) (xs : List A) (u : Toks) {v : Bool} → (rows_behind (token c g) (x ∷ [])).full xs v u
          → join (s ∷ []) (map item xs) ≡ item x ++ (behind_each (s ∷ []) (map item (others xs)) ++ [])
      known x xs u (more, made, h, flag) =
          subst (λ (ys : List A). join (s ∷ []) (map item ys)
          ≡ item x ++ (behind_each (s ∷ []) (map item (others ys)) ++ [])) (sym made)
          (ap (λ (t : Toks). item x ++ t) (sym (append-nil (behind_each (s ∷ []) (map item more)))))

  -- a list in parentheses, or nothing
  pub parens : {A : Type 0} {g : Form A} {item : A → Toks} {c : ℕ} {s : TokenKind} → IsClassOf c s → Written P g item
      → Written P
      (either (token open_class (chain (list_of c g) (λ xs _. token close_class (just xs false))))
      (just [] false)) (λ xs. in_parens s (map item xs))
  parens {A} {g} {item} {c} {s} is r =
      choice (sign signs.OPEN
      (behind_known (list is r) (λ xs w u h. sign signs.CLOSE (done (in-parens c g s item xs w u h)))))
      (done refl)
