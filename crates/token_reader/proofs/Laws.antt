-- The laws of one reader and one form, and how they come from those of the parts.
use Rattle.std.specs.Prelude.{◌≡◌, ℕ, ◌≤◌, Bool, true, false, [], ◌∷◌, ◌++◌, length, Option, Some, None, Result, Ok, Err}
use Rattle.std.proofs.Common.{refl, sym, ap, subst, ◌∙◌, append_assoc, arith, length-append, inl, inr}
use Rattle.std.proofs.lemmas.List.{append-nil}
use Rattle.std.proofs.lemmas.Bool.{cases_Bool}
use Rattle.dice_base.specs.declared.token.TokenKind.{TokenKind}
use Rattle.token_reader.specs.declared.stop.Stop.{Stop}
use Rattle.token_reader.specs.declared.stop.Stop.TheVariants.{At}
use Rattle.dice_base.specs.Tokens.{Toks, Classes, class_of, class_at, is_in}
use Rattle.dice_base.specs.Forms.{Form, never, just, chain, either}
use Rattle.dice_base.specs.Forms as form
use Rattle.token_reader.specs.Readers.{Outcome, Parser, then_of, ◌>>=◌, pure, one, one_of, by}
use Rattle.token_reader.proofs.Tables.{Sub, Apart, in_left, in_right}

abbrev pub ok : {A : Type 0} → A → Toks → Outcome A
ok a ts = (Ok a, ts)

abbrev pub okay : {A : Type 0} → A → Result A Stop
okay a = Ok a

abbrev pub bad : {A : Type 0} → Stop → Result A Stop
bad e = Err e

abbrev pub some_of : {A : Type 0} → A → Option A
some_of a = Some a

-- ---- one token of lookahead: the answer hangs on what was taken and on the token behind it alone

pub record Cut {A : Type 0} (p : Parser A) (ts : Toks) (x : Result A Stop) (r : Toks) : Type 0 where
  pub text : Toks
  pub parts : ts ≡ text ++ r
  pub stays : (t : TokenKind) (old other : Toks) → r ≡ t ∷ old → p (text ++ t ∷ other) ≡ (x, t ∷ other)
  pub ends : (p text).1 ≡ []

abbrev pub Local : {A : Type 0} → Parser A → Type 0
Local p = (ts : Toks) → Cut p ts (p ts).0 (p ts).1

nil_right : (u v : Toks) → [] ≡ u ++ v → v ≡ []
nil_right [] v e = sym e
nil_right (t ∷ u) v e = absurd cc

pub local_nil : {A : Type 0} (p : Parser A) → Local p → (p []).1 ≡ []
local_nil p l = let c = l [] in nil_right c.text (p []).1 c.parts

pub local_le : {A : Type 0} (p : Parser A) → Local p → (ts : Toks) → length (p ts).1 ≤ length ts
local_le p l ts = let c = l ts in omega (arith, ap length c.parts, length-append c.text (p ts).1)

-- ---- a reader and its form

-- what a reader's answer is spelled by, and what then comes next
pub record Found {A : Type 0} (g : Form A) (D : Bool → Classes) (a : A) (ts rest : Toks) : Type 0 where
  pub flag : Bool
  pub text : Toks
  pub parts : ts ≡ text ++ rest
  pub form : g.full a flag text
  pub ends : is_in (D flag) (class_at rest) ≡ false

-- P: not the class of the next token; L: the classes of the next token, where the form stands; D: what does not come
-- next when the reader gave a value; F: what may follow the form
pub record One {A : Type 0} (P L : Classes) (p : Parser A) (g : Form A) (D F : Bool → Classes) : Type 0 where
  pub reads : (ts : Toks) (a : A) → is_in P (class_at ts) ≡ false → (p ts).0 ≡ Ok a → Found g D a ts (p ts).1
  pub takes : (a : A) (w : Bool) (u rest : Toks) → g.full a w u → is_in (F w) (class_at rest) ≡ true → p (u ++ rest) ≡ ok a rest
  pub opens : (a : A) (w : Bool) (u rest : Toks) → g.full a w u → is_in (F w) (class_at rest) ≡ true → is_in L (class_at (u ++ rest)) ≡ true
  pub leads : (t : TokenKind) (u : Toks) → g.front (t ∷ u) → is_in L (class_of t) ≡ true
  pub fronts : (u : Toks) → is_in P (class_at u) ≡ false → (p u).1 ≡ [] → g.front u
  pub ends : (u : Toks) → g.front u → (p u).1 ≡ []
  pub begun : (a : A) (w : Bool) (u : Toks) → g.full a w u → g.front u

-- ---- nothing

pub just_one : {A : Type 0} (a : A) (w : Bool) (P : Classes) (D F : Bool → Classes) → Sub (D w) P → One P (F w) (pure a) (just a w) D F
just_one {A} a w P D F less = record {
  reads = λ ts b pre e. record { flag = w; text = []; parts = refl; form = (same a b e, refl, refl); ends = fewer (class_at ts) pre };
  takes = λ b v u rest g f. rw (g.0, g.2) refl;
  opens = λ b v u rest g f. rw (← g.1, g.2) f;
  leads = λ t u e. absurd cc;
  fronts = λ u pre e. e;
  ends = λ u e. e;
  begun = λ b v u g. g.2;
} where
  same : (a b : A) → okay a ≡ Ok b → b ≡ a
  same a b e = cc

  fewer : (c : ℕ) → is_in P c ≡ false → is_in (D w) c ≡ false
  fewer c e =
      elim (cases_Bool (is_in (D w) c)) [
        | inl here ↦ (let no : true ≡ false = sym (less c here) ∙ e in absurd cc)
        | inr gone ↦ gone
      ]

pub pure_local : {A : Type 0} (a : A) → Local (pure a)
pure_local a ts = record { text = []; parts = refl; stays = λ t old other e. refl; ends = refl }

-- a reader that takes nothing and gives nothing
pub stop_one : {A : Type 0} (s : Stop) (P L : Classes) (D F : Bool → Classes) → One P L (λ ts. (bad {A = A} s, ts)) never D F
stop_one {A} s P L D F = record {
  reads = λ ts a pre e. absurd (not_ok a e);
  takes = λ a w u rest none f. absurd none;
  opens = λ a w u rest none f. absurd none;
  leads = λ t u e. absurd cc;
  fronts = λ u pre e. e;
  ends = λ u e. e;
  begun = λ a w u none. absurd none;
} where
  not_ok : (a : A) → bad {A = A} s ≡ Ok a → ⊥
  not_ok a e = cc

pub stop_local : {A : Type 0} (s : Stop) → Local {A = A} (λ ts. (bad s, ts))
stop_local s ts = record { text = []; parts = refl; stays = λ t old other e. refl; ends = refl }

-- ---- one token

module _ {A : Type 0} (f : TokenKind → Option A) where
  one_none : (t : TokenKind) (ts : Toks) → f t ≡ None → one f (t ∷ ts) ≡ (bad At, t ∷ ts)
  one_none t ts e = rw e refl

  one_some : (t : TokenKind) (a : A) (ts : Toks) → f t ≡ Some a → one f (t ∷ ts) ≡ ok a ts
  one_some t a ts e = rw e refl

  module _ (L : Classes) (sees : (t : TokenKind) (a : A) → f t ≡ Some a → is_in L (class_of t) ≡ true) (F : Bool → Classes) where
    abbrev Nothing : Bool → Classes
    Nothing w = []

    one_reads : (ts : Toks) (a : A) → (one f ts).0 ≡ Ok a → Found (form.one f) Nothing a ts (one f ts).1
    one_reads [] a e = absurd cc
    one_reads (t ∷ ts) a e = go (f t) refl e where
      go : (o : Option A) → f t ≡ o → (one_of o t ts).0 ≡ Ok a → Found (form.one f) Nothing a (t ∷ ts) (one_of o t ts).1
      go None is e = absurd cc
      go (Some b) is e = record { flag = false; text = t ∷ []; parts = refl; form = (t, refl, is ∙ same b e, refl); ends = refl } where
        same : (b : A) → okay b ≡ Ok a → some_of b ≡ Some a
        same b e = cc

    one_fronts : (u : Toks) → (one f u).1 ≡ [] → (form.one f).front u
    one_fronts [] e = inl refl
    one_fronts (t ∷ u) e = go (f t) refl e where
      go : (o : Option A) → f t ≡ o → (one_of o t u).1 ≡ [] → (form.one f).front (t ∷ u)
      go None is e = absurd cc
      go (Some b) is e = inr (t, b, ap (λ (v : Toks). t ∷ v) e, is)

    one_ends : (u : Toks) → (form.one f).front u → (one f u).1 ≡ []
    one_ends u (inl e) = rw e refl
    one_ends u (inr (t, a, e, is)) = rw (e, is) refl

    one_leads : (t : TokenKind) (u : Toks) → (form.one f).front (t ∷ u) → is_in L (class_of t) ≡ true
    one_leads t u (inl e) = absurd cc
    one_leads t u (inr (s, a, e, is)) = let same : t ≡ s = cc in rw same (sees s a is)

    pub one_one : One [] L (one f) (form.one f) Nothing F
    one_one = record {
      reads = λ ts a pre e. one_reads ts a e;
      takes = λ a w u rest (t, e, is, shut) g. rw (e, is) refl;
      opens = λ a w u rest (t, e, is, shut) g. rw e (sees t a is);
      leads = one_leads;
      fronts = λ u pre e. one_fronts u e;
      ends = one_ends;
      begun = λ a w u (t, e, is, shut). inr (t, a, e, is);
    }

  pub one_local : Local (one f)
  one_local [] = record { text = []; parts = refl; stays = λ t old other e. absurd cc; ends = refl }
  one_local (t ∷ ts) = go (f t) refl where
    go : (o : Option A) → f t ≡ o → Cut (one f) (t ∷ ts) (one_of o t ts).0 (one_of o t ts).1
    go None is = record { text = []; parts = refl; stays = λ s old other e. stuck s old other e; ends = refl } where
      stuck : (s : TokenKind) (old other : Toks) → t ∷ ts ≡ s ∷ old → one f (s ∷ other) ≡ (bad At, s ∷ other)
      stuck s old other e = let same : s ≡ t = cc in rw same (one_none t other is)
    go (Some a) is = record { text = t ∷ []; parts = refl; stays = λ s old other e. one_some t a (s ∷ other) is; ends = rw is refl }

-- ---- one after another

pub bind_nil : {A B : Type 0} (x : Result A Stop) (r : Toks) (k : A → Parser B) → r ≡ [] → ((a : A) → (k a []).1 ≡ []) → (then_of x r k).1 ≡ []
bind_nil (Ok a) r k e nil = rw e (nil a)
bind_nil (Err s) r k e nil = e

module _ {A B : Type 0} {P L : Classes} {M : Bool → Classes} {p : Parser A} {g : Form A} {E G : Bool → Classes} {k : A → Parser B} {h : A → Bool → Form B} {D F : Bool → Classes}
    (first : One P L p g E G) (rest : (a : A) (w : Bool) → One (E w) (M w) (k a) (h a w) D F)
    (fit : (w : Bool) → Sub (M w) (G w))
    (k_local : (a : A) → Local (k a))
  where
    chain_reads : (ts : Toks) (b : B) → is_in P (class_at ts) ≡ false → ((p >>= k) ts).0 ≡ Ok b → Found (chain g h) D b ts ((p >>= k) ts).1
    chain_reads ts b pre e = go (p ts).0 refl e where
      go : (x : Result A Stop) → (p ts).0 ≡ x → (then_of x (p ts).1 k).0 ≡ Ok b → Found (chain g h) D b ts (then_of x (p ts).1 k).1
      go (Ok a) is e =
          let x = first.reads ts a pre is in
          let y = (rest a x.flag).reads (p ts).1 b x.ends e in
          record {
            flag = y.flag;
            text = x.text ++ y.text;
            parts = x.parts ∙ ap (λ (t : Toks). x.text ++ t) y.parts ∙ sym (append_assoc x.text y.text (k a (p ts).1).1);
            form = (a, x.flag, x.text, y.text, refl, x.form, y.form);
            ends = y.ends;
          }
      go (Err s) is e = absurd (not_ok s e) where
        not_ok : (s : Stop) → bad {A = B} s ≡ Ok b → ⊥
        not_ok s e = cc

    chain_takes : (b : B) (v : Bool) (u rest' : Toks) → (chain g h).full b v u → is_in (F v) (class_at rest') ≡ true → (p >>= k) (u ++ rest') ≡ ok b rest'
    chain_takes b v u rest' (a, w, x, y, e, gx, hy) f =
        let one : p (x ++ (y ++ rest')) ≡ ok a (y ++ rest') = first.takes a w x (y ++ rest') gx (fit w (class_at (y ++ rest')) ((rest a w).opens b v y rest' hy f)) in
        rw (e, append_assoc x y rest', one) ((rest a w).takes b v y rest' hy f)

    chain_opens : (b : B) (v : Bool) (u rest' : Toks) → (chain g h).full b v u → is_in (F v) (class_at rest') ≡ true → is_in L (class_at (u ++ rest')) ≡ true
    chain_opens b v u rest' (a, w, x, y, e, gx, hy) f =
        rw (e, append_assoc x y rest') (first.opens a w x (y ++ rest') gx (fit w (class_at (y ++ rest')) ((rest a w).opens b v y rest' hy f)))

    leads_in : (t : TokenKind) (u : Toks) (a : A) (w : Bool) (x y : Toks) → t ∷ u ≡ x ++ y → g.full a w x → (h a w).front y → is_in L (class_of t) ≡ true
    leads_in t u a w x [] e gx hy = first.leads t u (subst (λ (z : Toks). g.front z) (sym (e ∙ append-nil x)) (first.begun a w x gx))
    leads_in t u a w x (s ∷ y) e gx hy =
        subst (λ (z : Toks). is_in L (class_at z) ≡ true) (sym e) (first.opens a w x (s ∷ y) gx (fit w (class_of s) ((rest a w).leads s y hy)))

    chain_leads : (t : TokenKind) (u : Toks) → (chain g h).front (t ∷ u) → is_in L (class_of t) ≡ true
    chain_leads t u (inl x) = first.leads t u x
    chain_leads t u (inr (a, w, x, y, e, gx, hy)) = leads_in t u a w x y e gx hy

    chain_fronts : (u : Toks) → is_in P (class_at u) ≡ false → ((p >>= k) u).1 ≡ [] → (chain g h).front u
    chain_fronts u pre e = go (p u).0 refl e where
      go : (x : Result A Stop) → (p u).0 ≡ x → (then_of x (p u).1 k).1 ≡ [] → (chain g h).front u
      go (Ok a) is e = let x = first.reads u a pre is in inr (a, x.flag, x.text, (p u).1, x.parts, x.form, (rest a x.flag).fronts (p u).1 x.ends e)
      go (Err s) is e = inl (first.fronts u pre e)

    ended : (u : Toks) → g.front u → ((p >>= k) u).1 ≡ []
    ended u x = bind_nil (p u).0 (p u).1 k (first.ends u x) (λ a. local_nil (k a) (k_local a))

    ends_in : (u : Toks) (a : A) (w : Bool) (x y : Toks) → u ≡ x ++ y → g.full a w x → (h a w).front y → ((p >>= k) u).1 ≡ []
    ends_in u a w x [] e gx hy = ended u (subst (λ (z : Toks). g.front z) (sym (e ∙ append-nil x)) (first.begun a w x gx))
    ends_in u a w x (s ∷ y) e gx hy = rw (e, first.takes a w x (s ∷ y) gx (fit w (class_of s) ((rest a w).leads s y hy))) ((rest a w).ends (s ∷ y) hy)

    chain_ends : (u : Toks) → (chain g h).front u → ((p >>= k) u).1 ≡ []
    chain_ends u (inl x) = ended u x
    chain_ends u (inr (a, w, x, y, e, gx, hy)) = ends_in u a w x y e gx hy

    pub chain_one : One P L (p >>= k) (chain g h) D F
    chain_one = record { reads = chain_reads; takes = chain_takes; opens = chain_opens; leads = chain_leads; fronts = chain_fronts; ends = chain_ends; begun = λ b v u (a, w, x, y, e, gx, hy). inr (a, w, x, y, e, gx, (rest a w).begun b v y hy) }

module _ {A B : Type 0} (p : Parser A) (k : A → Parser B) (p_local : Local p) (k_local : (a : A) → Local (k a)) where
  pub chain_local : Local (p >>= k)
  chain_local ts = go (p ts).0 refl where
    go : (x : Result A Stop) → (p ts).0 ≡ x → Cut (p >>= k) ts (then_of x (p ts).1 k).0 (then_of x (p ts).1 k).1
    go (Err s) is =
        let c = p_local ts in
        record {
          text = c.text;
          parts = c.parts;
          stays = λ t old other e. rw (c.stays t old other e, is) refl;
          ends = bind_nil (p c.text).0 (p c.text).1 k c.ends (λ a. local_nil (k a) (k_local a));
        }
    go (Ok a) is = both (p_local ts) (k_local a (p ts).1) where
      both : Cut p ts (p ts).0 (p ts).1 → Cut (k a) (p ts).1 (k a (p ts).1).0 (k a (p ts).1).1 → Cut (p >>= k) ts (k a (p ts).1).0 (k a (p ts).1).1
      both c d = record {
        text = c.text ++ d.text;
        parts = c.parts ∙ ap (λ (t : Toks). c.text ++ t) d.parts ∙ sym (append_assoc c.text d.text (k a (p ts).1).1);
        stays = λ t old other e. rw (append_assoc c.text d.text (t ∷ other), moved d.text t old other (d.parts ∙ ap (λ (z : Toks). d.text ++ z) e), is) (d.stays t old other e);
        ends = tail d.text d.parts d.ends;
      } where
        -- the first took its text, and left y and what follows
        moved : (y : Toks) (t : TokenKind) (old other : Toks) → (p ts).1 ≡ y ++ t ∷ old → p (c.text ++ (y ++ t ∷ other)) ≡ ((p ts).0, y ++ t ∷ other)
        moved [] t old other e = c.stays t old other e
        moved (s ∷ y) t old other e = c.stays s (y ++ t ∷ old) (y ++ t ∷ other) e

        tail : (y : Toks) → (p ts).1 ≡ y ++ (k a (p ts).1).1 → (k a y).1 ≡ [] → ((p >>= k) (c.text ++ y)).1 ≡ []
        tail [] e n = rw append-nil (bind_nil (p c.text).0 (p c.text).1 k c.ends (λ b. local_nil (k b) (k_local b)))
        tail (s ∷ y) e n = rw (c.stays s (y ++ (k a (p ts).1).1) y e, is) n

-- ---- by the next token

module _ {A : Type 0} (table : Classes) (p q : Parser A) where
  by_yes : (ts : Toks) → is_in table (class_at ts) ≡ true → by table p q ts ≡ p ts
  by_yes ts e = rw e refl

  by_no : (ts : Toks) → is_in table (class_at ts) ≡ false → by table p q ts ≡ q ts
  by_no ts e = rw e refl

  module _ {P N L M : Classes} {g h : Form A} {D F : Bool → Classes}
      (one : One P L p g D F) (other : One N M q h D F)
      (known : (c : ℕ) → is_in table c ≡ false → is_in P c ≡ false → is_in N c ≡ false)
      (here : Sub L table) (there : Apart M table) (real : is_in table 11 ≡ false) (q_nil : (q []).1 ≡ [])
    where
      abbrev Reading : Outcome A → (A → Toks → Type 0) → Type 0
      Reading o G = (a : A) → o.0 ≡ Ok a → G a o.1

      by_reads : (ts : Toks) (a : A) → is_in P (class_at ts) ≡ false → (by table p q ts).0 ≡ Ok a → Found (either g h) D a ts (by table p q ts).1
      by_reads ts a pre e =
          elim (cases_Bool (is_in table (class_at ts))) [
            | inl is ↦ subst (λ (o : Outcome A). Found (either g h) D a ts o.1) (sym (by_yes ts is)) (left (one.reads ts a pre (subst (λ (o : Outcome A). o.0 ≡ Ok a) (by_yes ts is) e)))
            | inr isnt ↦ subst (λ (o : Outcome A). Found (either g h) D a ts o.1) (sym (by_no ts isnt)) (right (other.reads ts a (known (class_at ts) isnt pre) (subst (λ (o : Outcome A). o.0 ≡ Ok a) (by_no ts isnt) e)))
          ]
        where
          left : Found g D a ts (p ts).1 → Found (either g h) D a ts (p ts).1
          left x = record { flag = x.flag; text = x.text; parts = x.parts; form = inl x.form; ends = x.ends }

          right : Found h D a ts (q ts).1 → Found (either g h) D a ts (q ts).1
          right x = record { flag = x.flag; text = x.text; parts = x.parts; form = inr x.form; ends = x.ends }

      by_takes : (a : A) (w : Bool) (u rest : Toks) → (either g h).full a w u → is_in (F w) (class_at rest) ≡ true → by table p q (u ++ rest) ≡ ok a rest
      by_takes a w u rest (inl x) f = by_yes (u ++ rest) (here _ (one.opens a w u rest x f)) ∙ one.takes a w u rest x f
      by_takes a w u rest (inr x) f = by_no (u ++ rest) (there _ (other.opens a w u rest x f)) ∙ other.takes a w u rest x f

      by_opens : (a : A) (w : Bool) (u rest : Toks) → (either g h).full a w u → is_in (F w) (class_at rest) ≡ true → is_in (L ++ M) (class_at (u ++ rest)) ≡ true
      by_opens a w u rest (inl x) f = in_left L M _ (one.opens a w u rest x f)
      by_opens a w u rest (inr x) f = in_right L M _ (other.opens a w u rest x f)

      by_leads : (t : TokenKind) (u : Toks) → (either g h).front (t ∷ u) → is_in (L ++ M) (class_of t) ≡ true
      by_leads t u (inl x) = in_left L M _ (one.leads t u x)
      by_leads t u (inr x) = in_right L M _ (other.leads t u x)

      by_fronts : (u : Toks) → is_in P (class_at u) ≡ false → (by table p q u).1 ≡ [] → (either g h).front u
      by_fronts u pre e =
          elim (cases_Bool (is_in table (class_at u))) [
            | inl is ↦ inl (one.fronts u pre (subst (λ (o : Outcome A). o.1 ≡ []) (by_yes u is) e))
            | inr isnt ↦ inr (other.fronts u (known (class_at u) isnt pre) (subst (λ (o : Outcome A). o.1 ≡ []) (by_no u isnt) e))
          ]

      by_ends : (u : Toks) → (either g h).front u → (by table p q u).1 ≡ []
      by_ends [] x = rw real q_nil
      by_ends (t ∷ u) (inl x) = rw (here _ (one.leads t u x)) (one.ends (t ∷ u) x)
      by_ends (t ∷ u) (inr x) = rw (there _ (other.leads t u x)) (other.ends (t ∷ u) x)

      by_begun : (a : A) (w : Bool) (u : Toks) → (either g h).full a w u → (either g h).front u
      by_begun a w u (inl x) = inl (one.begun a w u x)
      by_begun a w u (inr x) = inr (other.begun a w u x)

      pub by_one : One P (L ++ M) (by table p q) (either g h) D F
      by_one = record { reads = by_reads; takes = by_takes; opens = by_opens; leads = by_leads; fronts = by_fronts; ends = by_ends; begun = by_begun }

  -- where the table is known not to have the next class
  module _ {N M : Classes} {h : Form A} {D F : Bool → Classes}
      (other : One N M q h D F) (known : Sub table N) (there : Apart M table) (real : is_in table 11 ≡ false) (q_nil : (q []).1 ≡ [])
    where
      unknown : (c : ℕ) → is_in N c ≡ false → is_in table c ≡ false
      unknown c e =
          elim (cases_Bool (is_in table c)) [
            | inl here ↦ (let no : true ≡ false = sym (known c here) ∙ e in absurd cc)
            | inr gone ↦ gone
          ]

      pass_ends : (u : Toks) → h.front u → (by table p q u).1 ≡ []
      pass_ends [] x = rw real q_nil
      pass_ends (t ∷ u) x = rw (there _ (other.leads t u x)) (other.ends (t ∷ u) x)

      pub pass_one : One N M (by table p q) h D F
      pass_one = record {
        reads = λ ts a pre e. rw (unknown _ pre) (other.reads ts a pre (rw (unknown _ pre) at e));
        takes = λ a w u rest x f. rw (there _ (other.opens a w u rest x f)) (other.takes a w u rest x f);
        opens = other.opens;
        leads = other.leads;
        fronts = λ u pre e. other.fronts u pre (rw (unknown _ pre) at e);
        ends = pass_ends;
        begun = other.begun;
      }

  module _ (real : is_in table 11 ≡ false) (p_local : Local p) (q_local : Local q) where
    by_cut : (ts : Toks) (b : Bool) → is_in table (class_at ts) ≡ b → (r : Parser A) → ((us : Toks) → is_in table (class_at us) ≡ b → by table p q us ≡ r us) → Local r
        → Cut (by table p q) ts (by table p q ts).0 (by table p q ts).1
    by_cut ts b is r same r_local = rw (same ts is) (go (r_local ts)) where
      go : Cut r ts (r ts).0 (r ts).1 → Cut (by table p q) ts (r ts).0 (r ts).1
      go c = record {
        text = c.text;
        parts = c.parts;
        stays = λ t old other e. same (c.text ++ t ∷ other) (class_same c.text t old other (c.parts ∙ ap (λ (z : Toks). c.text ++ z) e)) ∙ c.stays t old other e;
        ends = at_end c.text c.parts c.ends;
      } where
        class_same : (y : Toks) (t : TokenKind) (old other : Toks) → ts ≡ y ++ t ∷ old → is_in table (class_at (y ++ t ∷ other)) ≡ b
        class_same [] t old other e = subst (λ (z : Toks). is_in table (class_at z) ≡ b) e is
        class_same (s ∷ y) t old other e = subst (λ (z : Toks). is_in table (class_at z) ≡ b) e is

        at_end : (y : Toks) → ts ≡ y ++ (r ts).1 → (r y).1 ≡ [] → (by table p q y).1 ≡ []
        at_end [] e n = rw real (local_nil q q_local)
        at_end (s ∷ y) e n = subst (λ (o : Outcome A). o.1 ≡ []) (sym (same (s ∷ y) (subst (λ (z : Toks). is_in table (class_at z) ≡ b) e is))) n

    pub by_local : Local (by table p q)
    by_local ts =
        elim (cases_Bool (is_in table (class_at ts))) [
          | inl is ↦ by_cut ts true is p by_yes p_local
          | inr isnt ↦ by_cut ts false isnt q by_no q_local
        ]
