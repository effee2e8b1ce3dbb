-- One record with all laws of a nonterminal, for each reader and form of a family, and its combinators.
use Rattle.std.specs.Prelude.{◌≡◌, ◌⊎◌, ℕ, Bool, true, false, ◌&&◌, List, [], ◌∷◌, ◌++◌, Option, Some, None}
use Rattle.std.proofs.Common.{refl, sym, ap, subst, ◌∙◌, eqb, inl, inr, append_assoc}
use Rattle.std.proofs.lemmas.List.{append-nil}
use Rattle.std.proofs.lemmas.Bool.{cases_Bool, and_parts}
use Rattle.dice_base.specs.declared.token.TokenKind.{TokenKind}
use Rattle.dice_base.specs.declared.token.TokenKind.TheVariants.{Word, Ident, Number, Str, Sign, Hole}
use Rattle.token_reader.specs.declared.stop.Stop.TheVariants.{At}
use Rattle.dice_base.specs.Tokens.{Toks, Classes, class_of, class_at, is_in, has_class, operator_of, operator, keys, ident_of, number_of, string_of}
use Rattle.dice_base.specs.Forms.{Form, never, just, chain, either, token, named, numeral, quoted, operator_or}
use Rattle.dice_base.specs.Forms as form
use Rattle.token_reader.specs.Readers.{Parser, ◌>>=◌, ◌>>◌, pure, refuse, one, by, expect, ident, number, string, operator_or_else}
use Rattle.token_reader.specs.Tables.{within, clear}
use Rattle.token_reader.proofs.Tables.{Sub, Apart, within_sub, clear_apart, sub_tail, sub_same}
use Rattle.token_reader.proofs.Laws.{Local, Found, One, local_nil, just_one, pure_local, stop_one, stop_local, one_one, one_local, chain_one, chain_local, by_one, by_local, pass_one}
use Rattle.token_reader.proofs.Levels.{Slow, Steady, even_steady, even_slow, one_even, chain_steady, even_chain, chain_slow, token_slow, by_steady, by_slow}

abbrev some_of : {A : Type 0} → A → Option A
some_of a = Some a

abbrev none_of : (A : Type 0) → Option A
none_of A = None

abbrev pub Nothing : Bool → Classes
Nothing w = []

-- R i j: reader j has one level more than reader i. s: they are too deep only behind a token.
pub record Rule {I A : Type 0} (R : I → I → Type 0) (s : Bool) (P L : Classes) (p : I → Parser A) (g : I → Form A) (D F : Bool → Classes) : Type 0 where
  pub laws : (i : I) → One P L (p i) (g i) D F
  pub local : (i : I) → Local (p i)
  pub slow : s ≡ true → (i : I) → Slow (p i)
  pub upper : (i j : I) → R i j → Slow (p j)
  pub steady : (i j : I) → R i j → Steady (p i) (p j)

abbrev pub fits : Classes → Classes → Classes → Bool
fits table L M = within L table && clear (11 ∷ M) table

class_sees : (c : ℕ) (t : TokenKind) (a : Unit {0}) → has_class c t ≡ Some a → is_in (c ∷ []) (class_of t) ≡ true
class_sees c t a e =
    elim (cases_Bool (eqb (class_of t) c)) [
      | inl same ↦ rw same refl
      | inr other ↦ (let no : none_of (Unit {0}) ≡ some_of a = rw other at e in absurd cc)
    ]

fit_real : (table L M : Classes) → fits table L M ≡ true → is_in table 11 ≡ false
fit_real table L M e = clear_apart (11 ∷ M) table (and_parts _ _ e).1 11 refl

not_in : (A B : Classes) → Sub A B → (c : ℕ) → is_in B c ≡ false → is_in A c ≡ false
not_in A B less c e =
    elim (cases_Bool (is_in A c)) [
      | inl here ↦ (let no : true ≡ false = sym (less c here) ∙ e in absurd cc)
      | inr gone ↦ gone
    ]

ident_sees : (t : TokenKind) (x : List ℕ) → ident_of t ≡ Some x → is_in (1 ∷ []) (class_of t) ≡ true
ident_sees (Ident y) x e = refl
ident_sees (Word k) x e = absurd cc
ident_sees (Number n) x e = absurd cc
ident_sees (Str y) x e = absurd cc
ident_sees (Sign k) x e = absurd cc
ident_sees Hole x e = absurd cc

number_sees : (t : TokenKind) (n : ℕ) → number_of t ≡ Some n → is_in (2 ∷ []) (class_of t) ≡ true
number_sees (Number m) n e = refl
number_sees (Word k) n e = absurd cc
number_sees (Ident x) n e = absurd cc
number_sees (Str y) n e = absurd cc
number_sees (Sign k) n e = absurd cc
number_sees Hole n e = absurd cc

string_sees : (t : TokenKind) (x : List ℕ) → string_of t ≡ Some x → is_in (3 ∷ []) (class_of t) ≡ true
string_sees (Str y) x e = refl
string_sees (Word k) x e = absurd cc
string_sees (Ident y) x e = absurd cc
string_sees (Number n) x e = absurd cc
string_sees (Sign k) x e = absurd cc
string_sees Hole x e = absurd cc

-- an operator, of a table
key_of : {O : Type 0} (table : List (ℕ × O)) (c : ℕ) (o : O) → operator table c ≡ Some o → is_in (keys table) c ≡ true
key_of [] c o e = absurd cc
key_of (x ∷ table) c o e =
    elim (cases_Bool (eqb c x.0)) [
      | inl same ↦ rw same refl
      | inr other ↦ rw other (key_of table c o (rw other at e))
    ]

-- ---- forms with the same spellings and fronts

pub record Same {A : Type 0} (g h : Form A) : Type 0 where
  pub to : (a : A) (w : Bool) (u : Toks) → g.full a w u → h.full a w u
  pub from : (a : A) (w : Bool) (u : Toks) → h.full a w u → g.full a w u
  pub to_front : (u : Toks) → g.front u → h.front u
  pub from_front : (u : Toks) → h.front u → g.front u

-- an item, and then the decision: the grammar has the item in each of both
pub split : {A B : Type 0} (g : Form A) (h k : A → Bool → Form B) → Same (chain g (λ a w. either (h a w) (k a w))) (either (chain g h) (chain g k))
split {A} {B} g h k = record { to = to; from = from; to_front = to_front; from_front = from_front } where
  to : (b : B) (v : Bool) (u : Toks) → (chain g (λ a w. either (h a w) (k a w))).full b v u → (either (chain g h) (chain g k)).full b v u
  to b v u (a, w, x, y, e, gx, inl q) = inl (a, w, x, y, e, gx, q)
  to b v u (a, w, x, y, e, gx, inr q) = inr (a, w, x, y, e, gx, q)

  from : (b : B) (v : Bool) (u : Toks) → (either (chain g h) (chain g k)).full b v u → (chain g (λ a w. either (h a w) (k a w))).full b v u
  from b v u (inl (a, w, x, y, e, gx, q)) = (a, w, x, y, e, gx, inl q)
  from b v u (inr (a, w, x, y, e, gx, q)) = (a, w, x, y, e, gx, inr q)

  to_front : (u : Toks) → (chain g (λ a w. either (h a w) (k a w))).front u → (either (chain g h) (chain g k)).front u
  to_front u (inl q) = inl (inl q)
  to_front u (inr (a, w, x, y, e, gx, inl q)) = inl (inr (a, w, x, y, e, gx, q))
  to_front u (inr (a, w, x, y, e, gx, inr q)) = inr (inr (a, w, x, y, e, gx, q))

  from_front : (u : Toks) → (either (chain g h) (chain g k)).front u → (chain g (λ a w. either (h a w) (k a w))).front u
  from_front u (inl (inl q)) = inl q
  from_front u (inl (inr (a, w, x, y, e, gx, q))) = inr (a, w, x, y, e, gx, inl q)
  from_front u (inr (inl q)) = inl q
  from_front u (inr (inr (a, w, x, y, e, gx, q))) = inr (a, w, x, y, e, gx, inr q)

match_form : {X Y Z : Type 0} → X ⊎ Y → (X → Z) → (Y → Z) → Z
match_form (inl x) f f' = f x
match_form (inr y) f f' = f' y

pub in_left : {A : Type 0} {g h : Form A} (k : Form A) → Same g h → Same (either g k) (either h k)
in_left {A} {g} {h} k s = record {
  to = λ a w u x. (match_form x (λ y. inl (s.to a w u y)) (λ y. inr y));
  from = λ a w u x. (match_form x (λ y. inl (s.from a w u y)) (λ y. inr y));
  to_front = λ u x. (match_form x (λ y. inl (s.to_front u y)) (λ y. inr y));
  from_front = λ u x. (match_form x (λ y. inl (s.from_front u y)) (λ y. inr y));
}

pub in_right : {A : Type 0} {g h : Form A} (k : Form A) → Same g h → Same (either k g) (either k h)
in_right {A} {g} {h} k s = record {
  to = λ a w u x. (match_form x (λ y. inl y) (λ y. inr (s.to a w u y)));
  from = λ a w u x. (match_form x (λ y. inl y) (λ y. inr (s.from a w u y)));
  to_front = λ u x. (match_form x (λ y. inl y) (λ y. inr (s.to_front u y)));
  from_front = λ u x. (match_form x (λ y. inl y) (λ y. inr (s.from_front u y)));
}

match_sum : {X Y Z : Type 0} → (X ⊎ Y) ⊎ Z → X ⊎ (Y ⊎ Z)
match_sum (inl (inl x)) = inl x
match_sum (inl (inr y)) = inr (inl y)
match_sum (inr z) = inr (inr z)

match_sums : {X Y Z : Type 0} → X ⊎ (Y ⊎ Z) → (X ⊎ Y) ⊎ Z
match_sums (inl x) = inl (inl x)
match_sums (inr (inl y)) = inl (inr y)
match_sums (inr (inr z)) = inr z

-- the choices in the other order
pub swap : {A : Type 0} (g h : Form A) → Same (either g h) (either h g)
swap g h = record {
  to = λ a w u x. (match_form x (λ y. inr y) (λ y. inl y));
  from = λ a w u x. (match_form x (λ y. inr y) (λ y. inl y));
  to_front = λ u x. (match_form x (λ y. inr y) (λ y. inl y));
  from_front = λ u x. (match_form x (λ y. inr y) (λ y. inl y));
}

-- the first two choices as one, or the last two
pub reassociate : {A : Type 0} (g h k : Form A) → Same (either (either g h) k) (either g (either h k))
reassociate g h k = record {
  to = λ a w u x. match_sum x;
  from = λ a w u x. match_sums x;
  to_front = λ u x. match_sum x;
  from_front = λ u x. match_sums x;
}

-- a choice, and then the same behind each
pub distribute : {A B : Type 0} (g h : Form A) (k : A → Bool → Form B) → Same (either (chain g k) (chain h k)) (chain (either g h) k)
distribute {A} {B} g h k = record { to = to; from = from; to_front = to_front; from_front = from_front } where
  to : (b : B) (v : Bool) (u : Toks) → (either (chain g k) (chain h k)).full b v u → (chain (either g h) k).full b v u
  to b v u (inl (a, w, x, y, e, q, r)) = (a, w, x, y, e, inl q, r)
  to b v u (inr (a, w, x, y, e, q, r)) = (a, w, x, y, e, inr q, r)

  from : (b : B) (v : Bool) (u : Toks) → (chain (either g h) k).full b v u → (either (chain g k) (chain h k)).full b v u
  from b v u (a, w, x, y, e, inl q, r) = inl (a, w, x, y, e, q, r)
  from b v u (a, w, x, y, e, inr q, r) = inr (a, w, x, y, e, q, r)

  to_front : (u : Toks) → (either (chain g k) (chain h k)).front u → (chain (either g h) k).front u
  to_front u (inl (inl q)) = inl (inl q)
  to_front u (inl (inr (a, w, x, y, e, q, r))) = inr (a, w, x, y, e, inl q, r)
  to_front u (inr (inl q)) = inl (inr q)
  to_front u (inr (inr (a, w, x, y, e, q, r))) = inr (a, w, x, y, e, inr q, r)

  from_front : (u : Toks) → (chain (either g h) k).front u → (either (chain g k) (chain h k)).front u
  from_front u (inl (inl q)) = inl (inl q)
  from_front u (inl (inr q)) = inr (inl q)
  from_front u (inr (a, w, x, y, e, inl q, r)) = inl (inr (a, w, x, y, e, q, r))
  from_front u (inr (a, w, x, y, e, inr q, r)) = inr (inr (a, w, x, y, e, q, r))

-- a part, of which a value is made at once
module _ {A B V : Type 0} (g : Form A) (make : A → B) (K : B → Bool → Form V) (nil : (b : B) → (K b false).front []) where
  abbrev Direct : Form V
  Direct = chain g (λ a _. K (make a) false)

  abbrev Made : Form V
  Made = chain (chain g (λ a _. just (make a) false)) K

  rejoined : (u z x y y2 : Toks) → u ≡ z ++ y2 → z ≡ x ++ y → y ≡ [] → u ≡ x ++ y2
  rejoined u z x y y2 e e1 none = e ∙ ap (λ (t : Toks). t ++ y2) (e1 ∙ (ap (λ (t : Toks). x ++ t) none ∙ append-nil x))

  direct_made : (v : V) (w : Bool) (u : Toks) → Direct.full v w u → Made.full v w u
  direct_made v w u (a, wa, x, y, e, q, k) = (make a, false, x, y, e, (a, wa, x, [], sym (append-nil x), q, (refl, refl, refl)), k)

  made_direct : (v : V) (w : Bool) (u : Toks) → Made.full v w u → Direct.full v w u
  made_direct v w u (b, wb, z, y2, e, (a, wa, x, y, e1, q, (is, shut, none)), k) =
      (a, wa, x, y2, rejoined u z x y y2 e e1 none, q, subst (λ (c : Bool). (K (make a) c).full v w y2) shut (subst (λ (c : B). (K c wb).full v w y2) is k))

  direct_front : (u : Toks) → Direct.front u → Made.front u
  direct_front u (inl q) = inl (inl q)
  direct_front u (inr (a, wa, x, y, e, q, k)) = inr (make a, false, x, y, e, (a, wa, x, [], sym (append-nil x), q, (refl, refl, refl)), k)

  made_front : (u : Toks) → Made.front u → Direct.front u
  made_front u (inl (inl q)) = inl q
  made_front u (inl (inr (a, wa, x, y, e, q, none))) = inr (a, wa, x, y, e, q, subst (λ (t : Toks). (K (make a) false).front t) (sym none) (nil (make a)))
  made_front u (inr (b, wb, z, y2, e, (a, wa, x, y, e1, q, (is, shut, none)), k)) =
      inr (a, wa, x, y2, rejoined u z x y y2 e e1 none, q, subst (λ (c : Bool). (K (make a) c).front y2) shut (subst (λ (c : B). (K c wb).front y2) is k))

  pub made : Same Direct Made
  made = record { to = direct_made; from = made_direct; to_front = direct_front; from_front = made_front }

-- two steps that the grammar has as one part
module _ {A B C V : Type 0} (g : Form A) (h : A → Bool → Form B) (make : A → B → C) (K : C → Form V) (nil : (c : C) → (K c).front []) where
  abbrev Flat : Form V
  Flat = chain g (λ a w. chain (h a w) (λ b _. K (make a b)))

  abbrev Whole : Form V
  Whole = chain (chain g (λ a w. chain (h a w) (λ b _. just (make a b) false))) (λ c _. K c)

  split_text : (x y1 y2 : Toks) → x ++ (y1 ++ y2) ≡ (x ++ (y1 ++ [])) ++ y2
  split_text x y1 y2 = ap (λ (z : Toks). x ++ (z ++ y2)) (sym (append-nil y1)) ∙ sym (append_assoc x (y1 ++ []) y2)

  joins : (u z x y y1 y3 y2 : Toks) → u ≡ z ++ y2 → z ≡ x ++ y → y ≡ y1 ++ y3 → y3 ≡ [] → u ≡ x ++ (y1 ++ y2)
  joins u z x y y1 y3 y2 e e1 e2 none =
      e ∙ (ap (λ (t : Toks). t ++ y2) (e1 ∙ ap (λ (t : Toks). x ++ t) (e2 ∙ (ap (λ (t : Toks). y1 ++ t) none ∙ append-nil y1))) ∙ append_assoc x y1 y2)

  flat_whole : (v : V) (w : Bool) (u : Toks) → Flat.full v w u → Whole.full v w u
  flat_whole v w u (a, wa, x, y, e, ga, (b, wb, y1, y2, e1, hb, k)) =
      (make a b, false, x ++ (y1 ++ []), y2, e ∙ (ap (λ (z : Toks). x ++ z) e1 ∙ split_text x y1 y2), (a, wa, x, y1 ++ [], refl, ga, (b, wb, y1, [], refl, hb, (refl, refl, refl))), k)

  whole_flat : (v : V) (w : Bool) (u : Toks) → Whole.full v w u → Flat.full v w u
  whole_flat v w u (c, wc, z, y2, e, (a, wa, x, y, e1, ga, (b, wb, y1, y3, e2, hb, (is, shut, none))), k) =
      (a, wa, x, y1 ++ y2, joins u z x y y1 y3 y2 e e1 e2 none, ga, (b, wb, y1, y2, refl, hb, subst (λ (q : C). (K q).full v w y2) is k))

  flat_front : (u : Toks) → Flat.front u → Whole.front u
  flat_front u (inl q) = inl (inl q)
  flat_front u (inr (a, wa, x, y, e, ga, inl q)) = inl (inr (a, wa, x, y, e, ga, inl q))
  flat_front u (inr (a, wa, x, y, e, ga, inr (b, wb, y1, y2, e1, hb, k))) =
      inr (make a b, false, x ++ (y1 ++ []), y2, e ∙ (ap (λ (z : Toks). x ++ z) e1 ∙ split_text x y1 y2), (a, wa, x, y1 ++ [], refl, ga, (b, wb, y1, [], refl, hb, (refl, refl, refl))), k)

  whole_front : (u : Toks) → Whole.front u → Flat.front u
  whole_front u (inl (inl q)) = inl q
  whole_front u (inl (inr (a, wa, x, y, e, ga, inl q))) = inr (a, wa, x, y, e, ga, inl q)
  whole_front u (inl (inr (a, wa, x, y, e, ga, inr (b, wb, y1, y2, e1, hb, none)))) =
      inr (a, wa, x, y, e, ga, inr (b, wb, y1, y2, e1, hb, subst (λ (t : Toks). (K (make a b)).front t) (sym none) (nil (make a b))))
  whole_front u (inr (c, wc, z, y2, e, (a, wa, x, y, e1, ga, (b, wb, y1, y3, e2, hb, (is, shut, none))), k)) =
      inr (a, wa, x, y1 ++ y2, joins u z x y y1 y3 y2 e e1 e2 none, ga, inr (b, wb, y1, y2, refl, hb, subst (λ (q : C). (K q).front y2) is k))

  pub regroup : Same Flat Whole
  regroup = record { to = flat_whole; from = whole_flat; to_front = flat_front; from_front = whole_front }

-- three one after another, where the grammar has the first two as one part
pub group : {A B V : Type 0} (g : Form A) (h : A → Bool → Form B) (k : B → Bool → Form V) → Same (chain g (λ a w. chain (h a w) k)) (chain (chain g h) k)
group {A} {B} {V} g h k = record { to = to; from = from; to_front = to_front; from_front = from_front } where
  left_text : (u x y y1 y2 : Toks) → u ≡ x ++ y → y ≡ y1 ++ y2 → u ≡ (x ++ y1) ++ y2
  left_text u x y y1 y2 e e' = e ∙ (ap (λ (z : Toks). x ++ z) e' ∙ sym (append_assoc x y1 y2))

  right_text : (u z y2 x y1 : Toks) → u ≡ z ++ y2 → z ≡ x ++ y1 → u ≡ x ++ (y1 ++ y2)
  right_text u z y2 x y1 e e' = e ∙ (ap (λ (t : Toks). t ++ y2) e' ∙ append_assoc x y1 y2)

  to : (b : V) (v : Bool) (u : Toks) → (chain g (λ a w. chain (h a w) k)).full b v u → (chain (chain g h) k).full b v u
  to b v u (a, w, x, y, e, q, (c, w', y1, y2, e', q', r)) = (c, w', x ++ y1, y2, left_text u x y y1 y2 e e', (a, w, x, y1, refl, q, q'), r)

  from : (b : V) (v : Bool) (u : Toks) → (chain (chain g h) k).full b v u → (chain g (λ a w. chain (h a w) k)).full b v u
  from b v u (c, w', z, y2, e, (a, w, x, y1, e', q, q'), r) = (a, w, x, y1 ++ y2, right_text u z y2 x y1 e e', q, (c, w', y1, y2, refl, q', r))

  to_front : (u : Toks) → (chain g (λ a w. chain (h a w) k)).front u → (chain (chain g h) k).front u
  to_front u (inl q) = inl (inl q)
  to_front u (inr (a, w, x, y, e, q, inl r)) = inl (inr (a, w, x, y, e, q, r))
  to_front u (inr (a, w, x, y, e, q, inr (c, w', y1, y2, e', q', r))) = inr (c, w', x ++ y1, y2, left_text u x y y1 y2 e e', (a, w, x, y1, refl, q, q'), r)

  from_front : (u : Toks) → (chain (chain g h) k).front u → (chain g (λ a w. chain (h a w) k)).front u
  from_front u (inl (inl q)) = inl q
  from_front u (inl (inr (a, w, x, y, e, q, r))) = inr (a, w, x, y, e, q, inl r)
  from_front u (inr (c, w', z, y2, e, (a, w, x, y1, e', q, q'), r)) = inr (a, w, x, y1 ++ y2, right_text u z y2 x y1 e e', q, inr (c, w', y1, y2, refl, q', r))

module _ {I : Type 0} {R : I → I → Type 0} where
  -- ---- nothing

  pub give_sub : {A : Type 0} {D : Bool → Classes} {P : Classes} (a : A) (w : Bool) (F : Bool → Classes) → Sub (D w) P → Rule R true P (F w) (λ i. pure a) (λ i. just a w) D F
  give_sub {A} {D} {P} a w F less = record {
    laws = λ i. just_one a w P D F less;
    local = λ i. pure_local a;
    slow = λ e i. even_slow (pure a) (λ ts. refl);
    upper = λ i j r. even_slow (pure a) (λ ts. refl);
    steady = λ i j r. even_steady (pure a) (λ ts. refl);
  }

  -- a value, of which nothing is said
  pub give : {A : Type 0} {P : Classes} (a : A) (w : Bool) (F : Bool → Classes) → Rule R true P (F w) (λ i. pure a) (λ i. just a w) Nothing F
  give a w F = give_sub a w F (λ c e. absurd cc)

  -- a value that hands on what is said of the flag
  pub hand : {A : Type 0} {D : Bool → Classes} (a : A) (w : Bool) (F : Bool → Classes) → Rule R true (D w) (F w) (λ i. pure a) (λ i. just a w) D F
  hand {A} {D} a w F = give_sub a w F (sub_same (D w))

  pub refused : {A : Type 0} {P : Classes} (F : Bool → Classes) → Rule R true P [] (λ i. refuse {A = A}) (λ i. never) Nothing F
  refused {A} {P} F = record {
    laws = λ i. stop_one At P [] Nothing F;
    local = λ i. stop_local At;
    slow = λ e i. even_slow (refuse {A = A}) (λ ts. refl);
    upper = λ i j r. even_slow (refuse {A = A}) (λ ts. refl);
    steady = λ i j r. even_steady (refuse {A = A}) (λ ts. refl);
  }

  -- ---- one after another

  pub seq_sub : {A B : Type 0} {s t : Bool} {P L : Classes} {M : Bool → Classes} {p : I → Parser A} {g : I → Form A} {E G : Bool → Classes} {k : I → A → Parser B} {h : I → A → Bool → Form B} {D F : Bool → Classes}
      → Rule R s P L p g E G
      → ((a : A) (w : Bool) → Rule R t (E w) (M w) (λ i. k i a) (λ i. h i a w) D F)
      → ((w : Bool) → Sub (M w) (G w))
      → Rule R (s && t) P L (λ i. p i >>= k i) (λ i. chain (g i) (h i)) D F
  seq_sub {A} {B} {s} {t} {P} {L} {M} {p} {g} {E} {G} {k} {h} {D} {F} first rest fit = record {
    laws = λ i. chain_one (first.laws i) (λ a w. (rest a w).laws i) fit (λ a. (rest a false).local i);
    local = λ i. chain_local (p i) (k i) (first.local i) (λ a. (rest a false).local i);
    slow = λ e i. chain_slow (p i) (k i) (first.local i) (λ a. (rest a false).slow (and_parts _ _ e).1 i) (first.slow (and_parts _ _ e).0 i);
    upper = λ i j r. chain_slow (p j) (k j) (first.local j) (λ a. (rest a false).upper i j r) (first.upper i j r);
    steady = λ i j r. chain_steady (p i) (p j) (k i) (k j) (λ a. (rest a false).local j) (first.steady i j r) (λ a. (rest a false).steady i j r) (λ a. (rest a false).upper i j r);
  }

  -- what begins the second may follow the first
  pub seq : {A B : Type 0} {s t : Bool} {P L : Classes} {M : Bool → Classes} {p : I → Parser A} {g : I → Form A} {E G : Bool → Classes} {k : I → A → Parser B} {h : I → A → Bool → Form B} {D F : Bool → Classes}
      → Rule R s P L p g E G
      → ((a : A) (w : Bool) → Rule R t (E w) (M w) (λ i. k i a) (λ i. h i a w) D F)
      → ((w : Bool) → within (M w) (G w) ≡ true)
      → Rule R (s && t) P L (λ i. p i >>= k i) (λ i. chain (g i) (h i)) D F
  seq {A} {B} {s} {t} {P} {L} {M} {p} {g} {E} {G} {k} {h} {D} {F} first rest fit =
      seq_sub first rest (λ w. within_sub (M w) (G w) (fit w))

  -- ---- a token, and then anything

  pub behind : {A B : Type 0} {s : Bool} {M : Classes} {k : I → A → Parser B} {h : I → A → Form B} {D F : Bool → Classes} (f : TokenKind → Option A) (L : Classes)
      → ((t : TokenKind) (a : A) → f t ≡ Some a → is_in L (class_of t) ≡ true)
      → ((a : A) → Rule R s [] M (λ i. k i a) (λ i. h i a) D F)
      → ((i : I) (a : A) → Local (k i a))
      → Rule R true [] L (λ i. one f >>= k i) (λ i. chain (form.one f) (λ a _. h i a)) D F
  behind {A} {B} {s} {M} {k} {h} {D} {F} f L sees rest k_local = record {
    laws = λ i. chain_one (one_one f L sees (λ w. M)) (λ a w. (rest a).laws i) (λ w. sub_same M) (k_local i);
    local = λ i. chain_local (one f) (k i) (one_local f) (k_local i);
    slow = λ e i. token_slow f (k i) (k_local i);
    upper = λ i j r. token_slow f (k j) (k_local j);
    steady = λ i j r. even_chain (one f) (one_even f) (k i) (k j) (λ a. (rest a).steady i j r);
  }

  pub tok : {B : Type 0} {s : Bool} {M : Classes} {q : I → Parser B} {h : I → Form B} {D F : Bool → Classes} (c : ℕ)
      → Rule R s [] M q h D F → Rule R true [] (c ∷ []) (λ i. expect c >> q i) (λ i. token c (h i)) D F
  unfolding expect
  tok c inner = behind (has_class c) (c ∷ []) (class_sees c) (λ a. inner) (λ i a. inner.local i)

  -- an operator of the table, and then anything
  pub op : {O B : Type 0} {s : Bool} {M : Classes} {k : I → O → Parser B} {h : I → O → Form B} {D F : Bool → Classes} (table : List (ℕ × O))
      → ((o : O) → Rule R s [] M (λ i. k i o) (λ i. h i o) D F)
      → Rule R true [] (keys table) (λ i. one (operator_of table) >>= k i) (λ i. chain (form.one (operator_of table)) (λ o _. h i o)) D F
  op table rest = behind (operator_of table) (keys table) (λ t o e. key_of table (class_of t) o e) rest (λ i o. (rest o).local i)

  -- ---- by the next token

  pub choose_sub : {A : Type 0} {s t : Bool} {L M : Classes} {p q : I → Parser A} {g h : I → Form A} {D F : Bool → Classes} (table N : Classes)
      → Rule R s [] L p g D F → Rule R t N M q h D F
      → ((c : ℕ) → is_in table c ≡ false → is_in N c ≡ false)
      → Sub L table → Apart M table → is_in table 11 ≡ false
      → Rule R (s && t) [] (L ++ M) (λ i. by table (p i) (q i)) (λ i. either (g i) (h i)) D F
  choose_sub {A} {s} {t} {L} {M} {p} {q} {g} {h} {D} {F} table N first second known here there real = record {
    laws = λ i. by_one table (p i) (q i) (first.laws i) (second.laws i) (λ c e pre. known c e) here there real (local_nil (q i) (second.local i));
    local = λ i. by_local table (p i) (q i) real (first.local i) (second.local i);
    slow = λ e i. by_slow table (p i) (q i) (first.slow (and_parts _ _ e).0 i) (second.slow (and_parts _ _ e).1 i);
    upper = λ i j r. by_slow table (p j) (q j) (first.upper i j r) (second.upper i j r);
    steady = λ i j r. by_steady table (p i) (q i) (p j) (q j) (first.steady i j r) (second.steady i j r);
  }

  pub choose : {A : Type 0} {s t : Bool} {L M : Classes} {p q : I → Parser A} {g h : I → Form A} {D F : Bool → Classes} (table : Classes)
      → Rule R s [] L p g D F → Rule R t [] M q h D F → fits table L M ≡ true
      → Rule R (s && t) [] (L ++ M) (λ i. by table (p i) (q i)) (λ i. either (g i) (h i)) D F
  choose {A} {s} {t} {L} {M} table first second e =
      choose_sub table [] first second (λ c e. refl) (within_sub L table (and_parts _ _ e).0) (λ c is. clear_apart (11 ∷ M) table (and_parts _ _ e).1 c (sub_tail 11 M c is)) (fit_real table L M e)

  -- the second knows that no class of the table comes next
  pub choose_else : {A : Type 0} {s t : Bool} {L M : Classes} {p q : I → Parser A} {g h : I → Form A} {D F : Bool → Classes} (table : Classes)
      → Rule R s [] L p g D F → Rule R t table M q h D F → fits table L M ≡ true
      → Rule R (s && t) [] (L ++ M) (λ i. by table (p i) (q i)) (λ i. either (g i) (h i)) D F
  choose_else {A} {s} {t} {L} {M} table first second e =
      choose_sub table table first second (λ c e. e) (within_sub L table (and_parts _ _ e).0) (λ c is. clear_apart (11 ∷ M) table (and_parts _ _ e).1 c (sub_tail 11 M c is)) (fit_real table L M e)

  -- where the class is known not to be in the table
  pub pass : {A : Type 0} {s t : Bool} {P N L M : Classes} {p q : I → Parser A} {g h : I → Form A} {B D F G : Bool → Classes} (table : Classes)
      → Rule R s P L p g B G → Rule R t N M q h D F → within table N ≡ true → clear (11 ∷ M) table ≡ true
      → Rule R (s && t) N M (λ i. by table (p i) (q i)) h D F
  pass {A} {s} {t} {P} {N} {L} {M} {p} {q} {g} {h} {B} {D} {F} {G} table first second known apart =
      let real : is_in table 11 ≡ false = clear_apart (11 ∷ M) table apart 11 refl in
      record {
        laws = λ i. pass_one table (p i) (q i) (second.laws i) (within_sub table N known) (λ c is. clear_apart (11 ∷ M) table apart c (sub_tail 11 M c is)) real (local_nil (q i) (second.local i));
        local = λ i. by_local table (p i) (q i) real (first.local i) (second.local i);
        slow = λ e i. by_slow table (p i) (q i) (first.slow (and_parts _ _ e).0 i) (second.slow (and_parts _ _ e).1 i);
        upper = λ i j r. by_slow table (p j) (q j) (first.upper i j r) (second.upper i j r);
        steady = λ i j r. by_steady table (p i) (q i) (p j) (q j) (first.steady i j r) (second.steady i j r);
      }

  -- ---- other tables, other forms

  pub adapt : {A : Type 0} {s : Bool} {P L : Classes} {p : I → Parser A} {g : I → Form A} {D F : Bool → Classes} (Q K : Classes) (C G : Bool → Classes)
      → Rule R s P L p g D F → Sub P Q → Sub L K → ((w : Bool) → Sub (C w) (D w)) → ((w : Bool) → Sub (G w) (F w)) → Rule R s Q K p g C G
  adapt {A} {s} {P} {L} {p} {g} {D} {F} Q K C G r known more less fewer = record {
    laws = λ i. adapted (r.laws i);
    local = r.local;
    slow = r.slow;
    upper = r.upper;
    steady = r.steady;
  } where
    adapted : {q : Parser A} {h : Form A} → One P L q h D F → One Q K q h C G
    adapted {q} {h} x = record {
      reads = λ ts a pre e. moved (x.reads ts a (not_in P Q known (class_at ts) pre) e);
      takes = λ a w u rest y f. x.takes a w u rest y (fewer w (class_at rest) f);
      opens = λ a w u rest y f. more _ (x.opens a w u rest y (fewer w (class_at rest) f));
      leads = λ t u y. more _ (x.leads t u y);
      fronts = λ u pre e. x.fronts u (not_in P Q known (class_at u) pre) e;
      ends = x.ends;
      begun = x.begun;
    } where
      moved : {a : A} {ts rest : Toks} → Found h D a ts rest → Found h C a ts rest
      moved {a} {ts} {rest} f = record { flag = f.flag; text = f.text; parts = f.parts; form = f.form; ends = not_in (C f.flag) (D f.flag) (less f.flag) (class_at rest) f.ends }

  -- less is known of where it is too deep
  pub reflag : {A : Type 0} {s : Bool} {P L : Classes} {p : I → Parser A} {g : I → Form A} {D F : Bool → Classes} (t : Bool)
      → (t ≡ true → s ≡ true) → Rule R s P L p g D F → Rule R t P L p g D F
  reflag t less r = record { laws = r.laws; local = r.local; slow = λ e. r.slow (less e); upper = r.upper; steady = r.steady }

  -- less may follow
  pub narrow : {A : Type 0} {s : Bool} {P L : Classes} {p : I → Parser A} {g : I → Form A} {D F : Bool → Classes} (G : Bool → Classes)
      → ((w : Bool) → within (G w) (F w) ≡ true) → Rule R s P L p g D F → Rule R s P L p g D G
  narrow {A} {s} {P} {L} {p} {g} {D} {F} G less r = adapt P L D G r (sub_same P) (sub_same L) (λ w. sub_same (D w)) (λ w. within_sub (G w) (F w) (less w))

  -- more is known of what stands before it
  pub knowing : {A : Type 0} {s : Bool} {L : Classes} {p : I → Parser A} {g : I → Form A} {D F : Bool → Classes} (Q : Classes)
      → Rule R s [] L p g D F → Rule R s Q L p g D F
  knowing {A} {s} {L} {p} {g} {D} {F} Q r = adapt Q L D F r (λ c e. absurd cc) (sub_same L) (λ w. sub_same (D w)) (λ w. sub_same (F w))

  -- a form with the same spellings and fronts
  pub as_same : {A : Type 0} {s : Bool} {P L : Classes} {p : I → Parser A} {g h : I → Form A} {D F : Bool → Classes}
      → ((i : I) → Same (g i) (h i)) → Rule R s P L p g D F → Rule R s P L p h D F
  as_same {A} {s} {P} {L} {p} {g} {h} {D} {F} same r = record {
    laws = λ i. record {
      reads = λ ts a pre e. (let x = (r.laws i).reads ts a pre e in record { flag = x.flag; text = x.text; parts = x.parts; form = (same i).to a x.flag x.text x.form; ends = x.ends });
      takes = λ a w u rest y f. (r.laws i).takes a w u rest ((same i).from a w u y) f;
      opens = λ a w u rest y f. (r.laws i).opens a w u rest ((same i).from a w u y) f;
      leads = λ t u y. (r.laws i).leads t u ((same i).from_front (t ∷ u) y);
      fronts = λ u pre e. (same i).to_front u ((r.laws i).fronts u pre e);
      ends = λ u y. (r.laws i).ends u ((same i).from_front u y);
      begun = λ a w u y. (same i).to_front u ((r.laws i).begun a w u ((same i).from a w u y));
    };
    local = r.local;
    slow = r.slow;
    upper = r.upper;
    steady = r.steady;
  }

  -- ---- single tokens

  pub single : {A : Type 0} (f : TokenKind → Option A) (L : Classes) → ((t : TokenKind) (a : A) → f t ≡ Some a → is_in L (class_of t) ≡ true) → (F : Bool → Classes)
      → Rule R true [] L (λ i. one f) (λ i. form.one f) Nothing F
  single f L sees F = record {
    laws = λ i. one_one f L sees F;
    local = λ i. one_local f;
    slow = λ e i. even_slow (one f) (one_even f);
    upper = λ i j r. even_slow (one f) (one_even f);
    steady = λ i j r. even_steady (one f) (one_even f);
  }

  pub ident_rule : (F : Bool → Classes) → Rule R true [] (1 ∷ []) (λ i. ident) (λ i. named) Nothing F
  unfolding ident
  ident_rule F = single ident_of (1 ∷ []) ident_sees F

  pub number_rule : (F : Bool → Classes) → Rule R true [] (2 ∷ []) (λ i. number) (λ i. numeral) Nothing F
  unfolding number
  number_rule F = single number_of (2 ∷ []) number_sees F

  pub string_rule : (F : Bool → Classes) → Rule R true [] (3 ∷ []) (λ i. string) (λ i. quoted) Nothing F
  unfolding string
  string_rule F = single string_of (3 ∷ []) string_sees F

  pub operator_rule : {O : Type 0} (table : List (ℕ × O)) (F : Bool → Classes) → Rule R true [] (keys table) (λ i. one (operator_of table)) (λ i. form.one (operator_of table)) Nothing F
  operator_rule table F = single (operator_of table) (keys table) (λ t o e. key_of table (class_of t) o e) F

  -- the same, or nothing
  pub optional_rule : {O : Type 0} (table : List (ℕ × O)) (o : O) (F : Classes) → fits (keys table) (keys table) F ≡ true
      → Rule R true [] (keys table ++ F) (λ i. operator_or_else table o) (λ i. operator_or table o) Nothing (λ _. F)
  unfolding operator_or_else
  optional_rule table o F e = choose (keys table) (operator_rule table (λ _. F)) (give o false (λ _. F)) e

-- ---- two levels, and one

-- the second has one level more
abbrev pub Pair : Bool → Bool → Type 0
Pair i j = (i ≡ false) × (j ≡ true)

abbrev pub Alone : Unit {0} → Unit {0} → Type 0
Alone i j = ⊥

pub pair_rule : {A : Type 0} {P L : Classes} {D F : Bool → Classes} (p : Bool → Parser A) (g : Bool → Form A)
    → One P L (p false) (g false) D F → Local (p false) → One P L (p true) (g true) D F → Local (p true) → Slow (p true) → Steady (p false) (p true) → Rule Pair false P L p g D F
pair_rule {A} {P} {L} {D} {F} p g x lx y ly sl z = record { laws = laws; local = local; slow = λ e. absurd cc; upper = upper; steady = steady } where
  laws : (i : Bool) → One P L (p i) (g i) D F
  laws false = x
  laws true = y

  local : (i : Bool) → Local (p i)
  local false = lx
  local true = ly

  upper : (i j : Bool) → Pair i j → Slow (p j)
  upper i true e = sl
  upper i false e = absurd cc

  steady : (i j : Bool) → Pair i j → Steady (p i) (p j)
  steady false true e = z
  steady true j e = absurd cc
  steady false false e = absurd cc

pub alone_rule : {A : Type 0} {P L : Classes} {D F : Bool → Classes} {p : Parser A} {g : Form A} → One P L p g D F → Local p → Rule Alone false P L (λ i. p) (λ i. g) D F
alone_rule x l = record { laws = λ i. x; local = λ i. l; slow = λ e. absurd cc; upper = λ i j none. absurd none; steady = λ i j none. absurd none }

-- a test that holds of both flags
pub flags : (f : Bool → Bool) → f true ≡ true → f false ≡ true → (w : Bool) → f w ≡ true
flags f x y true = x
flags f x y false = y
