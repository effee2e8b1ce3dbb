-- Loops. A loop with room for n items is built of choices and sequences; with as much room as there are tokens it reads
-- as many items as there are.
use Rattle.std.specs.Prelude.{◌≡◌, ◌⊎◌, ℕ, zero, suc, ◌+◌, ◌≤◌, Bool, true, false, ◌&&◌, List, [], ◌∷◌, ◌++◌, length, Option, Some, None, Result, Ok, Err}
use Rattle.std.proofs.Common.{refl, sym, ap, subst, ◌∙◌, cond, inl, inr, append_assoc, arith, length-append}
use Rattle.std.proofs.lemmas.List.{append-nil, append_cancel_right}
use Rattle.std.proofs.lemmas.Bool.{and_parts}
use Rattle.dice_base.specs.declared.token.TokenKind.{TokenKind}
use Rattle.token_reader.specs.declared.stop.Stop.{Stop}
use Rattle.dice_base.specs.Tokens.{Toks, Classes, class_at, is_in, has_class}
use Rattle.dice_base.specs.Forms.{Form, just, chain, either, token, row, rows_behind, some_rows, list_of, ended_behind, ended_list}
use Rattle.dice_base.specs.Forms as form
use Rattle.token_reader.specs.Readers.{Outcome, Parser, then_of, one, one_of, ◌>>=◌, ◌>>◌, pure, by, expect, many_from, many, some, separated, ended_from, ended}
use Rattle.token_reader.specs.Tables.{within, clear}
use Rattle.token_reader.proofs.Tables.{Sub, Apart, within_sub, clear_apart, in_right, in_cases, sub_tail, sub_same}
use Rattle.token_reader.proofs.Laws.{Cut, One}
use Rattle.token_reader.proofs.Rules.{Rule, Nothing, give, seq_sub, choose_sub, adapt, reflag, knowing, tok}

-- ---- room as large as there are tokens

abbrev leaving : {B : Type 0} → Outcome B → Toks → Outcome B
leaving o r = (o.0, r)

module _ {I B : Type 0} {R : I → I → Type 0} {s : Bool} {P K : Classes} {D F : Bool → Classes} (q : ℕ → I → Parser B) (G : ℕ → I → Form B) (H : I → Form B)
    (rule : (n : ℕ) → Rule R s P K (q n) (G n) D F)
    (same : (i : I) (n m : ℕ) (ts : Toks) → length ts ≤ n → length ts ≤ m → q n i ts ≡ q m i ts)
    (to : (i : I) (n : ℕ) (b : B) (w : Bool) (u : Toks) → (G n i).full b w u → (H i).full b w u)
    (from : (i : I) (n : ℕ) (b : B) (w : Bool) (u : Toks) → (H i).full b w u → length u ≤ n → (G n i).full b w u)
    (to_front : (i : I) (n : ℕ) (u : Toks) → (G n i).front u → (H i).front u)
    (from_front : (i : I) (n : ℕ) (u : Toks) → (H i).front u → length u ≤ n → (G n i).front u)
  where
    abbrev all : I → Parser B
    all i ts = q (length ts) i ts

    self : (u : Toks) → length u ≤ length u
    self u = omega arith

    room_cut : (i : I) (ts : Toks) → Cut (all i) ts (q (length ts) i ts).0 (q (length ts) i ts).1
    room_cut i ts = go ((rule (length ts)).local i ts) where
      go : Cut (q (length ts) i) ts (q (length ts) i ts).0 (q (length ts) i ts).1 → Cut (all i) ts (q (length ts) i ts).0 (q (length ts) i ts).1
      go c = record {
        text = c.text;
        parts = c.parts;
        stays = λ t old other e. wide t old other e (length ts + length (c.text ++ t ∷ other)) ((rule (length ts + length (c.text ++ t ∷ other))).local i ts) (omega arith) (omega arith);
        ends = subst (λ (o : Outcome B). o.1 ≡ []) (same i (length ts) (length c.text) c.text (omega (arith, ap length c.parts, length-append c.text (q (length ts) i ts).1)) (self c.text)) c.ends;
      } where
        wide : (t : TokenKind) (old other : Toks) → (q (length ts) i ts).1 ≡ t ∷ old → (m : ℕ) → Cut (q m i) ts (q m i ts).0 (q m i ts).1 → length ts ≤ m → length (c.text ++ t ∷ other) ≤ m
            → all i (c.text ++ t ∷ other) ≡ ((q (length ts) i ts).0, t ∷ other)
        wide t old other e m d le le' =
            let eq : q m i ts ≡ q (length ts) i ts = same i m (length ts) ts le (self ts) in
            let texts : d.text ≡ c.text = append_cancel_right d.text c.text (q (length ts) i ts).1 (sym (d.parts ∙ ap (λ (o : Outcome B). d.text ++ o.1) eq) ∙ c.parts) in
            let more : q m i (d.text ++ t ∷ other) ≡ ((q m i ts).0, t ∷ other) = d.stays t old other (ap (λ (o : Outcome B). o.1) eq ∙ e) in
            same i (length (c.text ++ t ∷ other)) m (c.text ++ t ∷ other) (self (c.text ++ t ∷ other)) le'
            ∙ (ap (λ (z : Toks). q m i (z ++ t ∷ other)) (sym texts) ∙ (more ∙ ap (λ (o : Outcome B). leaving o (t ∷ other)) eq))

    pub room : Rule R s P K all H D F
    room = record {
      laws = λ i. record {
        reads = λ ts b pre e. (let x = ((rule (length ts)).laws i).reads ts b pre e in record { flag = x.flag; text = x.text; parts = x.parts; form = to i (length ts) b x.flag x.text x.form; ends = x.ends });
        takes = λ b w u rest x f. ((rule (length (u ++ rest))).laws i).takes b w u rest (from i (length (u ++ rest)) b w u x (omega (arith, length-append u rest))) f;
        opens = λ b w u rest x f. ((rule (length u)).laws i).opens b w u rest (from i (length u) b w u x (self u)) f;
        leads = λ t u x. ((rule (length (t ∷ u))).laws i).leads t u (from_front i (length (t ∷ u)) (t ∷ u) x (self (t ∷ u)));
        fronts = λ u pre e. to_front i (length u) u (((rule (length u)).laws i).fronts u pre e);
        ends = λ u x. ((rule (length u)).laws i).ends u (from_front i (length u) u x (self u));
        begun = λ b w u x. to_front i (length u) u (((rule (length u)).laws i).begun b w u (from i (length u) b w u x (self u)));
      };
      local = room_cut;
      slow = λ e i ts. (rule (length ts)).slow e i ts;
      upper = λ i j r ts. (rule (length ts)).upper i j r ts;
      steady = λ i j r. record { stable = λ ts e. ((rule (length ts)).steady i j r).stable ts e; later = λ ts e. ((rule (length ts)).steady i j r).later ts e };
    }

-- ---- an item that takes a token

module _ {A : Type 0} {table : Classes} {p : Parser A} {g : Form A} {D F : Bool → Classes} (item : One [] table p g D F) (real : is_in table 11 ≡ false) (last : (w : Bool) → is_in (F w) 11 ≡ true) where
  pub solid : (a : A) (w : Bool) → g.full a w [] → ⊥
  solid a w x = let here : is_in table 11 ≡ true = item.opens a w [] [] x (last w) in let bad : true ≡ false = sym here ∙ real in absurd cc

  pub longer : (a : A) (w : Bool) (u : Toks) → g.full a w u → suc zero ≤ length u
  longer a w [] x = absurd (solid a w x)
  longer a w (t ∷ u) x = omega arith

  pub shorter : (ts : Toks) (a : A) → (p ts).0 ≡ Ok a → suc (length (p ts).1) ≤ length ts
  shorter ts a e =
      let x = item.reads ts a refl e in
      omega (arith, ap length x.parts, length-append x.text (p ts).1, longer a x.flag x.text x.form)

-- ---- items, each of which begins with a token of the table

abbrev rows_at : {A : Type 0} → Form A → ℕ → List A → Form (List A)
rows_at g zero found = just found false
rows_at g (suc n) found = either (chain g (λ x _. rows_at g n (found ++ x ∷ []))) (just found false)

abbrev all_of : {A : Type 0} → Form A → List A → Toks → Type 0
all_of g more u = row g more u

module _ {A : Type 0} (table : Classes) (p : Parser A) (grows : (ts : Toks) (a : A) → (p ts).0 ≡ Ok a → suc (length (p ts).1) ≤ length ts) (real : is_in table 11 ≡ false) where
  many_same : (n m : ℕ) (found : List A) (ts : Toks) → length ts ≤ n → length ts ≤ m → many_from table p n found ts ≡ many_from table p m found ts
  unfolding many_from
  many_same zero zero found ts le le' = refl
  many_same zero (suc m) found [] le le' = rw real refl
  many_same zero (suc m) found (t ∷ ts) le le' = absurd (omega (arith, le))
  many_same (suc n) zero found [] le le' = rw real refl
  many_same (suc n) zero found (t ∷ ts) le le' = absurd (omega (arith, le'))
  many_same (suc n) (suc m) found ts le le' =
      ap (λ (o : Outcome (List A)). cond (is_in table (class_at ts)) o (Ok found, ts)) (step (p ts).0 refl (λ a us e e'. many_same n m (found ++ a ∷ []) us e e'))
    where
      step : (x : Result A Stop) → (p ts).0 ≡ x → ((a : A) (us : Toks) → length us ≤ n → length us ≤ m → many_from table p n (found ++ a ∷ []) us ≡ many_from table p m (found ++ a ∷ []) us)
          → then_of x (p ts).1 (λ a. many_from table p n (found ++ a ∷ [])) ≡ then_of x (p ts).1 (λ a. many_from table p m (found ++ a ∷ []))
      step (Ok a) is known = known a (p ts).1 (omega (arith, grows ts a is, le)) (omega (arith, grows ts a is, le'))
      step (Err e) is known = refl

module _ {A : Type 0} (g : Form A) (solid : (a : A) (w : Bool) (u : Toks) → g.full a w u → suc zero ≤ length u) where
  rows_to : (n : ℕ) (found xs : List A) (w : Bool) (u : Toks) → (rows_at g n found).full xs w u → (rows_behind g found).full xs w u
  rows_to zero found xs w u (is, shut, e) = ([], is ∙ sym (append-nil found), e, shut)
  rows_to (suc n) found xs w u (inl (x, v, u1, u2, e, gx, r)) =
      let (more, is, items, shut) = rows_to n (found ++ x ∷ []) xs w u2 r in
      (x ∷ more, is ∙ append_assoc found (x ∷ []) more, (v, u1, u2, e, gx, items), shut)
  rows_to (suc n) found xs w u (inr (is, shut, e)) = ([], is ∙ sym (append-nil found), e, shut)

  rows_from : (n : ℕ) (found more xs : List A) (w : Bool) (u : Toks) → xs ≡ found ++ more → row g more u → w ≡ false → length u ≤ n → (rows_at g n found).full xs w u
  rows_from zero found [] xs w u is e shut le = (is ∙ append-nil found, shut, e)
  rows_from (suc n) found [] xs w u is e shut le = inr (is ∙ append-nil found, shut, e)
  rows_from zero found (x ∷ more) xs w u is (v, u1, u2, e, gx, items) shut le = absurd (omega (arith, le, ap length e, length-append u1 u2, solid x v u1 gx))
  rows_from (suc n) found (x ∷ more) xs w u is (v, u1, u2, e, gx, items) shut le =
      inl (x, v, u1, u2, e, gx, rows_from n (found ++ x ∷ []) more xs w u2 (is ∙ sym (append_assoc found (x ∷ []) more)) items shut (omega (arith, le, ap length e, length-append u1 u2, solid x v u1 gx)))

  rows_to_front : (n : ℕ) (found : List A) (u : Toks) → (rows_at g n found).front u → (rows_behind g found).front u
  rows_to_front zero found u e = ([], [], u, refl, refl, inr e)
  rows_to_front (suc n) found u (inl (inl gf)) = ([], [], u, refl, refl, inl gf)
  rows_to_front (suc n) found u (inl (inr (x, v, u1, u2, e, gx, r))) =
      let (more, x1, y1, e1, items, z) = rows_to_front n (found ++ x ∷ []) u2 r in
      (x ∷ more, u1 ++ x1, y1, e ∙ (ap (λ (t : Toks). u1 ++ t) e1 ∙ sym (append_assoc u1 x1 y1)), (v, u1, x1, refl, gx, items), z)
  rows_to_front (suc n) found u (inr e) = ([], [], u, refl, refl, inr e)

  nil_of_le : (u : Toks) → length u ≤ zero → u ≡ []
  nil_of_le [] le = refl
  nil_of_le (t ∷ u) le = absurd (omega (arith, le))

  rows_from_front : (n : ℕ) (found more : List A) (x y u : Toks) → u ≡ x ++ y → row g more x → g.front y ⊎ (y ≡ []) → length u ≤ n → (rows_at g n found).front u
  rows_from_front zero found more x y u e items z le = nil_of_le u le
  rows_from_front (suc n) found [] x y u e items (inl gf) le = inl (inl (subst (λ (t : Toks). g.front t) (sym (e ∙ ap (λ (t : Toks). t ++ y) items)) gf))
  rows_from_front (suc n) found [] x y u e items (inr nil) le = inr (e ∙ (ap (λ (t : Toks). t ++ y) items ∙ nil))
  rows_from_front (suc n) found (a ∷ more) x y u e (v, u1, x1, e1, gx, items) z le =
      inl (inr (
        a,
        v,
        u1,
        x1 ++ y,
        e ∙ (ap (λ (t : Toks). t ++ y) e1 ∙ append_assoc u1 x1 y),
        gx,
        rows_from_front n (found ++ a ∷ []) more x1 y (x1 ++ y) refl items z (omega (arith, le, ap length e, length-append x y, ap length e1, length-append u1 x1, length-append x1 y, solid a v u1 gx)),
      ))

module _ {I A : Type 0} {R : I → I → Type 0} {s : Bool} {table : Classes} {p : I → Parser A} {g : I → Form A} {D F : Bool → Classes} (item : Rule R s [] table p g D F) (G : Classes) where
  -- an item, and what may follow the items, may follow an item; the end is among the latter, and none of them begins an item
  abbrev pub repeats : Bool → Bool
  repeats w = within table (F w) && (within (11 ∷ G) (F w) && clear (11 ∷ G) table)

  module _ (fit : (w : Bool) → repeats w ≡ true) where
    again : (w : Bool) → Sub (table ++ G) (F w)
    again w c e = elim (in_cases table G c e) [
      | inl here ↦ within_sub table (F w) (and_parts _ _ (fit w)).0 c here
      | inr there ↦ within_sub (11 ∷ G) (F w) (and_parts _ _ (and_parts _ _ (fit w)).1).0 c (sub_tail 11 G c there)
    ]

    last : (w : Bool) → is_in (F w) 11 ≡ true
    last w = within_sub (11 ∷ G) (F w) (and_parts _ _ (and_parts _ _ (fit w)).1).0 11 refl

    apart : Apart (11 ∷ G) table
    apart = clear_apart (11 ∷ G) table (and_parts _ _ (and_parts _ _ (fit false)).1).1

    many_at : (n : ℕ) (found : List A) → Rule R s [] (table ++ G) (λ i. many_from table (p i) n found) (λ i. rows_at (g i) n found) Nothing (λ _. G)
    unfolding many_from
    many_at zero found = reflag s (λ e. refl) (adapt [] (table ++ G) Nothing (λ _. G) (give {P = []} found false (λ _. G)) (sub_same []) (in_right table G) (λ w. sub_same []) (λ w. sub_same G))
    many_at (suc n) found =
        reflag s (λ e. rw e refl) (choose_sub table [] (seq_sub item (λ x w. knowing (D w) (many_at n (found ++ x ∷ []))) again) (give found false (λ _. G))
        (λ c e. refl) (sub_same table) (λ c e. apart c (sub_tail 11 G c e)) (apart 11 refl))

    pub many_rule : (found : List A) → Rule R s [] (table ++ G) (λ i. many table (p i) found) (λ i. rows_behind (g i) found) Nothing (λ _. G)
    many_rule found =
        room (λ n i. many_from table (p i) n found) (λ n i. rows_at (g i) n found) (λ i. rows_behind (g i) found)
        (λ n. many_at n found)
        (λ i n m ts le le'. many_same table (p i) (shorter (item.laws i) (apart 11 refl) last) (apart 11 refl) n m found ts le le')
        (λ i n xs w u x. rows_to (g i) (long i) n found xs w u x)
        (λ i n xs w u (more, is, items, shut) le. rows_from (g i) (long i) n found more xs w u is items shut le)
        (λ i n u x. rows_to_front (g i) (long i) n found u x)
        (λ i n u (more, x, y, e, items, z) le. rows_from_front (g i) (long i) n found more x y u e items z le)
      where
        long : (i : I) (a : A) (w : Bool) (u : Toks) → (g i).full a w u → suc zero ≤ length u
        long i = longer (item.laws i) (apart 11 refl) last

    -- ---- one or more

    pub some_rule : Rule R (s && s) [] table (λ i. some table (p i)) (λ i. some_rows (g i)) Nothing (λ _. G)
    unfolding some
    some_rule = seq_sub item (λ x w. knowing (D w) (many_rule (x ∷ []))) again

-- ---- one or more, with a separator between

module _ {I A : Type 0} {R : I → I → Type 0} {s : Bool} {L : Classes} {p : I → Parser A} {g : I → Form A} {D F : Bool → Classes} (c : ℕ) (G : Classes) (item : Rule R s [] L p g D F) where
  abbrev parts : Rule R true [] (c ∷ []) (λ i. expect c >> p i) (λ i. token c (g i)) D F
  parts = tok c item

  pub list_rule : ((w : Bool) → repeats parts G w ≡ true) → Rule R (s && true) [] L (λ i. separated c (p i)) (λ i. list_of c (g i)) Nothing (λ _. G)
  unfolding separated
  list_rule fit = seq_sub item (λ x w. knowing (D w) (many_rule parts G fit (x ∷ []))) (again parts G fit)

-- ---- the same, where the separator may stand behind the last too

abbrev ended_at : {A : Type 0} → ℕ → Form A → ℕ → List A → Form (List A)
ended_at c g zero found = just found false
ended_at c g (suc n) found = either (token c (either (chain g (λ x _. ended_at c g n (found ++ x ∷ []))) (just found false))) (just found false)

one_shorter : {A : Type 0} (f : TokenKind → Option A) (ts : Toks) (a : A) → (one f ts).0 ≡ Ok a → suc (length (one f ts).1) ≤ length ts
one_shorter f [] a e = absurd cc
one_shorter {A} f (t ∷ ts) a e = go (f t) e where
  go : (o : Option A) → (one_of o t ts).0 ≡ Ok a → suc (length (one_of o t ts).1) ≤ suc (length ts)
  go None e = absurd cc
  go (Some b) e = omega arith

module _ {A : Type 0} (c : ℕ) (table : Classes) (p : Parser A) (grows : (ts : Toks) (a : A) → (p ts).0 ≡ Ok a → suc (length (p ts).1) ≤ length ts) (real : is_in (c ∷ []) 11 ≡ false) where
  ended_same : (n m : ℕ) (found : List A) (ts : Toks) → length ts ≤ n → length ts ≤ m → ended_from c table p n found ts ≡ ended_from c table p m found ts
  unfolding ended_from expect
  ended_same zero zero found ts le le' = refl
  ended_same zero (suc m) found [] le le' = rw real refl
  ended_same zero (suc m) found (t ∷ ts) le le' = absurd (omega (arith, le))
  ended_same (suc n) zero found [] le le' = rw real refl
  ended_same (suc n) zero found (t ∷ ts) le le' = absurd (omega (arith, le'))
  ended_same (suc n) (suc m) found ts le le' =
      ap (λ (o : Outcome (List A)). cond (is_in (c ∷ []) (class_at ts)) o (Ok found, ts)) (sep (one (has_class c) ts).0 refl (λ a us e e'. ended_same n m (found ++ a ∷ []) us e e'))
    where
      Known : Type 0
      Known = (a : A) (us : Toks) → length us ≤ n → length us ≤ m → ended_from c table p n (found ++ a ∷ []) us ≡ ended_from c table p m (found ++ a ∷ []) us

      step : (us : Toks) → length us ≤ n → length us ≤ m → (x : Result A Stop) → (p us).0 ≡ x → Known
          → then_of x (p us).1 (λ a. ended_from c table p n (found ++ a ∷ [])) ≡ then_of x (p us).1 (λ a. ended_from c table p m (found ++ a ∷ []))
      step us le le' (Ok a) is known = known a (p us).1 (omega (arith, grows us a is, le)) (omega (arith, grows us a is, le'))
      step us le le' (Err e) is known = refl

      sep : (x : Result (Unit {0}) Stop) → (one (has_class c) ts).0 ≡ x → Known
          → then_of x (one (has_class c) ts).1 (λ _. by table (p >>= (λ a. ended_from c table p n (found ++ a ∷ []))) (pure found))
          ≡ then_of x (one (has_class c) ts).1 (λ _. by table (p >>= (λ a. ended_from c table p m (found ++ a ∷ []))) (pure found))
      sep (Ok a) is known =
          let us = (one (has_class c) ts).1 in
          let fewer = one_shorter (has_class c) ts a is in
          ap (λ (o : Outcome (List A)). cond (is_in table (class_at us)) o (Ok found, us)) (step us (omega (arith, fewer, le)) (omega (arith, fewer, le')) (p us).0 refl known)
      sep (Err e) is known = refl

-- where the parts of a text stand
joined : (u u1 u2 u3 u4 x y : Toks) → u ≡ u1 ++ u2 → u2 ≡ u3 ++ u4 → u4 ≡ x ++ y → u ≡ ((u1 ++ u3) ++ x) ++ y
joined u u1 u2 u3 u4 x y e e' e'' =
    e ∙ (ap (λ (z : Toks). u1 ++ z) (e' ∙ ap (λ (z : Toks). u3 ++ z) e'')
    ∙ (sym (append_assoc u1 u3 (x ++ y)) ∙ sym (append_assoc (u1 ++ u3) x y)))

parted : (u x y x1 x2 u1 u3 : Toks) → u ≡ x ++ y → x ≡ x1 ++ x2 → x1 ≡ u1 ++ u3 → u ≡ u1 ++ (u3 ++ (x2 ++ y))
parted u x y x1 x2 u1 u3 e e' e'' =
    e ∙ (ap (λ (z : Toks). z ++ y) (e' ∙ ap (λ (z : Toks). z ++ x2) e'')
    ∙ (append_assoc (u1 ++ u3) x2 y ∙ append_assoc u1 u3 (x2 ++ y)))

module _ {A : Type 0} (c : ℕ) (g : Form A) where
  nil_or : (u : Toks) → length u ≤ zero → u ≡ []
  nil_or [] le = refl
  nil_or (t ∷ u) le = absurd (omega (arith, le))

  here : (u x y : Toks) → u ≡ x ++ y → x ≡ [] → u ≡ y
  here u x y e nil = e ∙ ap (λ (z : Toks). z ++ y) nil

  ended_to : (n : ℕ) (found xs : List A) (w : Bool) (u : Toks) → (ended_at c g n found).full xs w u → (ended_behind c g found).full xs w u
  ended_to zero found xs w u r = (found, false, [], u, refl, ([], sym (append-nil found), refl, refl), inr r)
  ended_to (suc n) found xs w u (inr r) = (found, false, [], u, refl, ([], sym (append-nil found), refl, refl), inr r)
  ended_to (suc n) found xs w u (inl (a, w0, u1, u2, e, sep, inr r)) = (found, false, [], u, refl, ([], sym (append-nil found), refl, refl), inl (a, w0, u1, u2, e, sep, r))
  ended_to (suc n) found xs w u (inl (a, w0, u1, u2, e, sep, inl (x, v, u3, u4, e1, gx, r))) =
      let (ys, w1, x1, y1, e2, (more, is, items, shut), z) = ended_to n (found ++ x ∷ []) xs w u4 r in
      (ys, w1, (u1 ++ u3) ++ x1, y1, joined u u1 u2 u3 u4 x1 y1 e e1 e2, (x ∷ more, is ∙ append_assoc found (x ∷ []) more, (v, u1 ++ u3, x1, refl, (a, w0, u1, u3, refl, sep, gx), items), shut), z)

  ended_from_form : (n : ℕ) (found more ys xs : List A) (w : Bool) (u x y : Toks) → u ≡ x ++ y → ys ≡ found ++ more → row (token c g) more x
      → (either (token c (just ys false)) (just ys false)).full xs w y → length u ≤ n → (ended_at c g n found).full xs w u
  ended_from_form zero found [] ys xs w u x y e is items (inr (q, shut, nil)) le = (q ∙ (is ∙ append-nil found), shut, here u x y e items ∙ nil)
  ended_from_form (suc n) found [] ys xs w u x y e is items (inr (q, shut, nil)) le = inr (q ∙ (is ∙ append-nil found), shut, here u x y e items ∙ nil)
  ended_from_form zero found [] ys xs w u x y e is items (inl (a, w0, u1, u2, e1, (t, et, k, sh), r)) le =
      absurd (omega (arith, le, ap length (here u x y e items), ap length e1, length-append u1 u2, ap length et))
  ended_from_form (suc n) found [] ys xs w u x y e is items (inl (a, w0, u1, u2, e1, sep, (q, shut, nil))) le =
      inl (a, w0, u1, u2, here u x y e items ∙ e1, sep, inr (q ∙ (is ∙ append-nil found), shut, nil))
  ended_from_form zero found (b ∷ more) ys xs w u x y e is (v, x1, x2, e1, (a, w0, u1, u3, e2, (t, et, k, sh), gx), items) z le =
      absurd (omega (arith, le, ap length (parted u x y x1 x2 u1 u3 e e1 e2), length-append u1 (u3 ++ (x2 ++ y)), ap length et))
  ended_from_form (suc n) found (b ∷ more) ys xs w u x y e is (v, x1, x2, e1, (a, w0, u1, u3, e2, (t, et, k, sh), gx), items) z le =
      inl (
        a,
        w0,
        u1,
        u3 ++ (x2 ++ y),
        parted u x y x1 x2 u1 u3 e e1 e2,
        (t, et, k, sh),
        inl (
          b,
          v,
          u3,
          x2 ++ y,
          refl,
          gx,
          ended_from_form n (found ++ b ∷ []) more ys xs w (x2 ++ y) x2 y refl (is ∙ sym (append_assoc found (b ∷ []) more)) items z
              (omega (arith, le, ap length (parted u x y x1 x2 u1 u3 e e1 e2), length-append u1 (u3 ++ (x2 ++ y)), length-append u3 (x2 ++ y), ap length et)),
        ),
      )

  ended_to_front : (n : ℕ) (found : List A) (u : Toks) → (ended_at c g n found).front u → (ended_behind c g found).front u
  ended_to_front zero found u e = inl ([], [], u, refl, refl, inr e)
  ended_to_front (suc n) found u (inr e) = inl ([], [], u, refl, refl, inr e)
  ended_to_front (suc n) found u (inl (inl o)) = inl ([], [], u, refl, refl, inl (inl o))
  ended_to_front (suc n) found u (inl (inr (a, w0, u1, u2, e, sep, inr nil))) = inr (found, false, [], u, refl, ([], sym (append-nil found), refl, refl), inl (inr (a, w0, u1, u2, e, sep, nil)))
  ended_to_front (suc n) found u (inl (inr (a, w0, u1, u2, e, sep, inl (inl gf)))) = inl ([], [], u, refl, refl, inl (inr (a, w0, u1, u2, e, sep, gf)))
  ended_to_front (suc n) found u (inl (inr (a, w0, u1, u2, e, sep, inl (inr (x, v, u3, u4, e1, gx, r))))) = more_of (ended_to_front n (found ++ x ∷ []) u4 r) where
    more_of : (ended_behind c g (found ++ x ∷ [])).front u4 → (ended_behind c g found).front u
    more_of (inl (more, x1, y1, e2, items, z)) = inl (x ∷ more, (u1 ++ u3) ++ x1, y1, joined u u1 u2 u3 u4 x1 y1 e e1 e2, (v, u1 ++ u3, x1, refl, (a, w0, u1, u3, refl, sep, gx), items), z)
    more_of (inr (ys, w1, x1, y1, e2, (more, is, items, shut), z)) =
        inr (ys, w1, (u1 ++ u3) ++ x1, y1, joined u u1 u2 u3 u4 x1 y1 e e1 e2, (x ∷ more, is ∙ append_assoc found (x ∷ []) more, (v, u1 ++ u3, x1, refl, (a, w0, u1, u3, refl, sep, gx), items), shut), z)

  -- behind the items: a part of one more, or what may end the list
  abbrev Tail : List A → Toks → Type 0
  Tail ys y = ((token c g).front y ⊎ (y ≡ [])) ⊎ (either (token c (just ys false)) (just ys false)).front y

  ended_from_front : (n : ℕ) (found more ys : List A) (u x y : Toks) → u ≡ x ++ y → row (token c g) more x → Tail ys y → length u ≤ n → (ended_at c g n found).front u
  ended_from_front zero found more ys u x y e items z le = nil_or u le
  ended_from_front (suc n) found [] ys u x y e items (inl (inr nil)) le = inr (here u x y e items ∙ nil)
  ended_from_front (suc n) found [] ys u x y e items (inl (inl (inl o))) le = inl (inl (subst (λ (t : Toks). (form.one (has_class c)).front t) (sym (here u x y e items)) o))
  ended_from_front (suc n) found [] ys u x y e items (inl (inl (inr (a, w0, u1, u2, e1, sep, gf)))) le = inl (inr (a, w0, u1, u2, here u x y e items ∙ e1, sep, inl (inl gf)))
  ended_from_front (suc n) found [] ys u x y e items (inr (inl (inl o))) le = inl (inl (subst (λ (t : Toks). (form.one (has_class c)).front t) (sym (here u x y e items)) o))
  ended_from_front (suc n) found [] ys u x y e items (inr (inl (inr (a, w0, u1, u2, e1, sep, nil)))) le = inl (inr (a, w0, u1, u2, here u x y e items ∙ e1, sep, inr nil))
  ended_from_front (suc n) found [] ys u x y e items (inr (inr nil)) le = inr (here u x y e items ∙ nil)
  ended_from_front (suc n) found (b ∷ more) ys u x y e (v, x1, x2, e1, (a, w0, u1, u3, e2, (t, et, k, sh), gx), items) z le =
      inl (inr (
        a,
        w0,
        u1,
        u3 ++ (x2 ++ y),
        parted u x y x1 x2 u1 u3 e e1 e2,
        (t, et, k, sh),
        inl (inr (
          b,
          v,
          u3,
          x2 ++ y,
          refl,
          gx,
          ended_from_front n (found ++ b ∷ []) more ys (x2 ++ y) x2 y refl items z
              (omega (arith, le, ap length (parted u x y x1 x2 u1 u3 e e1 e2), length-append u1 (u3 ++ (x2 ++ y)), length-append u3 (x2 ++ y), ap length et)),
        )),
      ))

  ended_front : (n : ℕ) (found : List A) (u : Toks) → (ended_behind c g found).front u → length u ≤ n → (ended_at c g n found).front u
  ended_front n found u (inl (more, x, y, e, items, z)) le = ended_from_front n found more found u x y e items (inl z) le
  ended_front n found u (inr (ys, w, x, y, e, (more, is, items, shut), z)) le = ended_from_front n found more ys u x y e items (inr z) le

module _ {I A : Type 0} {R : I → I → Type 0} {table : Classes} {p : I → Parser A} {g : I → Form A} {D F : Bool → Classes} (c : ℕ) (G : Classes) (item : Rule R true [] table p g D F)
    (fit : (w : Bool) → repeats (tok c item) G w ≡ true) (clears : clear (11 ∷ G) table ≡ true)
  where
    off : Apart (11 ∷ G) table
    off = clear_apart (11 ∷ G) table clears

    sep_off : Apart (11 ∷ G) (c ∷ [])
    sep_off = apart (tok c item) G fit

    ended_n : (n : ℕ) (found : List A) → Rule R true [] ((c ∷ []) ++ G) (λ i. ended_from c table (p i) n found) (λ i. ended_at c (g i) n found) Nothing (λ _. G)
    unfolding ended_from
    ended_n zero found = adapt [] ((c ∷ []) ++ G) Nothing (λ _. G) (give {P = []} found false (λ _. G)) (sub_same []) (in_right (c ∷ []) G) (λ w. sub_same []) (λ w. sub_same G)
    ended_n (suc n) found =
        choose_sub (c ∷ []) []
        (tok c (choose_sub table [] (seq_sub item (λ x w. knowing (D w) (ended_n n (found ++ x ∷ []))) (again (tok c item) G fit)) (give found false (λ _. G))
        (λ k e. refl) (sub_same table) (λ k e. off k (sub_tail 11 G k e)) (off 11 refl)))
        (give found false (λ _. G))
        (λ k e. refl) (sub_same (c ∷ [])) (λ k e. sep_off k (sub_tail 11 G k e)) (sep_off 11 refl)

    ended_behind_rule : (found : List A) → Rule R true [] ((c ∷ []) ++ G) (λ i ts. ended_from c table (p i) (length ts) found ts) (λ i. ended_behind c (g i) found) Nothing (λ _. G)
    ended_behind_rule found =
        room (λ n i. ended_from c table (p i) n found) (λ n i. ended_at c (g i) n found) (λ i. ended_behind c (g i) found)
        (λ n. ended_n n found)
        (λ i n m ts le le'. ended_same c table (p i) (shorter (item.laws i) (off 11 refl) (last (tok c item) G fit)) (sep_off 11 refl) n m found ts le le')
        (λ i n xs w u x. ended_to c (g i) n found xs w u x)
        (λ i n xs w u (ys, w1, x, y, e, (more, is, items, shut), z) le. ended_from_form c (g i) n found more ys xs w u x y e is items z le)
        (λ i n u x. ended_to_front c (g i) n found u x)
        (λ i n u x le. ended_front c (g i) n found u x le)

    pub ended_rule : Rule R true [] table (λ i. ended c table (p i)) (λ i. ended_list c (g i)) Nothing (λ _. G)
    ended_rule = seq_sub item (λ x w. knowing (D w) (ended_behind_rule (x ∷ []))) (again (tok c item) G fit)
