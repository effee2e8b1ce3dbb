-- A front is the front of a spelling: with one level more each can be completed.
use Rattle.std.specs.Prelude.{◌≡◌, ◌⊎◌, Bool, true, false, List, [], ◌∷◌, ◌++◌, Option, Some}
use Rattle.std.proofs.Common.{refl, sym, ap, subst, ◌∙◌, inl, inr, append_assoc}
use Rattle.std.proofs.lemmas.List.{append-nil}
use Rattle.std.proofs.lemmas.Bool.{eq-eqb}
use Rattle.dice_base.specs.declared.token.TokenKind.{TokenKind}
use Rattle.dice_base.specs.Tokens.{Toks, class_of, has_class}
use Rattle.dice_base.specs.Forms.{Form, never, just, one, chain, either, token, row, rows_behind, list_of, ended_list}

-- n: there is a spelling with one level more
pub record Grows {I A : Type 0} (R : I → I → Type 0) (n : Bool) (g : I → Form A) : Type 0 where
  pub wider : (i j : I) → R i j → (a : A) (w : Bool) (u : Toks) → (g i).full a w u → (g j).full a w u
  pub grow : (i j : I) → R i j → (t : TokenKind) (u : Toks) → (g i).front (t ∷ u) → (a : A) × (w : Bool) × (more : Toks) × (g j).full a w ((t ∷ u) ++ more)
  pub some : n ≡ true → (i j : I) → R i j → (a : A) × (w : Bool) × (u : Toks) × (g j).full a w u

row_append : {A : Type 0} (g : Form A) (xs : List A) (a : A) (w : Bool) (x y : Toks) → row g xs x → g.full a w y → row g (xs ++ a ∷ []) (x ++ y)
row_append g [] a w x y r ga = (w, y, [], rw (r, append-nil y) refl, ga, refl)
row_append g (b ∷ xs) a w x y (v, x1, x2, e, gb, r) ga = (v, x1, x2 ++ y, rw e (append_assoc x1 x2 y), gb, row_append g xs a w x2 y r ga)

module _ {I : Type 0} {R : I → I → Type 0} where
  pub grow_just : {A : Type 0} (a : A) (w : Bool) → Grows R true (λ i. just a w)
  grow_just a w = record { wider = λ i j r b v u x. x; grow = λ i j r t u e. absurd cc; some = λ e i j r. (a, w, [], (refl, refl, refl)) }

  pub grow_never : {A : Type 0} → Grows R false (λ i. never {A = A})
  grow_never = record { wider = λ i j r b v u none. absurd none; grow = λ i j r t u e. absurd cc; some = λ e. absurd cc }

  pub grow_one : {A : Type 0} (f : TokenKind → Option A) → Grows R false (λ i. one f)
  grow_one {A} f = record { wider = λ i j r b v u x. x; grow = λ i j r t u x. taken t u x; some = λ e. absurd cc } where
    taken : (t : TokenKind) (u : Toks) → (one f).front (t ∷ u) → (a : A) × (w : Bool) × (more : Toks) × (one f).full a w ((t ∷ u) ++ more)
    taken t u (inl e) = absurd cc
    taken t u (inr (s, a, e, is)) = (a, false, [], (s, append-nil (t ∷ u) ∙ e, is, refl))

  pub grow_token : {A : Type 0} (f : TokenKind → Option A) (t : TokenKind) (a : A) → f t ≡ Some a → Grows R true (λ i. one f)
  grow_token f t a is = record { wider = (grow_one f).wider; grow = (grow_one f).grow; some = λ e i j r. (a, false, t ∷ [], (t, refl, is, refl)) }

  pub grow_chain : {A B : Type 0} {n : Bool} {g : I → Form A} {h : I → A → Bool → Form B} → Grows R n g → ((a : A) (w : Bool) → Grows R true (λ i. h i a w)) → Grows R n (λ i. chain (g i) (h i))
  grow_chain {A} {B} {n} {g} {h} first rest = record { wider = wide; grow = more; some = found } where
    wide : (i j : I) → R i j → (b : B) (v : Bool) (u : Toks) → (chain (g i) (h i)).full b v u → (chain (g j) (h j)).full b v u
    wide i j r b v u (a, w, x, y, e, gx, hy) = (a, w, x, y, e, first.wider i j r a w x gx, (rest a w).wider i j r b v y hy)

    behind : (i j : I) → R i j → (t : TokenKind) (u : Toks) (a : A) (w : Bool) (x y : Toks) → t ∷ u ≡ x ++ y → (g i).full a w x → (h i a w).front y
        → (b : B) × (v : Bool) × (m : Toks) × (chain (g j) (h j)).full b v ((t ∷ u) ++ m)
    behind i j r t u a w x [] e gx hy =
        let (b, v, z, hz) = (rest a w).some refl i j r in
        (b, v, z, (a, w, x, z, ap (λ (q : Toks). q ++ z) (e ∙ append-nil x), first.wider i j r a w x gx, hz))
    behind i j r t u a w x (s ∷ y) e gx hy =
        let (b, v, m, hm) = (rest a w).grow i j r s y hy in
        (b, v, m, (a, w, x, (s ∷ y) ++ m, ap (λ (q : Toks). q ++ m) e ∙ append_assoc x (s ∷ y) m, first.wider i j r a w x gx, hm))

    more : (i j : I) → R i j → (t : TokenKind) (u : Toks) → (chain (g i) (h i)).front (t ∷ u) → (b : B) × (v : Bool) × (m : Toks) × (chain (g j) (h j)).full b v ((t ∷ u) ++ m)
    more i j r t u (inl x) =
        let (a, w, m, gm) = first.grow i j r t u x in
        let (b, v, z, hz) = (rest a w).some refl i j r in
        (b, v, m ++ z, (a, w, (t ∷ u) ++ m, z, sym (append_assoc (t ∷ u) m z), gm, hz))
    more i j r t u (inr (a, w, x, y, e, gx, hy)) = behind i j r t u a w x y e gx hy

    found : n ≡ true → (i j : I) → R i j → (b : B) × (v : Bool) × (u : Toks) × (chain (g j) (h j)).full b v u
    found e i j r =
        let (a, w, x, gx) = first.some e i j r in
        let (b, v, y, hy) = (rest a w).some refl i j r in
        (b, v, x ++ y, (a, w, x, y, refl, gx, hy))

  either_grow : {A : Type 0} {n m : Bool} {g h : I → Form A} → Grows R n g → Grows R m h → (i j : I) → R i j → (t : TokenKind) (u : Toks) → (either (g i) (h i)).front (t ∷ u)
      → (a : A) × (w : Bool) × (z : Toks) × (either (g j) (h j)).full a w ((t ∷ u) ++ z)
  either_grow x y i j r t u (inl q) = let (a, w, z, gz) = x.grow i j r t u q in (a, w, z, inl gz)
  either_grow x y i j r t u (inr q) = let (a, w, z, gz) = y.grow i j r t u q in (a, w, z, inr gz)

  either_wider : {A : Type 0} {n m : Bool} {g h : I → Form A} → Grows R n g → Grows R m h → (i j : I) → R i j → (a : A) (w : Bool) (u : Toks) → (either (g i) (h i)).full a w u → (either (g j) (h j)).full a w u
  either_wider x y i j r a w u (inl q) = inl (x.wider i j r a w u q)
  either_wider x y i j r a w u (inr q) = inr (y.wider i j r a w u q)

  -- the first, or the second, has a spelling
  pub grow_either : {A : Type 0} {n m : Bool} {g h : I → Form A} → Grows R n g → Grows R m h → Grows R n (λ i. either (g i) (h i))
  grow_either x y = record { wider = either_wider x y; grow = either_grow x y; some = λ e i j r. (let (a, w, u, q) = x.some e i j r in (a, w, u, inl q)) }

  pub grow_or : {A : Type 0} {n m : Bool} {g h : I → Form A} → Grows R n g → Grows R m h → Grows R m (λ i. either (g i) (h i))
  grow_or x y = record { wider = either_wider x y; grow = either_grow x y; some = λ e i j r. (let (a, w, u, q) = y.some e i j r in (a, w, u, inr q)) }

  pub grow_rows : {A : Type 0} {n : Bool} {g : I → Form A} (found : List A) → Grows R n g → Grows R true (λ i. rows_behind (g i) found)
  grow_rows {A} {n} {g} found item = record { wider = wide; grow = more_of; some = λ e i j r. (found, false, [], ([], sym (append-nil found), refl, refl)) } where
    wide_row : (i j : I) → R i j → (xs : List A) (u : Toks) → row (g i) xs u → row (g j) xs u
    wide_row i j r [] u e = e
    wide_row i j r (a ∷ xs) u (w, x, y, e, ga, q) = (w, x, y, e, item.wider i j r a w x ga, wide_row i j r xs y q)

    wide : (i j : I) → R i j → (xs : List A) (w : Bool) (u : Toks) → (rows_behind (g i) found).full xs w u → (rows_behind (g j) found).full xs w u
    wide i j r xs w u (more, is, items, shut) = (more, is, wide_row i j r more u items, shut)

    at_end : (i j : I) → R i j → (t : TokenKind) (u : Toks) (more : List A) (x : Toks) → t ∷ u ≡ x ++ [] → row (g i) more x
        → (xs : List A) × (w : Bool) × (z : Toks) × (rows_behind (g j) found).full xs w ((t ∷ u) ++ z)
    at_end i j r t u more x e items =
        (found ++ more, false, [], (more, refl, subst (λ (q : Toks). row (g j) more q) (sym (append-nil (t ∷ u) ∙ (e ∙ append-nil x))) (wide_row i j r more x items), refl))

    go_on : (i j : I) → R i j → (t : TokenKind) (u : Toks) (more : List A) (x y : Toks) → t ∷ u ≡ x ++ y → row (g i) more x → (g i).front y ⊎ (y ≡ [])
        → (xs : List A) × (w : Bool) × (z : Toks) × (rows_behind (g j) found).full xs w ((t ∷ u) ++ z)
    go_on i j r t u more x [] e items q = at_end i j r t u more x e items
    go_on i j r t u more x (s ∷ y) e items (inr q) = absurd cc
    go_on i j r t u more x (s ∷ y) e items (inl q) =
        let (a, w, z, gz) = item.grow i j r s y q in
        (found ++ (more ++ a ∷ []), false, z, (more ++ a ∷ [], refl, subst (λ (k : Toks). row (g j) (more ++ a ∷ []) k) (sym (ap (λ (k : Toks). k ++ z) e ∙ append_assoc x (s ∷ y) z)) (row_append (g j) more a w x ((s ∷ y) ++ z) (wide_row i j r more x items) gz), refl))

    more_of : (i j : I) → R i j → (t : TokenKind) (u : Toks) → (rows_behind (g i) found).front (t ∷ u) → (xs : List A) × (w : Bool) × (z : Toks) × (rows_behind (g j) found).full xs w ((t ∷ u) ++ z)
    more_of i j r t u (more, x, y, e, items, q) = go_on i j r t u more x y e items q

  -- ---- put together

  pub grow_tok : {A : Type 0} {g : I → Form A} (t : TokenKind) → Grows R true g → Grows R true (λ i. token (class_of t) (g i))
  grow_tok t inner = grow_chain (grow_token (has_class (class_of t)) t tt (rw (eq-eqb (class_of t) (class_of t) refl) refl)) (λ _ _. inner)

  pub grow_list : {A : Type 0} {g : I → Form A} (t : TokenKind) → Grows R true g → Grows R true (λ i. list_of (class_of t) (g i))
  grow_list t item = grow_chain item (λ x _. grow_rows (x ∷ []) (grow_tok t item))

  pub grow_ended : {A : Type 0} {g : I → Form A} (t : TokenKind) → Grows R true g → Grows R true (λ i. ended_list (class_of t) (g i))
  grow_ended t item =
      grow_chain item (λ x _. grow_chain (grow_rows (x ∷ []) (grow_tok t item)) (λ xs _. grow_or (grow_tok t (grow_just xs false)) (grow_just xs false)))
