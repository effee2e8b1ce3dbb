-- What the parts of a statement hold, and which part a frame is of.
use Rattle.std.proofs.Common.{◌≡◌, ℕ, zero, suc, ◌+◌, List, [], ◌∷◌, ◌++◌, length, Option, Some, None, refl, sym, ap, ◌∙◌, subst, arith}
use Rattle.core_tree.specs.declared.op.Op.{Op}
use Rattle.core_tree.specs.declared.op.Op.TheVariants as op
use Rattle.core_tree.specs.declared.op.EffectOp.{EffectOp}
use Rattle.core_tree.specs.declared.op.EffectOp.TheVariants as effect
use Rattle.core_tree.specs.Plain.{Expr, Operation, Exprs, NoMore, And, op_of, part_at}
use Rattle.plain_pascal.specs.Program.{Kind, NoKind, WordKind, SetKind, PlaceKind, Row, Program, held_by, held_by_parts}
use Rattle.plain_pascal.specs.State.{Value, Node, OfStatement, OfExpr, PendingFrame, Activation}
use Rattle.plain_pascal.specs.Step.{given, parts_of}
use Rattle.plain_pascal.specs.Blocks.{AreInside, next_part, node_at}
use Rattle.plain_pascal.specs.Typed.{AllValued, AreExprs, AreNumbered, AreParts, IsExpr, IsValued, each, typed}
use Rattle.plain_pascal.specs.Valid.{AreFrames, held_by_first, kinds_held}
use Rattle.plain_pascal.proofs.Joined.{joined_kinds, no_more_kinds}

-- ---- parts of a statement

-- one more part
pub first_more : (es : Exprs) (k : ℕ) (o : Op) (ps : Exprs) → part_at es k ≡ Some (Operation o ps) → held_by_first (suc k) es ≡ held_by_first k es ++ held_by o
first_more NoMore k o ps e = absurd (grind (arith, e))
first_more (And (Operation x xs) es) zero o ps e =
    let same : Operation x xs ≡ Operation o ps = cc e in
    let op_same : x ≡ o = cc same in
    no_more_kinds (held_by x) ∙ ap held_by op_same
first_more (And (Operation x xs) es) (suc k) o ps e =
    ap (λ ks. held_by x ++ ks) (first_more es k o ps e) ∙ sym (joined_kinds (held_by x) (held_by_first k es) (held_by o))

-- all parts
pub all_held : (es : Exprs) (k : ℕ) → part_at es k ≡ None → held_by_first k es ≡ held_by_parts es
all_held NoMore zero e = refl
all_held NoMore (suc k) e = refl
all_held (And (Operation o ps) es) zero e = absurd (grind (arith, e))
all_held (And (Operation o ps) es) (suc k) e = ap (λ ks. held_by o ++ ks) (all_held es k e)

-- a hold has the number after those that are taken
pub number_of : (es : Exprs) (k last number words : ℕ) (ps : Exprs) → AreNumbered last es → part_at es k ≡ Some (Operation (op.Effect (effect.Hold number words)) ps) → number ≡ suc (last + length (held_by_first k es))
number_of NoMore k last number words ps n e = absurd (grind (arith, e))
number_of (And (Operation o xs) es) zero last number words ps n e =
    let same : Operation o xs ≡ Operation (op.Effect (effect.Hold number words)) ps = cc e in
    let op_same : o ≡ op.Effect (effect.Hold number words) = cc same in
    let here : number ≡ suc last = (subst (λ x. AreNumbered last (And (Operation x xs) es)) op_same n).0 in
    omega (arith, here)
number_of (And (Operation (op.Effect (effect.Hold m w)) xs) es) (suc k) last number words ps n e =
    let rest : number ≡ suc (suc last + length (held_by_first k es)) = number_of es k (suc last) number words ps n.1 e in
    omega (arith, rest)
number_of (And (Operation o xs) es) (suc k) last number words ps n e = number_of es k last number words ps n e

-- ---- frames

pub part_is : (x : Option Expr) (e : Expr) → node_at x ≡ Some (OfExpr e) → x ≡ Some e
part_is None e h = absurd (grind (arith, h))
part_is (Some y) e h =
    let same : OfExpr y ≡ OfExpr e = cc h in
    let is : y ≡ e = cc same in
    ap Some is

one_longer : (vs : List Value) (v : Value) → length (vs ++ v ∷ []) ≡ suc (length vs)
one_longer [] v = refl
one_longer (x ∷ vs) v = ap suc (one_longer vs v)

-- a value comes to the frame outside
pub given_inside : (x : Node) (f g : PendingFrame) (gs : List PendingFrame) (v : Value) → AreInside x (f ∷ (g ∷ gs)) → AreInside x (given v (g ∷ gs))
given_inside x f g [] v h = h.1
given_inside x f g (k ∷ gs) v h = h.1

module _ (row : Row) where
  -- the part of the statement that is in progress
  pub outer_part : (e : Expr) (g : PendingFrame) → g.node ≡ OfStatement row.form → next_part g ≡ Some (OfExpr e) → part_at row.form.parts (length g.kept) ≡ Some e
  outer_part e g is next = ap (λ x. part_at (parts_of x) (length g.kept)) (sym is) ∙ part_is (part_at (parts_of g.node) (length g.kept)) e next

  -- what is held then
  pub given_more : (o : Op) (ps : Exprs) (g : PendingFrame) (v : Value) → g.node ≡ OfStatement row.form → next_part g ≡ Some (OfExpr (Operation o ps))
      → kinds_held row (given v (g ∷ [])) ≡ row.around ++ (held_by_first (length g.kept) row.form.parts ++ held_by o)
  given_more o ps g v is next =
      ap (λ ks. row.around ++ ks)
      (ap (λ k. held_by_first k row.form.parts) (one_longer g.kept v) ∙ first_more row.form.parts (length g.kept) o ps (outer_part (Operation o ps) g is next))

  -- nothing more, but for a hold
  pub given_held : (o : Op) (ps : Exprs) (kept : List Value) (g : PendingFrame) (gs : List PendingFrame) (v : Value) → held_by o ≡ []
      → AreInside (OfStatement row.form) (record { node = OfExpr (Operation o ps); kept = kept } ∷ (g ∷ gs))
      → kinds_held row (given v (g ∷ gs)) ≡ kinds_held row (record { node = OfExpr (Operation o ps); kept = kept } ∷ (g ∷ gs))
  given_held o ps kept g (k ∷ gs) v none h = refl
  given_held o ps kept g [] v none h =
      given_more o ps g v h.1 h.0
      ∙ ap (λ ks. row.around ++ (held_by_first (length g.kept) row.form.parts ++ ks)) none
      ∙ ap (λ ks. row.around ++ ks) (no_more_kinds (held_by_first (length g.kept) row.form.parts))

-- ---- an effect is a part of its statement

module _ (P : Program) (n : ℕ) (around : List Kind) where
  valued_part : (ps : Exprs) (ks : List Kind) (i : ℕ) (e : Expr) → AreExprs P n around ps ks → AllValued ks → part_at ps i ≡ Some e → (k : Kind) × IsValued k × IsExpr P n around e k
  valued_part NoMore ks i e h vs at = absurd (grind (arith, at))
  valued_part (And x xs) [] i e h vs at = elim h [ ]
  valued_part (And x xs) (k ∷ ks) zero e (each a as' b bs h hs) vs at = let same : x ≡ e = cc at in (k, vs.0, subst (λ y. IsExpr P n around y k) same h)
  valued_part (And x xs) (k ∷ ks) (suc i) e (each a as' b bs h hs) vs at = valued_part xs ks i e hs vs.1 at

  typed_part : (ps : Exprs) (ks : List Kind) (i : ℕ) (e : Expr) → AreExprs P n around ps ks → part_at ps i ≡ Some e → (k : Kind) × IsExpr P n around e k
  typed_part NoMore ks i e h at = absurd (grind (arith, at))
  typed_part (And x xs) [] i e h at = elim h [ ]
  typed_part (And x xs) (k ∷ ks) zero e (each a as' b bs h hs) at = let same : x ≡ e = cc at in (k, subst (λ y. IsExpr P n around y k) same h)
  typed_part (And x xs) (k ∷ ks) (suc i) e (each a as' b bs h hs) at = typed_part xs ks i e hs at

  typed_in_parts : (ps : Exprs) (ks : List Kind) (i : ℕ) (e : Expr) → AreParts P n around ps ks → part_at ps i ≡ Some e → (held : List Kind) × (k : Kind) × IsExpr P n held e k
  typed_in_parts ps ks i e h at = by around ps ks i h at
    where
      by : (held : List Kind) (ps : Exprs) (ks : List Kind) (i : ℕ) → AreParts P n held ps ks → part_at ps i ≡ Some e → (more : List Kind) × (k : Kind) × IsExpr P n more e k
      by held NoMore ks i h at = absurd (grind (arith, at))
      by held (And x xs) [] i h at = absurd h
      by held (And x xs) (k ∷ ks) zero h at = let same : x ≡ e = cc at in (held, k, subst (λ y. IsExpr P n held y k) same h.0)
      by held (And x xs) (k ∷ ks) (suc i) h at = by (held ++ held_by (op_of x)) xs ks i h.1 at

  no_value : (e : EffectOp) (ps : Exprs) (k : Kind) → IsValued k → IsExpr P n around (Operation (op.Effect e) ps) k → ⊥
  no_value e ps NoKind v h = absurd v
  no_value e ps WordKind v (typed a as' ks b hs vs t) = absurd t
  no_value e ps SetKind v (typed a as' ks b hs vs t) = absurd t
  no_value e ps (PlaceKind w) v (typed a as' ks b hs vs t) = absurd t

  no_part : (e : EffectOp) (ps : Exprs) (o : Op) (qs : Exprs) (k : Kind) (i : ℕ) → IsExpr P n around (Operation o qs) k → part_at qs i ≡ Some (Operation (op.Effect e) ps) → ⊥
  no_part e ps o qs k i (typed a as' ks b hs vs t) at =
      let (j, v, h) = valued_part qs ks i (Operation (op.Effect e) ps) hs vs at in
      no_value e ps j v h

-- the frame outside that of an effect is the statement's
pub effect_outside : (P : Program) (acts : List Activation) (newest : ℕ) (row : Row) (rest : List Kind) (e : EffectOp) (ps : Exprs) (kept : List Value) (g k : PendingFrame) (gs : List PendingFrame)
    → AreFrames P acts newest row rest (g ∷ (k ∷ gs)) → AreInside (OfStatement row.form) (record { node = OfExpr (Operation (op.Effect e) ps); kept = kept } ∷ (g ∷ (k ∷ gs))) → ⊥
effect_outside P acts newest row rest e ps kept g k gs fr inside =
    let part : part_at (parts_of k.node) (length k.kept) ≡ Some (Operation fr.0 fr.1) = part_is (part_at (parts_of k.node) (length k.kept)) (Operation fr.0 fr.1) (inside.1.0 ∙ ap Some fr.4) in
    let own : part_at fr.1 (length g.kept) ≡ Some (Operation (op.Effect e) ps) = ap (λ x. part_at (parts_of x) (length g.kept)) (sym fr.4) ∙ part_is (part_at (parts_of g.node) (length g.kept)) (Operation (op.Effect e) ps) inside.0 in
    let (held, kind, is) = outer gs fr.6 part in
    no_part P row.routine held e ps fr.0 fr.1 kind (length g.kept) is own
  where
    outer : (hs : List PendingFrame) → AreFrames P acts newest row (fr.2 ∷ fr.3) (k ∷ hs) → part_at (parts_of k.node) (length k.kept) ≡ Some (Operation fr.0 fr.1) → (held : List Kind) × (kind : Kind) × IsExpr P row.routine held (Operation fr.0 fr.1) kind
    outer [] h part = typed_in_parts P row.routine row.around (parts_of k.node) (h.1.0 ++ (fr.2 ∷ fr.3)) (length k.kept) (Operation fr.0 fr.1) h.1.1 part
    outer (x ∷ hs) h part =
        let (kind, is) = typed_part P row.routine (kinds_held row (x ∷ hs)) (parts_of k.node) (h.5.0 ++ (fr.2 ∷ fr.3)) (length k.kept) (Operation fr.0 fr.1) h.5.1 part in
        (kinds_held row (x ∷ hs), kind, is)
