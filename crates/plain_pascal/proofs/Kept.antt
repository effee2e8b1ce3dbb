-- Steps inside a statement keep its frames in order.
use Rattle.std.proofs.Common.{◌≡◌, ℕ, suc, List, [], ◌∷◌, ◌++◌, length, Some, refl, sym, ap, ◌∙◌, subst}
use Rattle.core_tree.specs.Plain.{Expr, Operation, Exprs, NoMore, And, part_at}
use Rattle.plain_pascal.specs.Program.{Kind, Row, Program, held_by}
use Rattle.plain_pascal.specs.State.{Value, OfStatement, OfExpr, PendingFrame, Activation}
use Rattle.plain_pascal.specs.Step.{given, frame_of, parts_of}
use Rattle.plain_pascal.specs.Typed.{IsExpr, typed, AreExprs, AreParts, each, IsOp, IsStatement, IsForm}
use Rattle.plain_pascal.specs.Valid.{IsOf, AreOf, Fits, FitsStatement, AreFrames, held_by_first, kinds_held, within}
use Rattle.plain_pascal.proofs.Joined.{joined_kinds, no_more_kinds}

module _ (P : Program) (acts : List Activation) (newest : ℕ) (row : Row) where
  -- there are as many values as kinds
  pub as_many : (ks : List Kind) (vs : List Value) → AreOf acts newest ks vs → length vs ≡ length ks
  as_many [] [] h = refl
  as_many [] (v ∷ vs) h = absurd h
  as_many (k ∷ ks) [] h = absurd h
  as_many (k ∷ ks) (v ∷ vs) h = ap suc (as_many ks vs h.1)

  pub one_more : (ks : List Kind) (vs : List Value) (k : Kind) (v : Value) → AreOf acts newest ks vs → IsOf acts newest k v → AreOf acts newest (ks ++ k ∷ []) (vs ++ v ∷ [])
  one_more [] [] k v h e = (e, tt)
  one_more [] (x ∷ vs) k v h e = absurd h
  one_more (j ∷ ks) [] k v h e = absurd h
  one_more (j ∷ ks) (x ∷ vs) k v h e = (h.0, one_more ks vs k v h.1 e)

  pub append_one : (done : List Kind) (k : Kind) (ks : List Kind) → done ++ (k ∷ ks) ≡ (done ++ (k ∷ [])) ++ ks
  append_one [] k ks = refl
  append_one (j ∷ done) k ks = ap (λ x. j ∷ x) (append_one done k ks)

  -- the next part has the next kind
  next_typed : (around done : List Kind) (k : Kind) (ks : List Kind) (ps : Exprs) (e : Expr) → AreExprs P row.routine around ps (done ++ (k ∷ ks)) → part_at ps (length done) ≡ Some e → IsExpr P row.routine around e k
  next_typed around [] k ks NoMore e h same = elim h [ ]
  next_typed around (j ∷ done) k ks NoMore e h same = elim h [ ]
  next_typed around [] k ks (And x xs) e (each a es b bs h hs) same = let s : x ≡ e = cc same in subst (λ y. IsExpr P row.routine around y k) s h
  next_typed around (j ∷ done) k ks (And x xs) e (each a es b bs h hs) same = next_typed around done k ks xs e hs same

  next_part_typed : (around done : List Kind) (k : Kind) (ks : List Kind) (ps : Exprs) (e : Expr) → AreParts P row.routine around ps (done ++ (k ∷ ks)) → part_at ps (length done) ≡ Some e
      → IsExpr P row.routine (around ++ held_by_first (length done) ps) e k
  next_part_typed around [] k ks NoMore e h same = absurd h
  next_part_typed around (j ∷ done) k ks NoMore e h same = absurd h
  next_part_typed around [] k ks (And x xs) e h same = let s : x ≡ e = cc same in subst (λ js. IsExpr P row.routine js e k) (sym (no_more_kinds around)) (subst (λ y. IsExpr P row.routine around y k) s h.0)
  next_part_typed around (j ∷ done) k ks (And (Operation o ps) xs) e h same =
      subst (λ js. IsExpr P row.routine js e k) (joined_kinds around (held_by o) (held_by_first (length done) xs)) (next_part_typed (around ++ held_by o) done k ks xs e h.1 same)

  -- a gate is passed
  pub gate_keeps : (f : IsForm P row) → AreFrames P acts newest row f.kinds (frame_of (OfStatement row.form) ∷ [])
  gate_keeps f = (refl, ([], f.parts, tt, f.statement))

  -- the next part gets a frame
  part_fits : (k : Kind) (ks : List Kind) (f : PendingFrame) (fs : List PendingFrame) (e : Expr) → IsExpr P row.routine (kinds_held row (f ∷ fs)) e k → AreFrames P acts newest row (k ∷ ks) (f ∷ fs)
      → (rest : List Kind) × AreFrames P acts newest row rest (frame_of (OfExpr e) ∷ (f ∷ fs))
  part_fits k ks f fs (Operation o ps) (typed a as' kinds b hs v t) h = (kinds, (o, ps, k, ks, refl, ([], hs, tt, t), h))

  pub part_keeps : (k : Kind) (ks : List Kind) (f : PendingFrame) (fs : List PendingFrame) (e : Expr) → part_at (parts_of f.node) (length f.kept) ≡ Some e → AreFrames P acts newest row (k ∷ ks) (f ∷ fs)
      → (rest : List Kind) × AreFrames P acts newest row rest (frame_of (OfExpr e) ∷ (f ∷ fs))
  part_keeps k ks f [] e same h =
      part_fits k ks f [] e
      (subst (λ x. IsExpr P row.routine (row.around ++ held_by_first (length f.kept) (parts_of x)) e k) h.0
      (subst (λ n. IsExpr P row.routine (row.around ++ held_by_first n (parts_of f.node)) e k) (sym (as_many h.1.0 f.kept h.1.2))
      (next_part_typed row.around h.1.0 k ks (parts_of f.node) e h.1.1 (ap (part_at (parts_of f.node)) (sym (as_many h.1.0 f.kept h.1.2)) ∙ same)))) h
  part_keeps k ks f (g ∷ fs) e same h =
      part_fits k ks f (g ∷ fs) e (next_typed (kinds_held row (g ∷ fs)) h.5.0 k ks (parts_of f.node) e h.5.1 (ap (part_at (parts_of f.node)) (sym (as_many h.5.0 f.kept h.5.2)) ∙ same)) h

  -- a value of the kind that is wanted comes to a frame
  fits_more : (x : Row) (k : Kind) (ks : List Kind) (f : PendingFrame) (v : Value) (T : List Kind → Type 0) → IsOf acts newest k v → Fits P acts newest x (k ∷ ks) f T → Fits P acts newest x ks (record f { kept = f.kept ++ v ∷ [] }) T
  fits_more x k ks f v T e h =
      (h.0 ++ k ∷ [], subst (AreExprs P x.routine x.around (parts_of f.node)) (append_one h.0 k ks) h.1, one_more h.0 f.kept k v h.2 e, subst T (append_one h.0 k ks) h.3)

  statement_more : (k : Kind) (ks : List Kind) (f : PendingFrame) (v : Value) → IsOf acts newest k v → FitsStatement P acts newest row (k ∷ ks) f → FitsStatement P acts newest row ks (record f { kept = f.kept ++ v ∷ [] })
  statement_more k ks f v e h =
      (h.0 ++ k ∷ [], subst (AreParts P row.routine row.around (parts_of f.node)) (append_one h.0 k ks) h.1, one_more h.0 f.kept k v h.2 e, subst (IsStatement P row.routine row.form.op) (append_one h.0 k ks) h.3)

  pub value_keeps : (k : Kind) (ks : List Kind) (fs : List PendingFrame) (v : Value) → IsOf acts newest k v → AreFrames P acts newest row (k ∷ ks) fs → AreFrames P acts newest row ks (given v fs)
  value_keeps k ks [] v e h = absurd h
  value_keeps k ks (f ∷ []) v e h = (h.0, statement_more k ks f v e h.1)
  value_keeps k ks (f ∷ (g ∷ fs)) v e h = (h.0, h.1, h.2, h.3, h.4, fits_more (within row (kinds_held row (g ∷ fs))) k ks f v (λ kinds. IsOp P row.routine (kinds_held row (g ∷ fs)) h.0 kinds h.2) e h.5, h.6)
