-- Steps inside an expression keep a state in order.
use Rattle.std.proofs.Common.{◌≡◌, ℕ, List, [], ◌∷◌, ◌++◌, length, Some, None, refl, sym, ap, ◌∙◌, subst, arith, inl, inr}
use Rattle.std.specs.Prelude.{◌⊎◌}
use Rattle.core_tree.specs.declared.op.Op.{Op}
use Rattle.core_tree.specs.Plain.{Expr, Operation, Exprs, NoMore, And, part_at, op_of}
use Rattle.plain_pascal.specs.Program.{Kind, NoKind, WordKind, SetKind, PlaceKind, Row, Program, held_by}
use Rattle.plain_pascal.specs.State.{Value, NoValue, OfStatement, OfExpr, PendingFrame, Activation, Data, Control}
use Rattle.plain_pascal.specs.Integers.{Gives}
use Rattle.plain_pascal.specs.Operations.{newest_holds, value_of}
use Rattle.plain_pascal.specs.Step.{given, frame_of, parts_of}
use Rattle.plain_pascal.specs.Typed.{AreExprs, each, IsEffect, IsOp, AreParts}
use Rattle.core_tree.specs.declared.op.EffectOp.{EffectOp}
use Rattle.core_tree.specs.declared.op.Op.TheVariants as op
use Rattle.plain_pascal.specs.Valid.{IsOf, AreOf, AreFrames, InProgress, AtStatement, NewestStands, IsData, IsProgram, kinds_held, within}
use Rattle.plain_pascal.specs.Blocks.{node_at}
use Rattle.plain_pascal.proofs.Held.{given_held, given_inside}
use Rattle.plain_pascal.proofs.Sound.{GivesOf}
use Rattle.plain_pascal.proofs.Places.{Scoped}
use Rattle.plain_pascal.proofs.Values.{Sees}
use Rattle.plain_pascal.proofs.Evaluates.{IsPlain, value_sound}
use Rattle.plain_pascal.proofs.Kept.{as_many, part_keeps, value_keeps}
use Rattle.plain_pascal.proofs.Scopes.{standing_all, all_scoped}
use Rattle.plain_pascal.proofs.Joined.{no_more_kinds}

-- there are as many parts as kinds
no_part : (P : Program) (row : Row) (done : List Kind) (ps : Exprs) → AreExprs P row.routine row.around ps (done ++ []) → part_at ps (length done) ≡ None
no_part P row [] NoMore h = refl
no_part P row [] (And e es) h = elim h [ ]
no_part P row (k ∷ done) NoMore h = refl
no_part P row (k ∷ done) (And e es) (each a as' b bs x hs) = no_part P row done es hs

pub some_part : (P : Program) (row : Row) (done : List Kind) (k : Kind) (ks : List Kind) (ps : Exprs) → AreExprs P row.routine row.around ps (done ++ (k ∷ ks)) → (e : Expr) × (part_at ps (length done) ≡ Some e)
some_part P row [] k ks NoMore h = elim h [ ]
some_part P row [] k ks (And e es) h = (e, refl)
some_part P row (j ∷ done) k ks NoMore h = elim h [ ]
some_part P row (j ∷ done) k ks (And e es) (each a as' b bs x hs) = some_part P row done k ks es hs

-- the same of the parts of a statement
no_statement_part : (P : Program) (n : ℕ) (around done : List Kind) (ps : Exprs) → AreParts P n around ps (done ++ []) → part_at ps (length done) ≡ None
no_statement_part P n around [] NoMore h = refl
no_statement_part P n around [] (And e es) h = absurd h
no_statement_part P n around (k ∷ done) NoMore h = absurd h
no_statement_part P n around (k ∷ done) (And e es) h = no_statement_part P n (around ++ held_by (op_of e)) done es h.1

pub some_statement_part : (P : Program) (n : ℕ) (around done : List Kind) (k : Kind) (ks : List Kind) (ps : Exprs) → AreParts P n around ps (done ++ (k ∷ ks)) → (e : Expr) × (part_at ps (length done) ≡ Some e)
some_statement_part P n around [] k ks NoMore h = absurd h
some_statement_part P n around [] k ks (And e es) h = (e, refl)
some_statement_part P n around (j ∷ done) k ks NoMore h = absurd h
some_statement_part P n around (j ∷ done) k ks (And e es) h = some_statement_part P n (around ++ held_by (op_of e)) done k ks es h.1

module _ (P : Program) (program : IsProgram P) (n : ℕ) (cs : List Control) (d : Data) (good : IsData d) (a : Activation) (xs : List Activation) (same : d.activations ≡ a ∷ xs) where
  abbrev acts : List Activation
  acts = a ∷ xs

  abbrev newest : ℕ
  newest = length xs

  abbrev pub Stands : List PendingFrame → Type 0
  Stands fs = NewestStands P acts (record { statement = n; frames = fs } ∷ cs) acts

  -- what the statement of the newest activation sees
  pub sees_at : (row : Row) → row.routine ≡ a.routine → (found : List Kind) → AreOf acts newest (row.around ++ found) a.holds → (fs : List PendingFrame) → Stands fs → Sees P d newest row
  sees_at row inside found held fs h = record {
    data_good = good;
    scoped = subst (λ ys. Scoped P ys newest row.routine) (sym same) (subst (λ r. Scoped P acts newest r) (sym inside) (all_scoped P program.no_zero a xs (standing_all P acts (record { statement = n; frames = fs } ∷ cs) acts h)));
    found = found;
    held = subst (λ ys. AreOf ys newest (row.around ++ found) (newest_holds ys)) (sym same) held;
  }

  -- the statement that is in progress
  pub at_work : (f : PendingFrame) (fs : List PendingFrame) → Stands (f ∷ fs) → AtStatement P acts newest a (record { statement = n; frames = f ∷ fs })
  at_work f fs h = by h.1
    where
      by : AtStatement P acts newest a (record { statement = n; frames = f ∷ fs }) ⊎ ((n ≡ a.routine) × (f ∷ fs ≡ []) × (a.holds ≡ [])) → AtStatement P acts newest a (record { statement = n; frames = f ∷ fs })
      by (inl at) = at
      by (inr e) = absurd (let k : f ∷ fs ≡ [] = e.1 in grind (arith, k))

  pub progress_at : (f : PendingFrame) (fs : List PendingFrame) (at : AtStatement P acts newest a (record { statement = n; frames = f ∷ fs })) → InProgress P acts newest at.row (f ∷ fs)
  progress_at f fs at = by at.frames
    where
      by : (f ∷ fs ≡ []) ⊎ InProgress P acts newest at.row (f ∷ fs) → InProgress P acts newest at.row (f ∷ fs)
      by (inl e) = absurd (grind (arith, e))
      by (inr p) = p

  -- frames are put in the place of others
  in_place : (f : PendingFrame) (fs gs : List PendingFrame) → Stands (f ∷ fs)
      → ((row : Row) → Sees P d newest (within row (kinds_held row (f ∷ fs))) → InProgress P acts newest row (f ∷ fs) → InProgress P acts newest row gs × (kinds_held row gs ≡ kinds_held row (f ∷ fs)))
      → Stands gs
  in_place f fs gs h on = (h.0, by h.1, h.2)
    where
      framed : (at : AtStatement P acts newest a (record { statement = n; frames = f ∷ fs })) → (f ∷ fs ≡ []) ⊎ InProgress P acts newest at.row (f ∷ fs) → InProgress P acts newest at.row gs × (kinds_held at.row gs ≡ kinds_held at.row (f ∷ fs))
      framed at (inl e) = absurd (grind (arith, e))
      framed at (inr p) = on at.row (sees_at (within at.row (kinds_held at.row (f ∷ fs))) at.inside [] (subst (λ ks. AreOf acts newest ks a.holds) (sym (no_more_kinds (kinds_held at.row (f ∷ fs)))) at.held) (f ∷ fs) h) p

      by : AtStatement P acts newest a (record { statement = n; frames = f ∷ fs }) ⊎ ((n ≡ a.routine) × (f ∷ fs ≡ []) × (a.holds ≡ []))
          → AtStatement P acts newest a (record { statement = n; frames = gs }) ⊎ ((n ≡ a.routine) × (gs ≡ []) × (a.holds ≡ []))
      by (inl at) =
          let (p, same_held) = framed at at.frames in
          inl (record { row = at.row; found = at.found; inside = at.inside; held = subst (λ ks. AreOf acts newest ks a.holds) (sym same_held) at.held; frames = inr p })
      by (inr e) = absurd (let k : f ∷ fs ≡ [] = e.1 in grind (arith, k))

  -- the next part gets a frame
  pub part_stands : (f : PendingFrame) (fs : List PendingFrame) (e : Expr) → part_at (parts_of f.node) (length f.kept) ≡ Some e → Stands (f ∷ fs) → Stands (frame_of (OfExpr e) ∷ (f ∷ fs))
  part_stands f fs e found h = in_place f fs (frame_of (OfExpr e) ∷ (f ∷ fs)) h (λ row sees p. let (rest, fr, inside) = p in let (more, frames) = by row rest fs fr in ((more, frames, (ap node_at found, inside)), refl))
    where
      none : (row : Row) (done : List Kind) → AreParts P row.routine row.around (parts_of f.node) (done ++ []) → AreOf acts newest done f.kept → None ≡ Some e
      none row done hs ho = sym (no_statement_part P row.routine row.around done (parts_of f.node) hs) ∙ ap (part_at (parts_of f.node)) (sym (as_many P acts newest row done f.kept ho)) ∙ found

      full : (row : Row) (done : List Kind) → AreExprs P row.routine row.around (parts_of f.node) (done ++ []) → AreOf acts newest done f.kept → None ≡ Some e
      full row done hs ho = sym (no_part P row done (parts_of f.node) hs) ∙ ap (part_at (parts_of f.node)) (sym (as_many P acts newest row done f.kept ho)) ∙ found

      by : (row : Row) (rest : List Kind) (gs : List PendingFrame) → AreFrames P acts newest row rest (f ∷ gs) → (more : List Kind) × AreFrames P acts newest row more (frame_of (OfExpr e) ∷ (f ∷ gs))
      by row (k ∷ ks) gs fr = part_keeps P acts newest row k ks f gs e found fr
      by row [] [] fr = absurd (let clash : None ≡ Some e = none row fr.1.0 fr.1.1 fr.1.2 in grind (arith, clash))
      by row [] (g ∷ gs) fr = absurd (let clash : None ≡ Some e = full (within row (kinds_held row (g ∷ gs))) fr.5.0 fr.5.1 fr.5.2 in grind (arith, clash))

  -- an operation that has its parts gives a value to the frame outside
  module _ (o : Op) (ps : Exprs) (kept : List Value) (fs : List PendingFrame) (v : Value) (full : part_at ps (length kept) ≡ None) where
    abbrev own : PendingFrame
    own = record { node = OfExpr (Operation o ps); kept = kept }

    pub operation_progress : (row : Row) → ((k : Kind) (done : List Kind) → IsOp P row.routine (kinds_held row (own ∷ fs)) o done k → AreOf acts newest done kept → IsOf acts newest k v)
        → InProgress P acts newest row (own ∷ fs) → InProgress P acts newest row (given v fs)
    operation_progress row gives p = by fs gives p
      where
        by : (gs : List PendingFrame) → ((k : Kind) (done : List Kind) → IsOp P row.routine (kinds_held row (own ∷ gs)) o done k → AreOf acts newest done kept → IsOf acts newest k v)
            → InProgress P acts newest row (own ∷ gs) → InProgress P acts newest row (given v gs)
        by [] gives (rest, fr, inside) = absurd (let clash : OfExpr (Operation o ps) ≡ OfStatement row.form = fr.0 in grind (arith, clash))
        by (g ∷ gs) gives (k ∷ ks, fr, inside) =
            absurd (let (e, found) = some_part P (within row (kinds_held row (g ∷ gs))) fr.5.0 k ks ps fr.5.1 in
            let clash : None ≡ Some e = sym full ∙ ap (part_at ps) (as_many P acts newest row fr.5.0 kept fr.5.2) ∙ found in grind (arith, clash))
        by (g ∷ gs) gives ([], fr, inside) =
            let inner : OfExpr (Operation o ps) ≡ OfExpr (Operation fr.0 fr.1) = fr.4 in
            let op_same : fr.0 ≡ o = cc inner in
            let t : IsOp P row.routine (kinds_held row (g ∷ gs)) o (fr.5.0 ++ []) fr.2 = subst (λ x. IsOp P row.routine (kinds_held row (g ∷ gs)) x (fr.5.0 ++ []) fr.2) op_same fr.5.3 in (
              fr.3,
              value_keeps P acts newest row fr.2 fr.3 (g ∷ gs) v (gives fr.2 fr.5.0 (subst (λ x. IsOp P row.routine (kinds_held row (g ∷ gs)) o x fr.2) (no_more_kinds fr.5.0) t) fr.5.2) fr.6,
              given_inside (OfStatement row.form) own g gs v inside,
            )

    operation_held : (row : Row) → held_by o ≡ [] → InProgress P acts newest row (own ∷ fs) → kinds_held row (given v fs) ≡ kinds_held row (own ∷ fs)
    operation_held row holds p = by fs p
      where
        by : (gs : List PendingFrame) → InProgress P acts newest row (own ∷ gs) → kinds_held row (given v gs) ≡ kinds_held row (own ∷ gs)
        by [] (rest, fr, inside) = absurd (let clash : OfExpr (Operation o ps) ≡ OfStatement row.form = fr.0 in grind (arith, clash))
        by (g ∷ gs) (rest, fr, inside) = given_held row o ps kept g gs v holds inside

    pub operation_stands : held_by o ≡ [] → ((row : Row) (k : Kind) (done : List Kind) → Sees P d newest row → IsOp P row.routine row.around o done k → AreOf acts newest done kept → IsOf acts newest k v)
        → Stands (own ∷ fs) → Stands (given v fs)
    operation_stands holds gives h = in_place own fs (given v fs) h (λ row sees p. (operation_progress row (λ k done t ho. gives (within row (kinds_held row (own ∷ fs))) k done sees t ho) p, operation_held row holds p))

  plain_holds : (o : Op) → IsPlain o → held_by o ≡ []
  plain_holds (op.Call c) i = absurd i
  plain_holds (op.Effect e) i = absurd i
  plain_holds o i = refl

  -- an operation without effect has its value
  pub value_stands : (o : Op) (ps : Exprs) (kept : List Value) (fs : List PendingFrame) (v : Value) → IsPlain o → part_at ps (length kept) ≡ None → value_of o kept d ≡ Gives v
      → Stands (record { node = OfExpr (Operation o ps); kept = kept } ∷ fs) → Stands (given v fs)
  value_stands o ps kept fs v plain full value h =
      operation_stands o ps kept fs v full (plain_holds o plain)
      (λ row k done sees t ho. subst (λ ys. IsOf ys newest k v) same
      (subst (GivesOf d.activations newest k) value (value_sound P d newest row sees o done k kept plain t (subst (λ ys. AreOf ys newest done kept) (sym same) ho)))) h

  -- an effect has no value
  pub effect_kind : (row : Row) (e : EffectOp) (k : Kind) (done : List Kind) → IsOp P row.routine row.around (op.Effect e) done k → IsOf acts newest k NoValue
  effect_kind row e NoKind done t = tt
  effect_kind row e WordKind done t = absurd t
  effect_kind row e SetKind done t = absurd t
  effect_kind row e (PlaceKind n) done t = absurd t

  pub effect_stands : (e : EffectOp) (ps : Exprs) (kept : List Value) (fs : List PendingFrame) → part_at ps (length kept) ≡ None → held_by (op.Effect e) ≡ []
      → Stands (record { node = OfExpr (Operation (op.Effect e) ps); kept = kept } ∷ fs) → Stands (given NoValue fs)
  effect_stands e ps kept fs full holds h = operation_stands (op.Effect e) ps kept fs NoValue full holds (λ row k done sees t ho. effect_kind row e k done t) h

  effect_of_kind : (row : Row) (e : EffectOp) (k : Kind) (done : List Kind) → IsOp P row.routine row.around (op.Effect e) done k → IsEffect e done
  effect_of_kind row e NoKind done t = t
  effect_of_kind row e WordKind done t = absurd t
  effect_of_kind row e SetKind done t = absurd t
  effect_of_kind row e (PlaceKind n) done t = absurd t

  -- and its parts have kinds
  pub effect_typed : (e : EffectOp) (ps : Exprs) (kept : List Value) (fs : List PendingFrame) → part_at ps (length kept) ≡ None
      → Stands (record { node = OfExpr (Operation (op.Effect e) ps); kept = kept } ∷ fs) → (done : List Kind) × IsEffect e done × AreOf acts newest done kept
  effect_typed e ps kept fs full h = by h.1
    where
      f : PendingFrame
      f = record { node = OfExpr (Operation (op.Effect e) ps); kept = kept }

      typed : (row : Row) (rest : List Kind) (gs : List PendingFrame) → AreFrames P acts newest row rest (f ∷ gs) → (done : List Kind) × IsEffect e done × AreOf acts newest done kept
      typed row rest [] fr = absurd (let clash : OfExpr (Operation (op.Effect e) ps) ≡ OfStatement row.form = fr.0 in grind (arith, clash))
      typed row (k ∷ ks) (g ∷ gs) fr =
          absurd (let (x, found) = some_part P (within row (kinds_held row (g ∷ gs))) fr.5.0 k ks ps fr.5.1 in
          let clash : None ≡ Some x = sym full ∙ ap (part_at ps) (as_many P acts newest row fr.5.0 kept fr.5.2) ∙ found in grind (arith, clash))
      typed row [] (g ∷ gs) fr =
          let inner : OfExpr (Operation (op.Effect e) ps) ≡ OfExpr (Operation fr.0 fr.1) = fr.4 in
          let op_same : fr.0 ≡ op.Effect e = cc inner in
          let t : IsOp P row.routine (kinds_held row (g ∷ gs)) (op.Effect e) (fr.5.0 ++ []) fr.2 = subst (λ x. IsOp P row.routine (kinds_held row (g ∷ gs)) x (fr.5.0 ++ []) fr.2) op_same fr.5.3 in
          (fr.5.0, effect_of_kind (within row (kinds_held row (g ∷ gs))) e fr.2 fr.5.0 (subst (λ x. IsOp P row.routine (kinds_held row (g ∷ gs)) (op.Effect e) x fr.2) (no_more_kinds fr.5.0) t), fr.5.2)

      framed : (at : AtStatement P acts newest a (record { statement = n; frames = f ∷ fs })) → (f ∷ fs ≡ []) ⊎ InProgress P acts newest at.row (f ∷ fs) → (done : List Kind) × IsEffect e done × AreOf acts newest done kept
      framed at (inl x) = absurd (grind (arith, x))
      framed at (inr (rest, fr, inside)) = typed at.row rest fs fr

      by : AtStatement P acts newest a (record { statement = n; frames = f ∷ fs }) ⊎ ((n ≡ a.routine) × (f ∷ fs ≡ []) × (a.holds ≡ [])) → (done : List Kind) × IsEffect e done × AreOf acts newest done kept
      by (inl at) = framed at at.frames
      by (inr x) = absurd (let k : f ∷ fs ≡ [] = x.1 in grind (arith, k))
