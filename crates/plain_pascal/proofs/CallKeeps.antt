-- A call keeps a state in order.
use Rattle.std.proofs.Common.{◌≡◌, ℕ, suc, List, [], ◌∷◌, ◌++◌, length, Some, None, refl, sym, ap, ◌∙◌, subst, arith, inl, inr}
use Rattle.std.specs.Prelude.{◌⊎◌}
use Rattle.core_tree.specs.declared.op.Op.TheVariants as op
use Rattle.core_tree.specs.declared.op.Callee.{Callee}
use Rattle.core_tree.specs.Plain.{Operation, Exprs, part_at}
use Rattle.plain_pascal.specs.Program.{Kind, Row, RoutineRow, Program, routine_of}
use Rattle.plain_pascal.specs.State.{Value, OfStatement, OfExpr, PendingFrame, Activation, Data, Control}
use Rattle.plain_pascal.specs.Step.{frame_words, parent_of}
use Rattle.plain_pascal.specs.Typed.{slots_of, slots_in, argument_kinds, IsOp, IsCall, IsScopeOf}
use Rattle.plain_pascal.specs.Valid.{AreOf, AreFrames, InProgress, within, kinds_held, AtStatement, IsActivation, NewestStands, IsData, IsProgram}
use Rattle.plain_pascal.proofs.Kept.{as_many}
use Rattle.plain_pascal.proofs.Keeps.{some_part}
use Rattle.plain_pascal.proofs.Scopes.{standing_all}
use Rattle.plain_pascal.proofs.Moves.{waits_moved, activation_moved, statement_moved, lies_grown}
use Rattle.plain_pascal.proofs.Named.{row_named}
use Rattle.plain_pascal.proofs.Enters.{frame_sound, has_parent, entry_stands}

module _ (P : Program) (program : IsProgram P) (n : ℕ) (cs : List Control) (d : Data) (good : IsData d) (a : Activation) (xs : List Activation) (same : d.activations ≡ a ∷ xs) (c : Callee) (ps : Exprs) (kept : List Value) (fs : List PendingFrame) (full : part_at ps (length kept) ≡ None) (r : RoutineRow) (found : routine_of P c.routine.0 ≡ Some r) (hs : List Value) (empty : hs ≡ []) where
  abbrev f : PendingFrame
  f = record { node = OfExpr (Operation (op.Call c) ps); kept = kept }

  abbrev acts : List Activation
  acts = a ∷ xs

  -- the new activation
  abbrev pub new : Activation
  new = record { routine = r.name; static_link = parent_of c.scope acts; words = frame_words d r.form kept; holds = hs }

  named : r.name ≡ c.routine.0
  named = row_named P c.routine.0 r found

  -- what the waiting frame says of the call
  IsTyped : ℕ → Type 0
  IsTyped routine = (k : Kind) × (ks : List Kind) × IsCall P routine c ks k × AreOf acts (length xs) ks kept

  typed_call : (row : Row) (rest : List Kind) (gs : List PendingFrame) → AreFrames P acts (length xs) row rest (f ∷ gs) → IsTyped row.routine
  unfolding IsTyped
  typed_call row rest [] fr = absurd (let clash : OfExpr (Operation (op.Call c) ps) ≡ OfStatement row.form = fr.0 in grind (arith, clash))
  typed_call row (k ∷ ks) (g ∷ gs) fr =
      let inner : OfExpr (Operation (op.Call c) ps) ≡ OfExpr (Operation fr.0 fr.1) = fr.4 in
      absurd (let (e, at) = some_part P (within row (kinds_held row (g ∷ gs))) fr.5.0 k ks ps fr.5.1 in
      let clash : None ≡ Some e = sym full ∙ ap (part_at ps) (as_many P acts (length xs) row fr.5.0 kept fr.5.2) ∙ at in grind (arith, clash))
  typed_call row [] (g ∷ gs) fr =
      let inner : OfExpr (Operation (op.Call c) ps) ≡ OfExpr (Operation fr.0 fr.1) = fr.4 in
      let op_same : fr.0 ≡ op.Call c = cc inner in
      (fr.2, fr.5.0 ++ [], subst (λ x. IsOp P row.routine (kinds_held row (g ∷ gs)) x (fr.5.0 ++ []) fr.2) op_same fr.5.3, subst (λ ks. AreOf acts (length xs) ks kept) (sym (plus_none fr.5.0)) fr.5.2)
    where
      plus_none : (done : List Kind) → done ++ [] ≡ done
      plus_none [] = refl
      plus_none (k ∷ done) = ap (λ x. k ∷ x) (plus_none done)

  is_new : (routine : ℕ) → routine ≡ a.routine → IsTyped routine → NewestStands P acts (record { statement = n; frames = f ∷ fs } ∷ cs) acts → IsActivation P (new ∷ acts) new acts
  unfolding IsTyped
  is_new routine inside (k, ks, call, ho) h =
      let (q, form, at, has, kinds, function, kind, scope) = call in
      let s : Some q ≡ Some r = sym at ∙ found in
      let t : q ≡ r = cc s in
      let shape : r.form ≡ Some form = subst (λ x. x.form ≡ Some form) t has in
      let arguments : AreOf d.activations (length xs) (argument_kinds form.parameters r.references) kept =
      subst (λ ys. AreOf ys (length xs) (argument_kinds form.parameters r.references) kept) (sym same)
      (subst (λ js. AreOf acts (length xs) js kept) (kinds ∙ ap (λ x. argument_kinds form.parameters x.references) t) ho) in
      let long : length d.activations ≡ suc (length xs) = ap length same in
      let words : AreOf (new ∷ d.activations) (length d.activations) (slots_in (Some form) r.references) (frame_words d (Some form) kept) = frame_sound d good (length xs) new (omega (arith, long)) form r.references kept arguments in
      record {
        row = r;
        found = ap (routine_of P) named ∙ found;
        words = subst (λ ys. AreOf (new ∷ ys) (length ys) (slots_of r) (frame_words d r.form kept)) same
            (subst (λ x. AreOf (new ∷ d.activations) (length d.activations) (slots_in x r.references) (frame_words d x kept)) (sym shape) words);
        parent = has_parent P program a xs (standing_all P acts (record { statement = n; frames = f ∷ fs } ∷ cs) acts h) c.scope r.owner
            (subst (λ x. IsScope x) inside (subst (λ x. IsScopeFor routine x) t scope));
      }
    where
      IsScopeFor : ℕ → RoutineRow → Type 0
      IsScopeFor m x = IsScopeOf P m c.scope x.owner

      IsScope : ℕ → Type 0
      IsScope m = IsScopeOf P m c.scope r.owner

  -- the caller waits, and the new activation stands before its first gate
  pub call_stands : NewestStands P acts (record { statement = n; frames = f ∷ fs } ∷ cs) acts
      → NewestStands P (new ∷ acts) (record { statement = r.entry; frames = [] } ∷ (record { statement = n; frames = f ∷ fs } ∷ cs)) (new ∷ acts)
  call_stands h = by h.1
    where
      framed : (at : AtStatement P acts (length xs) a (record { statement = n; frames = f ∷ fs })) → (f ∷ fs ≡ []) ⊎ InProgress P acts (length xs) at.row (f ∷ fs) → IsTyped at.row.routine
      framed at (inl e) = absurd (grind (arith, e))
      framed at (inr (rest, fr, inside)) = typed_call at.row rest fs fr

      by : AtStatement P acts (length xs) a (record { statement = n; frames = f ∷ fs }) ⊎ ((n ≡ a.routine) × (f ∷ fs ≡ []) × (a.holds ≡ []))
          → NewestStands P (new ∷ acts) (record { statement = r.entry; frames = [] } ∷ (record { statement = n; frames = f ∷ fs } ∷ cs)) (new ∷ acts)
      by (inr e) = absurd (let k : f ∷ fs ≡ [] = e.1 in grind (arith, k))
      by (inl at) = (
        is_new at.row.routine at.inside (framed at at.frames) h,
        inl (entry_stands P (new ∷ acts) (length acts) r new (program.entries c.routine.0 r found) refl empty),
        (
          activation_moved P acts (new ∷ acts) (length acts) (lies_grown new acts) a xs (omega arith) h.0,
          statement_moved P acts (new ∷ acts) (length acts) (lies_grown new acts) (length xs) (omega arith) a (record { statement = n; frames = f ∷ fs }) at,
          (sym named, full),
          waits_moved P acts (new ∷ acts) (length acts) (lies_grown new acts) a.routine cs xs (omega arith) h.2,
        ),
      )
