-- Activations that come and go: what older ones have keeps its place.
use Rattle.std.proofs.Common.{◌≡◌, ℕ, suc, ◌+◌, ◌-◌, ◌<◌, ◌≤◌, Bool, true, false, List, [], ◌∷◌, ◌++◌, length, Some, refl, sym, ap, ◌∙◌, subst, arith, inl, inr}
use Rattle.std.specs.Prelude.{◌⊎◌, drop, replicate}
use Rattle.core_tree.specs.declared.op.Op.TheVariants as op
use Rattle.core_tree.specs.declared.op.Callee.{Callee}
use Rattle.core_tree.specs.declared.form.RoutineForm.{RoutineForm}
use Rattle.core_tree.specs.Plain.{Operation, Exprs}
use Rattle.plain_pascal.specs.Program.{Kind, NoKind, WordKind, SetKind, PlaceKind, Row, RoutineRow, Program, routine_of}
use Rattle.plain_pascal.specs.State.{Place, Global, Local, Heap, Literal, Value, Word, Members, At, NoValue, OfStatement, OfExpr, PendingFrame, Activation, Control}
use Rattle.plain_pascal.specs.Memory.{from_activation, words_of}
use Rattle.plain_pascal.specs.Operations.{part}
use Rattle.plain_pascal.specs.Step.{given, returned_value}
use Rattle.plain_pascal.specs.Typed.{slots_of, slots_in, result_slots, parameter_slots, IsOp, IsCall, result_kind}
use Rattle.plain_pascal.specs.Valid.{IsOf, AreOf, ArePlain, LiesIn, Fits, FitsStatement, AreFrames, InProgress, AtStatement, IsActivation, NewestStands, AllWait, kinds_held, within}
use Rattle.plain_pascal.proofs.Kept.{value_keeps}
use Rattle.plain_pascal.proofs.Held.{given_held, given_inside}

module _ (P : Program) (acts acts' : List Activation) (bound : ℕ) (keeps : (newest : ℕ) → newest < bound → (p : Place) (n : ℕ) → LiesIn acts newest p n → LiesIn acts' newest p n) where
  of_moved : (newest : ℕ) → newest < bound → (k : Kind) (v : Value) → IsOf acts newest k v → IsOf acts' newest k v
  of_moved newest less NoKind NoValue h = h
  of_moved newest less WordKind (Word w) h = h
  of_moved newest less SetKind (Members ws) h = h
  of_moved newest less (PlaceKind n) (At p) h = keeps newest less p n h
  of_moved newest less k v h = absurd h

  pub values_moved : (newest : ℕ) → newest < bound → (ks : List Kind) (vs : List Value) → AreOf acts newest ks vs → AreOf acts' newest ks vs
  values_moved newest less [] [] h = tt
  values_moved newest less [] (v ∷ vs) h = absurd h
  values_moved newest less (k ∷ ks) [] h = absurd h
  values_moved newest less (k ∷ ks) (v ∷ vs) h = (of_moved newest less k v h.0, values_moved newest less ks vs h.1)

  fits_moved : (newest : ℕ) → newest < bound → (row : Row) (rest : List Kind) (f : PendingFrame) (T : List Kind → Type 0) → Fits P acts newest row rest f T → Fits P acts' newest row rest f T
  fits_moved newest less row rest f T h = (h.0, h.1, values_moved newest less h.0 f.kept h.2, h.3)

  statement_fits_moved : (newest : ℕ) → newest < bound → (row : Row) (rest : List Kind) (f : PendingFrame) → FitsStatement P acts newest row rest f → FitsStatement P acts' newest row rest f
  statement_fits_moved newest less row rest f h = (h.0, h.1, values_moved newest less h.0 f.kept h.2, h.3)

  pub frames_moved : (newest : ℕ) → newest < bound → (row : Row) (rest : List Kind) (fs : List PendingFrame) → AreFrames P acts newest row rest fs → AreFrames P acts' newest row rest fs
  frames_moved newest less row rest [] h = absurd h
  frames_moved newest less row rest (f ∷ []) h = (h.0, statement_fits_moved newest less row rest f h.1)
  frames_moved newest less row rest (f ∷ (g ∷ fs)) h = (h.0, h.1, h.2, h.3, h.4, fits_moved newest less (within row (kinds_held row (g ∷ fs))) rest f (λ x. IsOp P row.routine (kinds_held row (g ∷ fs)) h.0 x h.2) h.5, frames_moved newest less row (h.2 ∷ h.3) (g ∷ fs) h.6)

  pub statement_moved : (newest : ℕ) → newest < bound → (a : Activation) (c : Control) → AtStatement P acts newest a c → AtStatement P acts' newest a c
  statement_moved newest less a c at = record {
    row = at.row;
    found = at.found;
    inside = at.inside;
    held = values_moved newest less (kinds_held at.row c.frames) a.holds at.held;
    frames = by at.frames;
  }
    where
      by : (c.frames ≡ []) ⊎ InProgress P acts newest at.row c.frames → (c.frames ≡ []) ⊎ InProgress P acts' newest at.row c.frames
      by (inl h) = inl h
      by (inr (rest, h, inside)) = inr (rest, frames_moved newest less at.row rest c.frames h, inside)

  pub activation_moved : (a : Activation) (xs : List Activation) → length xs < bound → IsActivation P acts a xs → IsActivation P acts' a xs
  activation_moved a xs less is = record { row = is.row; found = is.found; words = values_moved (length xs) less (slots_of is.row) a.words is.words; parent = is.parent }

  pub waits_moved : (n : ℕ) (cs : List Control) (xs : List Activation) → length xs ≤ bound → AllWait P acts n cs xs → AllWait P acts' n cs xs
  waits_moved n [] [] le w = tt
  waits_moved n [] (x ∷ xs) le w = absurd w
  waits_moved n (c ∷ cs) [] le w = absurd w
  waits_moved n (c ∷ cs) (x ∷ xs) le w =
      (activation_moved x xs (omega (arith, le)) w.0, statement_moved (length xs) (omega (arith, le)) x c w.1, w.2, waits_moved x.routine cs xs (omega (arith, le)) w.3)

module _ (a : Activation) (acts : List Activation) where
  -- the older ones keep their numbers
  from_newer : (number : ℕ) → number < length acts → from_activation (a ∷ acts) number ≡ from_activation acts number
  from_newer number less = let e : length (a ∷ acts) - suc number ≡ suc (length acts - suc number) = omega (arith, less) in ap (λ n. drop n (a ∷ acts)) e

  pub lies_grown : (newest : ℕ) → newest < length acts → (p : Place) (n : ℕ) → LiesIn acts newest p n → LiesIn (a ∷ acts) newest p n
  lies_grown newest less (Global w) n h = h
  lies_grown newest less (Heap w) n h = h
  lies_grown newest less (Literal text) n h = h
  lies_grown newest less (Local b w) n h =
      subst (λ ys. (b ≤ newest) × (w + n ≤ length (words_of ys)) × ArePlain (words_of ys) w n) (sym (from_newer b (omega (arith, h.0, less)))) h

  pub lies_shrunk : (newest : ℕ) → newest < length acts → (p : Place) (n : ℕ) → LiesIn (a ∷ acts) newest p n → LiesIn acts newest p n
  lies_shrunk newest less (Global w) n h = h
  lies_shrunk newest less (Heap w) n h = h
  lies_shrunk newest less (Literal text) n h = h
  lies_shrunk newest less (Local b w) n h =
      subst (λ ys. (b ≤ newest) × (w + n ≤ length (words_of ys)) × ArePlain (words_of ys) w n) (from_newer b (omega (arith, h.0, less))) h

-- ---- a routine is left

module _ (P : Program) (a : Activation) (b : Activation) (xs : List Activation) where
  -- the result of a function is a word
  result_word : (r : RoutineRow) (f : RoutineForm) (acts : List Activation) (newest : ℕ) → r.form ≡ Some f → f.function ≡ true → AreOf acts newest (slots_of r) a.words → (ys : List Activation) (m : ℕ) → IsOf ys m WordKind (part a.words 0)
  result_word r f acts newest e t h ys m =
      by f.function t (subst (λ x. AreOf acts newest (slots_in x r.references) a.words) e h)
    where
      first : (ks : List Kind) (vs : List Value) → AreOf acts newest (WordKind ∷ ks) vs → IsOf ys m WordKind (part vs 0)
      first ks [] h = absurd h
      first ks (Word w ∷ vs) h = h.0
      first ks (Members ws ∷ vs) h = absurd h.0
      first ks (At p ∷ vs) h = absurd h.0
      first ks (NoValue ∷ vs) h = absurd h.0

      by : (x : Bool) → f.function ≡ true → AreOf acts newest (slots_in (Some f) r.references) a.words → IsOf ys m WordKind (part a.words 0)
      by x t h = first _ a.words (subst (λ y. AreOf acts newest (result_slots y ++ (parameter_slots f.parameters r.references ++ replicate f.local_words WordKind)) a.words) t h)

  returned_kind : (c : Callee) (r : RoutineRow) (f : RoutineForm) (acts : List Activation) (newest : ℕ) → r.form ≡ Some f → f.function ≡ c.function → AreOf acts newest (slots_of r) a.words → (ys : List Activation) (m : ℕ) → IsOf ys m (result_kind c.function) (returned_value c.function a.words)
  returned_kind c r f acts newest e t h ys m = by c.function t
    where
      by : (x : Bool) → f.function ≡ x → IsOf ys m (result_kind x) (returned_value x a.words)
      by true t = result_word r f acts newest e t h ys m
      by false t = tt

  -- the newest activation goes, and its result goes to the call that waits for it
  pub return_stands : (n : ℕ) (cs : List Control) (c : Callee) (ps : Exprs) (kept : List Value) (fs : List PendingFrame)
      → IsActivation P (a ∷ (b ∷ xs)) a (b ∷ xs) → AllWait P (a ∷ (b ∷ xs)) a.routine (record { statement = n; frames = record { node = OfExpr (Operation (op.Call c) ps); kept = kept } ∷ fs } ∷ cs) (b ∷ xs)
      → NewestStands P (b ∷ xs) (record { statement = n; frames = given (returned_value c.function a.words) fs } ∷ cs) (b ∷ xs)
  return_stands n cs c ps kept fs is w =
      let (p, same_held) = framed after.1.frames in
      (after.0, inl (record { row = after.1.row; found = after.1.found; inside = after.1.inside; held = subst (λ ks. AreOf (b ∷ xs) (length xs) ks b.holds) (sym same_held) after.1.held; frames = inr p }), after.3)
    where
      f : PendingFrame
      f = record { node = OfExpr (Operation (op.Call c) ps); kept = kept }

      after : AllWait P (b ∷ xs) a.routine (record { statement = n; frames = f ∷ fs } ∷ cs) (b ∷ xs)
      after = waits_moved P (a ∷ (b ∷ xs)) (b ∷ xs) (length (b ∷ xs)) (lies_shrunk a (b ∷ xs)) a.routine (record { statement = n; frames = f ∷ fs } ∷ cs) (b ∷ xs) (omega arith) w

      by : (rest : List Kind) (gs : List PendingFrame) → AreFrames P (b ∷ xs) (length xs) after.1.row rest (f ∷ gs) → (more : List Kind) × AreFrames P (b ∷ xs) (length xs) after.1.row more (given (returned_value c.function a.words) gs)
      by rest [] fr = absurd (let clash : OfExpr (Operation (op.Call c) ps) ≡ OfStatement after.1.row.form = fr.0 in grind (arith, clash))
      by rest (g ∷ gs) fr =
          let inner : OfExpr (Operation (op.Call c) ps) ≡ OfExpr (Operation fr.0 fr.1) = fr.4 in
          let op_same : fr.0 ≡ op.Call c = cc inner in
          let call : IsCall P after.1.row.routine c (fr.5.0 ++ rest) fr.2 = subst (λ x. IsOp P after.1.row.routine (kinds_held after.1.row (g ∷ gs)) x (fr.5.0 ++ rest) fr.2) op_same fr.5.3 in
          let (r, form, found, has, kinds, function, kind, scope) = call in
          let here : routine_of P a.routine ≡ Some r = ap (routine_of P) (sym w.2.0) ∙ found in
          let s : Some is.row ≡ Some r = sym is.found ∙ here in
          let t : is.row ≡ r = cc s in
          let words : AreOf (a ∷ (b ∷ xs)) (length (b ∷ xs)) (slots_of r) a.words = subst (λ q. AreOf (a ∷ (b ∷ xs)) (length (b ∷ xs)) (slots_of q) a.words) t is.words in (
            fr.3,
            value_keeps P (b ∷ xs) (length xs) after.1.row fr.2 fr.3 (g ∷ gs) (returned_value c.function a.words)
                (subst (λ k. IsOf (b ∷ xs) (length xs) k (returned_value c.function a.words)) (sym kind) (returned_kind c r form (a ∷ (b ∷ xs)) (length (b ∷ xs)) has function words (b ∷ xs) (length xs))) fr.6,
          )

      known : (gs : List PendingFrame) → InProgress P (b ∷ xs) (length xs) after.1.row (f ∷ gs)
          → InProgress P (b ∷ xs) (length xs) after.1.row (given (returned_value c.function a.words) gs) × (kinds_held after.1.row (given (returned_value c.function a.words) gs) ≡ kinds_held after.1.row (f ∷ gs))
      known [] (rest, fr, inside) = absurd (let clash : OfExpr (Operation (op.Call c) ps) ≡ OfStatement after.1.row.form = fr.0 in grind (arith, clash))
      known (g ∷ gs) (rest, fr, inside) =
          let (more, frames) = by rest (g ∷ gs) fr in
          ((more, frames, given_inside (OfStatement after.1.row.form) f g gs (returned_value c.function a.words) inside), given_held after.1.row (op.Call c) ps kept g gs (returned_value c.function a.words) refl inside)

      framed : (f ∷ fs ≡ []) ⊎ InProgress P (b ∷ xs) (length xs) after.1.row (f ∷ fs)
          → InProgress P (b ∷ xs) (length xs) after.1.row (given (returned_value c.function a.words) fs) × (kinds_held after.1.row (given (returned_value c.function a.words) fs) ≡ kinds_held after.1.row (f ∷ fs))
      framed (inl e) = absurd (grind (arith, e))
      framed (inr p) = known fs p
