-- A stored word, and a passed gate, keep a state in order.
use Rattle.std.proofs.Common.{◌≡◌, ℕ, suc, ◌-◌, ◌<◌, List, [], ◌∷◌, length, Some, refl, sym, ap, ◌∙◌, subst, arith, inl, inr}
use Rattle.std.specs.Prelude.{◌⊎◌, drop}
use Rattle.plain_pascal.specs.Program.{Kind, Row, RoutineRow, Program, row_of, routine_of}
use Rattle.plain_pascal.specs.State.{OfStatement, PendingFrame, Activation, Control}
use Rattle.plain_pascal.specs.Memory.{from_activation}
use Rattle.plain_pascal.specs.Step.{frame_of}
use Rattle.plain_pascal.specs.Typed.{slots_of, IsOp}
use Rattle.plain_pascal.specs.Valid.{AreOf, Fits, FitsStatement, AreFrames, InProgress, AtStatement, HasParent, IsActivation, Waits, NewestStands, AllWait, IsProgram, kinds_held, within}
use Rattle.plain_pascal.proofs.Stores.{Alike, AllAlike, same_count, drop_alike, values_alike, slots_alike}
use Rattle.plain_pascal.proofs.Kept.{gate_keeps}

-- the newest of a tail, and of one that is alike
same_newest : (xs ys : List Activation) (b : Activation) (rest : List Activation) (routine : ℕ) → AllAlike xs ys → xs ≡ b ∷ rest → b.routine ≡ routine → (c : Activation) × (more : List Activation) × (ys ≡ c ∷ more) × (c.routine ≡ routine)
same_newest [] ys b rest routine h e r = absurd (grind (arith, e))
same_newest (x ∷ xs) [] b rest routine h e r = absurd h
same_newest (x ∷ xs) (y ∷ ys) b rest routine h e r = let same : x ≡ b = cc e in (y, ys, refl, sym h.0.routine ∙ ap (λ z. z.routine) same ∙ r)

module _ (P : Program) (acts acts' : List Activation) (alike : AllAlike acts acts') where
  fits_alike : (newest : ℕ) (row : Row) (rest : List Kind) (f : PendingFrame) (T : List Kind → Type 0) → Fits P acts newest row rest f T → Fits P acts' newest row rest f T
  fits_alike newest row rest f T h = (h.0, h.1, values_alike acts acts' alike newest h.0 f.kept h.2, h.3)

  statement_fits_alike : (newest : ℕ) (row : Row) (rest : List Kind) (f : PendingFrame) → FitsStatement P acts newest row rest f → FitsStatement P acts' newest row rest f
  statement_fits_alike newest row rest f h = (h.0, h.1, values_alike acts acts' alike newest h.0 f.kept h.2, h.3)

  frames_alike : (newest : ℕ) (row : Row) (rest : List Kind) (fs : List PendingFrame) → AreFrames P acts newest row rest fs → AreFrames P acts' newest row rest fs
  frames_alike newest row rest [] h = absurd h
  frames_alike newest row rest (f ∷ []) h = (h.0, statement_fits_alike newest row rest f h.1)
  frames_alike newest row rest (f ∷ (g ∷ fs)) h = (h.0, h.1, h.2, h.3, h.4, fits_alike newest (within row (kinds_held row (g ∷ fs))) rest f (λ x. IsOp P row.routine (kinds_held row (g ∷ fs)) h.0 x h.2) h.5, frames_alike newest row (h.2 ∷ h.3) (g ∷ fs) h.6)

  statement_alike : (newest : ℕ) (a b : Activation) (c : Control) → Alike a b → AtStatement P acts newest a c → AtStatement P acts' newest b c
  statement_alike newest a b c e at = record {
    row = at.row;
    found = at.found;
    inside = at.inside ∙ e.routine;
    held = subst (AreOf acts' newest (kinds_held at.row c.frames)) e.holds (values_alike acts acts' alike newest (kinds_held at.row c.frames) a.holds at.held);
    frames = by at.frames;
  }
    where
      by : (c.frames ≡ []) ⊎ InProgress P acts newest at.row c.frames → (c.frames ≡ []) ⊎ InProgress P acts' newest at.row c.frames
      by (inl h) = inl h
      by (inr (rest, h, inside)) = inr (rest, frames_alike newest at.row rest c.frames h, inside)

  parent_alike : (r : RoutineRow) (a b : Activation) (xs ys : List Activation) → Alike a b → AllAlike xs ys → HasParent r a xs → HasParent r b ys
  parent_alike r a b [] [] e h p = (p.0, sym e.routine ∙ p.1)
  parent_alike r a b [] (y ∷ ys) e h p = absurd h
  parent_alike r a b (x ∷ xs) [] e h p = absurd h
  parent_alike r a b (x ∷ xs) (y ∷ ys) e h p =
      let long : length (x ∷ xs) ≡ length (y ∷ ys) = same_count (x ∷ xs) (y ∷ ys) h in
      let tails : AllAlike (from_activation (x ∷ xs) a.static_link) (from_activation (y ∷ ys) b.static_link) =
      subst (λ l. AllAlike (from_activation (x ∷ xs) a.static_link) (from_activation (y ∷ ys) l)) e.link
      (subst (λ n. AllAlike (from_activation (x ∷ xs) a.static_link) (drop (n - suc a.static_link) (y ∷ ys))) long (drop_alike (length (x ∷ xs) - suc a.static_link) (x ∷ xs) (y ∷ ys) h)) in
      let less : b.static_link < length (y ∷ ys) = subst (λ l. l < length (y ∷ ys)) e.link (omega (arith, p.0, long)) in
      let (c, more, at, routine) = same_newest (from_activation (x ∷ xs) a.static_link) (from_activation (y ∷ ys) b.static_link) p.1 p.2 r.owner tails p.3 p.4 in
      (less, c, more, at, routine)

  pub activation_alike : (a b : Activation) (xs ys : List Activation) → Alike a b → AllAlike xs ys → IsActivation P acts a xs → IsActivation P acts' b ys
  activation_alike a b xs ys e h is = record {
    row = is.row;
    found = ap (routine_of P) (sym e.routine) ∙ is.found;
    words = subst (λ n. AreOf acts' n (slots_of is.row) b.words) (same_count xs ys h) (slots_alike acts acts' alike (length xs) (slots_of is.row) a.words b.words is.words e.words);
    parent = parent_alike is.row a b xs ys e h is.parent;
  }

  pub waits_alike : (n m : ℕ) (cs : List Control) (xs ys : List Activation) → n ≡ m → AllAlike xs ys → AllWait P acts n cs xs → AllWait P acts' m cs ys
  waits_alike n m [] [] [] e h w = tt
  waits_alike n m [] [] (y ∷ ys) e h w = absurd h
  waits_alike n m [] (x ∷ xs) ys e h w = absurd w
  waits_alike n m (c ∷ cs) [] ys e h w = absurd w
  waits_alike n m (c ∷ cs) (x ∷ xs) [] e h w = absurd h
  waits_alike n m (c ∷ cs) (x ∷ xs) (y ∷ ys) e h w = (
    activation_alike x y xs ys h.0 h.1 w.0,
    subst (λ k. AtStatement P acts' k y c) (same_count xs ys h.1) (statement_alike (length xs) x y c h.0 w.1),
    subst (Waits c.frames) e w.2,
    waits_alike x.routine y.routine cs xs ys h.0.routine h.1 w.3,
  )

  -- activations that are alike stand alike
  pub stands_alike : (cs : List Control) (xs ys : List Activation) → AllAlike xs ys → NewestStands P acts cs xs → NewestStands P acts' cs ys
  stands_alike [] xs ys h s = absurd s
  stands_alike (c ∷ cs) [] ys h s = absurd s
  stands_alike (c ∷ cs) (x ∷ xs) [] h s = absurd h
  stands_alike (c ∷ cs) (x ∷ xs) (y ∷ ys) h s =
      (activation_alike x y xs ys h.0 h.1 s.0, by s.1, waits_alike x.routine y.routine cs xs ys h.0.routine h.1 s.2)
    where
      by : AtStatement P acts (length xs) x c ⊎ ((c.statement ≡ x.routine) × (c.frames ≡ []) × (x.holds ≡ []))
          → AtStatement P acts' (length ys) y c ⊎ ((c.statement ≡ y.routine) × (c.frames ≡ []) × (y.holds ≡ []))
      by (inl at) = inl (subst (λ k. AtStatement P acts' k y c) (same_count xs ys h.1) (statement_alike (length xs) x y c h.0 at))
      by (inr e) = inr (e.0 ∙ h.0.routine, e.1, sym h.0.holds ∙ e.2)

-- ---- the gate of a statement

pub gate_stands : (P : Program) (program : IsProgram P) (n : ℕ) (row : Row) (cs : List Control) (acts : List Activation) (a : Activation) (xs : List Activation) → row_of P n ≡ Some row
    → AtStatement P acts (length xs) a (record { statement = n; frames = [] })
    → IsActivation P acts a xs → AllWait P acts a.routine cs xs
    → NewestStands P acts (record { statement = n; frames = frame_of (OfStatement row.form) ∷ [] } ∷ cs) (a ∷ xs)
gate_stands P program n row cs acts a xs found at is waits =
    let s : Some at.row ≡ Some row = sym at.found ∙ found in
    let same : at.row ≡ row = cc s in (
      is,
      inl (record {
        row = row;
        found = found;
        inside = sym (ap (λ r. r.routine) same) ∙ at.inside;
        held = subst (λ r. AreOf acts (length xs) (kinds_held r (frame_of (OfStatement row.form) ∷ [])) a.holds) same at.held;
        frames = inr ((program.forms n row found).kinds, gate_keeps P acts (length xs) row (program.forms n row found), refl);
      }),
      waits,
    )
