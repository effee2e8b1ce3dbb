-- A routine is entered: its activation is one of the program, and those older keep what they have.
use Rattle.std.proofs.Common.{◌≡◌, ℕ, zero, suc, ◌+◌, ◌-◌, ◌<◌, Bool, true, false, List, [], ◌∷◌, ◌++◌, map, length, Some, refl, sym, ap, ◌∙◌, subst, arith, inl}
use Rattle.std.specs.Prelude.{drop, replicate}
use Rattle.std.specs.List.{AllByRecursion}
use Rattle.core_tree.specs.declared.op.Scope.{Scope}
use Rattle.core_tree.specs.declared.op.Scope.TheVariants as scope
use Rattle.core_tree.specs.declared.form.RoutineForm.{RoutineForm}
use Rattle.core_tree.specs.declared.form.Parameter.{Parameter}
use Rattle.core_tree.specs.declared.form.Parameter.TheVariants as parameter
use Rattle.plain_pascal.specs.Program.{Kind, WordKind, SetKind, PlaceKind, RoutineRow, Program}
use Rattle.plain_pascal.specs.State.{Place, Value, Word, Members, At, NoValue, Activation, Data}
use Rattle.plain_pascal.specs.Memory.{from_activation, linked_up, moved, words_at, place_in}
use Rattle.plain_pascal.specs.Operations.{members_in}
use Rattle.plain_pascal.specs.Step.{arguments_words, result_words, frame_words, parent_of}
use Rattle.plain_pascal.specs.Typed.{slots_in, parameter_slots, argument_kinds, result_slots, IsScopeOf}
use Rattle.plain_pascal.specs.Valid.{IsWord, IsOf, AreOf, LiesIn, IsData, IsProgram, HasEntry, AtStatement}
use Rattle.plain_pascal.proofs.Sound.{place_word}
use Rattle.plain_pascal.proofs.Places.{moved_lies, shorter_lies, newer_lies}
use Rattle.plain_pascal.proofs.Scopes.{AllActivations, Found, scope_found, drop_count}
use Rattle.plain_pascal.proofs.Moves.{lies_grown}
use Rattle.plain_pascal.proofs.Named.{row_named}

-- ---- lists of values

module _ (acts : List Activation) (newest : ℕ) where
  joined : (ks js : List Kind) (vs ws : List Value) → AreOf acts newest ks vs → AreOf acts newest js ws → AreOf acts newest (ks ++ js) (vs ++ ws)
  joined [] js [] ws h k = k
  joined [] js (v ∷ vs) ws h k = absurd h
  joined (j ∷ ks) js [] ws h k = absurd h
  joined (j ∷ ks) js (v ∷ vs) ws h k = (h.0, joined ks js vs ws h.1 k)

  plain_words : (n : ℕ) (ws : List ℕ) → length ws ≡ n → AllByRecursion IsWord ws → AreOf acts newest (replicate n WordKind) (map Word ws)
  plain_words zero [] e h = tt
  plain_words zero (w ∷ ws) e h = absurd (omega (arith, e))
  plain_words (suc n) [] e h = absurd (omega (arith, e))
  plain_words (suc n) (w ∷ ws) e h = (h.0, plain_words n ws (omega (arith, e)) h.1)

  zeros : (n : ℕ) → AreOf acts newest (replicate n WordKind) (replicate n (Word 0))
  zeros zero = tt
  zeros (suc n) = (omega arith, zeros n)

-- ---- the words of a new activation

module _ (d : Data) (good : IsData d) (newest : ℕ) (new : Activation) (inside : newest < length d.activations) where
  abbrev acts : List Activation
  acts = d.activations

  abbrev grown : List Activation
  grown = new ∷ d.activations

  abbrev number : ℕ
  number = length d.activations

  read_words : (n : ℕ) (p : Place) → LiesIn acts newest p n → (length (words_at d n p) ≡ n) × AllByRecursion IsWord (words_at d n p)
  read_words zero p h = (refl, tt)
  read_words (suc n) p h =
      let (long, all) = read_words n (moved p 1) (moved_lies acts newest p 1 n (suc n) h (omega arith)) in
      (ap suc long, (place_word d good newest p 1 (shorter_lies acts newest p 1 (suc n) h (omega arith)) (omega arith), all))

  scalar_word : (v : Value) → IsOf acts newest WordKind v → IsOf grown number WordKind v
  scalar_word (Word w) h = h
  scalar_word (Members ws) h = absurd h
  scalar_word (At p) h = absurd h
  scalar_word NoValue h = absurd h

  set_words_of : (v : Value) → IsOf acts newest SetKind v → AreOf grown number (replicate 8 WordKind) (map Word (members_in v))
  set_words_of (Members ws) h = plain_words grown number 8 ws h.0 h.1
  set_words_of (Word w) h = absurd h
  set_words_of (At p) h = absurd h
  set_words_of NoValue h = absurd h

  structure_words : (n : ℕ) (v : Value) → IsOf acts newest (PlaceKind n) v → AreOf grown number (replicate n WordKind) (map Word (words_at d n (place_in v)))
  structure_words n (At p) h = let (long, all) = read_words n p h in plain_words grown number n (words_at d n p) long all
  structure_words n (Word w) h = absurd h
  structure_words n (Members ws) h = absurd h
  structure_words n NoValue h = absurd h

  reference : (n : ℕ) (v : Value) → IsOf acts newest (PlaceKind n) v → IsOf grown number (PlaceKind n) v
  reference n (At p) h = newer_lies grown number newest p n (omega (arith, inside)) (lies_grown new acts newest inside p n h)
  reference n (Word w) h = absurd h
  reference n (Members ws) h = absurd h
  reference n NoValue h = absurd h

  arguments_sound : (ps : List Parameter) (refs : List ℕ) (vs : List Value) → AreOf acts newest (argument_kinds ps refs) vs → AreOf grown number (parameter_slots ps refs) (arguments_words d ps vs)
  arguments_sound [] refs vs h = tt
  arguments_sound (parameter.Scalar ∷ ps) refs [] h = absurd h
  arguments_sound (parameter.Scalar ∷ ps) refs (v ∷ vs) h = (scalar_word v h.0, arguments_sound ps refs vs h.1)
  arguments_sound (parameter.Set ∷ ps) refs [] h = absurd h
  arguments_sound (parameter.Set ∷ ps) refs (v ∷ vs) h = joined grown number (replicate 8 WordKind) (parameter_slots ps refs) (map Word (members_in v)) (arguments_words d ps vs) (set_words_of v h.0) (arguments_sound ps refs vs h.1)
  arguments_sound (parameter.Structure n ∷ ps) refs [] h = absurd h
  arguments_sound (parameter.Structure n ∷ ps) refs (v ∷ vs) h = joined grown number (replicate n WordKind) (parameter_slots ps refs) (map Word (words_at d n (place_in v))) (arguments_words d ps vs) (structure_words n v h.0) (arguments_sound ps refs vs h.1)
  arguments_sound (parameter.ByPlace ∷ ps) [] [] h = absurd h
  arguments_sound (parameter.ByPlace ∷ ps) [] (v ∷ vs) h = (reference 0 v h.0, arguments_sound ps [] vs h.1)
  arguments_sound (parameter.ByPlace ∷ ps) (n ∷ refs) [] h = absurd h
  arguments_sound (parameter.ByPlace ∷ ps) (n ∷ refs) (v ∷ vs) h = (reference n v h.0, arguments_sound ps refs vs h.1)

  pub frame_sound : (f : RoutineForm) (refs : List ℕ) (vs : List Value) → AreOf acts newest (argument_kinds f.parameters refs) vs → AreOf grown number (slots_in (Some f) refs) (frame_words d (Some f) vs)
  frame_sound f refs vs h =
      joined grown number (result_slots f.function) (parameter_slots f.parameters refs ++ replicate f.local_words WordKind) (result_words f.function) (arguments_words d f.parameters vs ++ replicate f.local_words (Word 0))
      (result f.function)
      (joined grown number (parameter_slots f.parameters refs) (replicate f.local_words WordKind) (arguments_words d f.parameters vs) (replicate f.local_words (Word 0)) (arguments_sound f.parameters refs vs h) (zeros grown number f.local_words))
    where
      result : (b : Bool) → AreOf grown number (result_slots b) (result_words b)
      result true = (omega arith, tt)
      result false = tt

-- ---- its static link

module _ (P : Program) (program : IsProgram P) (a : Activation) (xs : List Activation) (all : AllActivations P (a ∷ xs) (a ∷ xs)) where
  -- the oldest activation is the program's
  oldest : (ys : List Activation) (y : Activation) → AllActivations P (a ∷ xs) (y ∷ ys) → (z : Activation) × (drop (length ys) (y ∷ ys) ≡ z ∷ []) × (z.routine ≡ 1)
  oldest [] y h = (y, refl, h.0.parent.1)
  oldest (x ∷ ys) y h = let (z, at, is) = oldest ys x h.1 in (z, at, is)

  pub has_parent : (s : Scope) (owner : ℕ) → IsScopeOf P a.routine s owner
      → (parent_of s (a ∷ xs) < length (a ∷ xs)) × (b : Activation) × (rest : List Activation) × (from_activation (a ∷ xs) (parent_of s (a ∷ xs)) ≡ b ∷ rest) × (b.routine ≡ owner)
  has_parent scope.Program owner h =
      let (z, at, is) = oldest xs a all in
      let e : length (a ∷ xs) - suc 0 ≡ length xs = omega arith in
      (omega arith, z, [], ap (λ n. drop n (a ∷ xs)) e ∙ at, is ∙ sym h)
  has_parent (scope.Routine k) owner h =
      let f : Found P (a ∷ xs) (linked_up (a ∷ xs) k) h.0 = scope_found P program.no_zero a xs all k h.0 h.1 in
      let long : length (a ∷ xs) ≡ (length (a ∷ xs) - suc (linked_up (a ∷ xs) k)) + suc (length f.older) = drop_count (length (a ∷ xs) - suc (linked_up (a ∷ xs) k)) (a ∷ xs) f.activation f.older f.at in
      (omega (arith, long, f.count), f.activation, f.older, f.at, sym (row_named P f.activation.routine h.0 f.row) ∙ h.2)

-- ---- before the first gate of its body

pub entry_stands : (P : Program) (acts : List Activation) (newest : ℕ) (r : RoutineRow) (new : Activation) → HasEntry P r → new.routine ≡ r.name → new.holds ≡ [] → AtStatement P acts newest new (record { statement = r.entry; frames = [] })
entry_stands P acts newest r new h name holds = record {
  row = h.0;
  found = h.1;
  inside = h.2 ∙ sym name;
  held = subst (λ vs. AreOf acts newest (h.0.around ++ []) vs) (sym holds) (subst (λ ks. AreOf acts newest (ks ++ []) []) (sym h.3) tt);
  frames = inl refl;
}
