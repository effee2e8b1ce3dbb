-- Operations that give a place give one that lies inside what it names.
use Rattle.std.proofs.Common.{◌≡◌, ℕ, zero, suc, ◌+◌, ◌<◌, ◌≤◌, Bool, true, false, List, [], ◌∷◌, length, Some, refl, sym, ap, ◌∙◌, subst, arith}
use Rattle.std.specs.Prelude.{slice_get, get_or, drop}
use Rattle.std.specs.List.{AllByRecursion}
use Rattle.core_tree.specs.declared.op.Scope.{Scope}
use Rattle.core_tree.specs.declared.op.Scope.TheVariants as scope
use Rattle.core_tree.specs.declared.op.Variable.{Variable}
use Rattle.plain_pascal.specs.Program.{Kind, WordKind, PlaceKind, RoutineRow, Program}
use Rattle.plain_pascal.specs.State.{Place, Global, Local, Heap, Literal, Value, Word, Members, At, NoValue, Activation}
use Rattle.plain_pascal.specs.Memory.{place_in, moved, words_of, from_activation, linked_up, local_word, actual, place_of}
use Rattle.plain_pascal.specs.Typed.{slots_of, scope_row, IsPart, IsVariable}
use Rattle.plain_pascal.specs.Valid.{IsWord, IsOf, AreOf, LiesIn}

-- ---- values among values

got : (xs : List Value) (i : ℕ) (z v : Value) → slice_get xs i ≡ Some v → get_or xs i z ≡ v
got [] i z v e = absurd (grind (arith, e))
got (x ∷ xs) zero z v e = cc e
got (x ∷ xs) (suc i) z v e = got xs i z v e

module _ (acts : List Activation) (newest : ℕ) where
  -- the value of a number, and its kind
  pub of_at : (ks : List Kind) (vs : List Value) (i : ℕ) (k : Kind) → AreOf acts newest ks vs → slice_get ks i ≡ Some k → (v : Value) × (slice_get vs i ≡ Some v) × IsOf acts newest k v
  of_at [] [] i k h e = absurd (grind (arith, e))
  of_at [] (v ∷ vs) i k h e = absurd h
  of_at (j ∷ ks) [] i k h e = absurd h
  of_at (j ∷ ks) (v ∷ vs) zero k h e = let same : j ≡ k = cc e in (v, refl, subst (λ x. IsOf acts newest x v) same h.0)
  of_at (j ∷ ks) (v ∷ vs) (suc i) k h e = of_at ks vs i k h.1 e

  long : (ks : List Kind) (vs : List Value) → AreOf acts newest ks vs → length vs ≡ length ks
  long [] [] h = refl
  long [] (v ∷ vs) h = absurd h
  long (k ∷ ks) [] h = absurd h
  long (k ∷ ks) (v ∷ vs) h = ap suc (long ks vs h.1)

  plain_word : (v : Value) → IsOf acts newest WordKind v → (x : ℕ) × IsWord x × (v ≡ Word x)
  plain_word (Word w) h = (w, h, refl)
  plain_word (Members ws) h = absurd h
  plain_word (At p) h = absurd h
  plain_word NoValue h = absurd h

  plain_place : (n : ℕ) (v : Value) → IsOf acts newest (PlaceKind n) v → LiesIn acts newest (place_in v) n
  plain_place n (At p) h = h
  plain_place n (Word w) h = absurd h
  plain_place n (Members ws) h = absurd h
  plain_place n NoValue h = absurd h

  pub part_place : (n : ℕ) (ks : List Kind) (vs : List Value) (i : ℕ) → AreOf acts newest ks vs → slice_get ks i ≡ Some (PlaceKind n) → LiesIn acts newest (place_in (get_or vs i NoValue)) n
  part_place n ks vs i h e =
      let (v, found, is) = of_at ks vs i (PlaceKind n) h e in
      subst (λ x. LiesIn acts newest (place_in x) n) (sym (got vs i NoValue v found)) (plain_place n v is)

-- ---- parts of parts

length_drop : (k : ℕ) (xs : List ℕ) → k ≤ length xs → length (drop k xs) + k ≡ length xs
length_drop zero xs le = omega arith
length_drop (suc k) [] le = absurd (omega (arith, le))
length_drop (suc k) (x ∷ xs) le = let h : length (drop k xs) + k ≡ length xs = length_drop k xs (omega (arith, le)) in omega (arith, h)

all_drop : (k : ℕ) (xs : List ℕ) → AllByRecursion (λ c. c < 128) xs → AllByRecursion (λ c. c < 128) (drop k xs)
all_drop zero xs h = h
all_drop (suc k) [] h = h
all_drop (suc k) (x ∷ xs) h = all_drop k xs h.1

module _ (acts : List Activation) (newest : ℕ) where
  -- a part of a part
  pub moved_lies : (p : Place) (k n whole : ℕ) → LiesIn acts newest p whole → k + n ≤ whole → LiesIn acts newest (moved p k) n
  moved_lies (Global w) k n whole h le = omega (arith, h, le)
  moved_lies (Heap w) k n whole h le = omega (arith, h, le)
  moved_lies (Literal text) k n whole h le =
      let e : length (drop k text) + k ≡ length text = length_drop k text (omega (arith, h.0, le)) in
      (omega (arith, e, h.0, le), all_drop k text h.1)
  moved_lies (Local a w) k n whole h le = (h.0, omega (arith, h.1, le), λ i less. plain i less)
    where
      plain : (i : ℕ) → i < n → (x : ℕ) × IsWord x × (slice_get (words_of (from_activation acts a)) (w + k + i) ≡ Some (Word x))
      plain i less =
          let (x, small, found) = h.2 (k + i) (omega (arith, le, less)) in
          let e : w + k + i ≡ w + (k + i) = omega arith in
          (x, small, ap (slice_get (words_of (from_activation acts a))) e ∙ found)

  unmoved : (p : Place) → moved p 0 ≡ p
  unmoved (Global w) = let e : w + 0 ≡ w = omega arith in ap Global e
  unmoved (Local a w) = let e : w + 0 ≡ w = omega arith in ap (Local a) e
  unmoved (Heap w) = let e : w + 0 ≡ w = omega arith in ap Heap e
  unmoved (Literal text) = refl

  -- a front of a part
  pub shorter_lies : (p : Place) (n whole : ℕ) → LiesIn acts newest p whole → n ≤ whole → LiesIn acts newest p n
  shorter_lies p n whole h le = subst (λ q. LiesIn acts newest q n) (unmoved p) (moved_lies p 0 n whole h (omega (arith, le)))

  -- what lies inside for an older activation lies inside for a newer one
  pub newer_lies : (older : ℕ) (p : Place) (n : ℕ) → older ≤ newest → LiesIn acts older p n → LiesIn acts newest p n
  newer_lies older (Global w) n le h = h
  newer_lies older (Heap w) n le h = h
  newer_lies older (Literal text) n le h = h
  newer_lies older (Local a w) n le h = (omega (arith, h.0, le), h.1, h.2)

-- ---- variables

-- the activations up the static links are those of the routines around
pub record Scoped (P : Program) (acts : List Activation) (newest n : ℕ) : Type 0 where
  pub up : (k : ℕ) (r : RoutineRow) → scope_row P n k ≡ Some r → linked_up acts k ≤ newest
  pub words : (k : ℕ) (r : RoutineRow) → scope_row P n k ≡ Some r → AreOf acts (linked_up acts k) (slots_of r) (words_of (from_activation acts (linked_up acts k)))

module _ (P : Program) (acts : List Activation) (newest n : ℕ) (scoped : Scoped P acts newest n) where
  local_lies : (b : Bool) (k offset words : ℕ) (r : RoutineRow) → scope_row P n k ≡ Some r → IsPart b (slots_of r) offset words
      → LiesIn acts newest (actual b (Local (linked_up acts k) offset) (local_word acts (linked_up acts k) offset)) words
  local_lies true k offset words r e h =
      newer_lies acts newest (linked_up acts k) (place_in (local_word acts (linked_up acts k) offset)) words (scoped.up k r e) at
    where
      at : LiesIn acts (linked_up acts k) (place_in (local_word acts (linked_up acts k) offset)) words
      at =
          let (v, found, is) = of_at acts (linked_up acts k) (slots_of r) (words_of (from_activation acts (linked_up acts k))) offset (PlaceKind words) (scoped.words k r e) h in
          subst (λ x. LiesIn acts (linked_up acts k) (place_in x) words) (sym (got (words_of (from_activation acts (linked_up acts k))) offset (Word 0) v found)) (plain_place acts (linked_up acts k) words v is)
  local_lies false k offset words r e h = (scoped.up k r e, omega (arith, h.0, same), λ i less. plain i less)
    where
      vs : List Value
      vs = words_of (from_activation acts (linked_up acts k))

      same : length vs ≡ length (slots_of r)
      same = long acts (linked_up acts k) (slots_of r) vs (scoped.words k r e)

      plain : (i : ℕ) → i < words → (x : ℕ) × IsWord x × (slice_get vs (offset + i) ≡ Some (Word x))
      plain i less =
          let (v, found, is) = of_at acts (linked_up acts k) (slots_of r) vs (offset + i) WordKind (scoped.words k r e) (h.1 i less) in
          let (x, small, shown) = plain_word acts (linked_up acts k) v is in
          (x, small, found ∙ ap Some shown)

  pub variable_lies : (s : Scope) (v : Variable) (words : ℕ) → IsVariable P n s v words → LiesIn acts newest (place_of acts s v) words
  variable_lies scope.Program v words h = h.1
  variable_lies (scope.Routine k) v words h = local_lies v.by_place k v.offset words h.0 h.1 h.2
