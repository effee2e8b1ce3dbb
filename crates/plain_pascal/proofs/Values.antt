-- Each operation without effect gives a value of its kind, where its parts have theirs.
use Rattle.std.proofs.Common.{◌≡◌, ℕ, zero, suc, ◌+◌, ◌-◌, ◌*◌, ◌<◌, ◌≤◌, Bool, true, false, List, [], ◌∷◌, ◌++◌, Option, Some, None, refl, sym, ap, subst, arith}
use Rattle.std.specs.Prelude.{ℤ, pos, ◌+ℤ◌, ◌-ℤ◌, unsigned_abs, if◌then◌else◌, int_le, ◌&&◌, ◌==◌, slice_get, max, find}
use Rattle.std.proofs.lemmas.Bool.Decides.{nat_tests}
use Rattle.core_tree.specs.declared.op.PlaceOp.{PlaceOp}
use Rattle.core_tree.specs.declared.op.PlaceOp.TheVariants as place
use Rattle.core_tree.specs.declared.op.SetOp.{SetOp}
use Rattle.core_tree.specs.declared.op.SetOp.TheVariants as set
use Rattle.plain_pascal.specs.Program.{Kind, WordKind, SetKind, PlaceKind, Row, Program}
use Rattle.plain_pascal.specs.State.{Place, Global, Local, Heap, Literal, Value, Word, Members, At, NoValue, Activation, Data, Cell}
use Rattle.plain_pascal.specs.Memory.{word_in, moved, word_at, words_at}
use Rattle.plain_pascal.specs.Integers.{Gives, Fails}
use Rattle.plain_pascal.specs.Heap.{cell_of, is_cell, pointer_to, cell_size}
use Rattle.plain_pascal.specs.Operations.{part, second_number, first_place, first_set, second_set, members_in, newest_holds, held_place, component, dereferenced, place_value, set_value}
use Rattle.dice_base.specs.Word.{signed_value}
use Rattle.plain_pascal.specs.Typed.{IsPlaceOp, IsSetOp}
use Rattle.plain_pascal.specs.Valid.{IsWord, IsOf, AreOf, LiesIn, AreCells, IsData}
use Rattle.plain_pascal.proofs.Sound.{GivesOf, place_word}
use Rattle.plain_pascal.proofs.Places.{Scoped, part_place, moved_lies, variable_lies}
use Rattle.plain_pascal.proofs.Index.{component_fits}
use Rattle.plain_pascal.proofs.Members.{IsSet, empty_set, union_set, difference_set, intersection_set, included_set, range_set}

-- what an expression in a statement sees
pub record Sees (P : Program) (d : Data) (newest : ℕ) (row : Row) : Type 0 where
  pub data_good : IsData d
  pub scoped : Scoped P d.activations newest row.routine
  pub found : List Kind
  pub held : AreOf d.activations newest (row.around ++ found) (newest_holds d.activations)

-- ---- cells

cell_inside : (p : Cell → Bool) (cs : List Cell) (used : ℕ) (c : Cell) → AreCells used cs → find p cs ≡ Some c → c.place + c.size ≤ used
cell_inside p [] used c h e = absurd (grind (arith, e))
cell_inside p (x ∷ cs) used c h e = by (p x) e (λ k. cell_inside p cs used c h.3 k)
  where
    by : (b : Bool) → (if b then Some x else find p cs) ≡ Some c → (find p cs ≡ Some c → c.place + c.size ≤ used) → c.place + c.size ≤ used
    by true e rest = let same : x ≡ c = cc e in subst (λ y. y.place + y.size ≤ used) same h.1
    by false e rest = rest e

cell_passes : (p : Cell → Bool) (cs : List Cell) (c : Cell) → find p cs ≡ Some c → p c ≡ true
cell_passes p [] c e = absurd (grind (arith, e))
cell_passes p (x ∷ cs) c e = by (p x) refl e (λ k. cell_passes p cs c k)
  where
    by : (b : Bool) → p x ≡ b → (if b then Some x else find p cs) ≡ Some c → (find p cs ≡ Some c → p c ≡ true) → p c ≡ true
    by true t e rest = let same : x ≡ c = cc e in subst (λ y. p y ≡ true) same t
    by false t e rest = rest e

front_cells : (used : ℕ) (cs ds : List Cell) → AreCells used (cs ++ ds) → (p : Cell → Bool) (c : Cell) → find p cs ≡ Some c → c.place + c.size ≤ used
front_cells used [] ds h p c e = absurd (grind (arith, e))
front_cells used (x ∷ cs) ds h p c e = by (p x) e (λ k. front_cells used cs ds h.3 p c k)
  where
    by : (b : Bool) → (if b then Some x else find p cs) ≡ Some c → (find p cs ≡ Some c → c.place + c.size ≤ used) → c.place + c.size ≤ used
    by true e rest = let same : x ≡ c = cc e in subst (λ y. y.place + y.size ≤ used) same h.1
    by false e rest = rest e

second : (a b : Bool) → (a && b) ≡ true → b ≡ true
second true b e = e
second false b e = absurd (grind (arith, e))

get_front : (xs ys : List Kind) (i : ℕ) (k : Kind) → slice_get xs i ≡ Some k → slice_get (xs ++ ys) i ≡ Some k
get_front [] ys i k e = absurd (grind (arith, e))
get_front (x ∷ xs) ys zero k e = e
get_front (x ∷ xs) ys (suc i) k e = get_front xs ys i k e

module _ (P : Program) (d : Data) (newest : ℕ) (row : Row) (sees : Sees P d newest row) where
  abbrev acts : List Activation
  acts = d.activations

  -- ---- places

  dereferenced_sound : (pointer words : ℕ) → GivesOf acts newest (PlaceKind words) (dereferenced (cell_of d pointer words))
  dereferenced_sound pointer words = by (cell_of d pointer words) refl
    where
      by : (x : Option Cell) → cell_of d pointer words ≡ x → GivesOf acts newest (PlaceKind words) (dereferenced x)
      by None e = tt
      by (Some c) e =
          let low : c.place + c.size ≤ d.used = front_cells d.used d.live d.free sees.data_good.cells (is_cell pointer words) c e in
          let size : (c.size == cell_size words) ≡ true = second (pointer_to c.place == pointer) (c.size == cell_size words) (cell_passes (is_cell pointer words) d.live c e) in
          let same : c.size ≡ max 1 words = grind (arith, nat_tests, size) in
          omega (arith, low, same, sees.data_good.used)

  component_sound : (first last : ℤ) (size whole : ℕ) (p : Place) (i : ℤ) → LiesIn acts newest p whole → unsigned_abs (last +ℤ pos 1 -ℤ first) * size ≤ whole → GivesOf acts newest (PlaceKind size) (component first last size p i)
  component_sound first last size whole p i h le = by (int_le first i) (int_le i last) refl refl
    where
      by : (a b : Bool) → int_le first i ≡ a → int_le i last ≡ b → GivesOf acts newest (PlaceKind size) (if a && b then Gives (At (moved p (size * unsigned_abs (i -ℤ first)))) else Fails 2)
      by true true x y = moved_lies acts newest p (size * unsigned_abs (i -ℤ first)) size whole h (component_fits first last i size whole x y le)
      by true false x y = tt
      by false b x y = tt

  pub place_sound : (p : PlaceOp) (ks : List Kind) (words : ℕ) (kept : List Value) → IsPlaceOp P row.routine row.around p ks words → AreOf acts newest ks kept → GivesOf acts newest (PlaceKind words) (place_value p kept d)
  place_sound (place.Variable v) [] words kept t h = variable_lies P acts newest row.routine sees.scoped v.scope v words t
  place_sound (place.Variable v) (k ∷ ks) words kept t h = absurd t
  place_sound (place.Held hold offset) [] words kept t h =
      moved_lies acts newest (held_place d hold) offset words t.0
      (part_place acts newest t.0 (row.around ++ sees.found) (newest_holds acts) (hold - 1) sees.held (get_front row.around sees.found (hold - 1) (PlaceKind t.0) t.2)) t.3
  place_sound (place.Held hold offset) (k ∷ ks) words kept t h = absurd t
  place_sound (place.Field offset) (PlaceKind whole ∷ []) words kept t h = moved_lies acts newest (first_place kept) offset words whole (part_place acts newest whole (PlaceKind whole ∷ []) kept 0 h refl) t
  place_sound (place.Field offset) ks words kept t h = absurd t
  place_sound (place.Index first last size) (PlaceKind whole ∷ (WordKind ∷ [])) words kept t h =
      subst (λ n. GivesOf acts newest (PlaceKind n) (component first last size (first_place kept) (second_number kept))) (sym t.0)
      (component_sound first last size whole (first_place kept) (second_number kept) (part_place acts newest whole (PlaceKind whole ∷ (WordKind ∷ [])) kept 0 h refl) t.1)
  place_sound (place.Index first last size) ks words kept t h = absurd t
  place_sound (place.Dereference size) (PlaceKind whole ∷ []) words kept t h =
      subst (λ n. GivesOf acts newest (PlaceKind n) (dereferenced (cell_of d (word_at d (first_place kept)) size))) (sym t.1) (dereferenced_sound (word_at d (first_place kept)) size)
  place_sound (place.Dereference size) ks words kept t h = absurd t

  -- ---- sets

  part_set : (ks : List Kind) (kept : List Value) (i : ℕ) → AreOf acts newest ks kept → slice_get ks i ≡ Some SetKind → IsSet (members_in (part kept i))
  part_set [] kept i h e = absurd (grind (arith, e))
  part_set (k ∷ ks) [] i h e = absurd h
  part_set (k ∷ ks) (v ∷ vs) (suc i) h e = part_set ks vs i h.1 e
  part_set (k ∷ ks) (v ∷ vs) zero h e = let same : k ≡ SetKind = cc e in shown v (subst (λ x. IsOf acts newest x v) same h.0)
    where
      shown : (v : Value) → IsOf acts newest SetKind v → IsSet (members_in v)
      shown (Members ws) h = h
      shown (Word w) h = absurd h
      shown (At p) h = absurd h
      shown NoValue h = absurd h

  loaded_set : (p : Place) (whole : ℕ) → LiesIn acts newest p whole → 8 ≤ whole → IsSet (words_at d 8 p)
  loaded_set p whole h le = (refl, (word 0 (omega arith), (word 1 (omega arith), (word 2 (omega arith), (word 3 (omega arith), (word 4 (omega arith), (word 5 (omega arith), (word 6 (omega arith), (word 7 (omega arith), tt)))))))))
    where
      at : ℕ → Place
      at zero = p
      at (suc i) = moved (at i) 1

      lies : (i n : ℕ) → i + n ≤ whole → LiesIn acts newest (at i) n
      lies zero n le = shorter n le
        where
          shorter : (n : ℕ) → 0 + n ≤ whole → LiesIn acts newest p n
          shorter n le = subst (λ q. LiesIn acts newest q n) (unmoved p) (moved_lies acts newest p 0 n whole h le)
            where
              unmoved : (q : Place) → moved q 0 ≡ q
              unmoved (Global w) = let e : w + 0 ≡ w = omega arith in ap Global e
              unmoved (Local a w) = let e : w + 0 ≡ w = omega arith in ap (Local a) e
              unmoved (Heap w) = let e : w + 0 ≡ w = omega arith in ap Heap e
              unmoved (Literal text) = refl
      lies (suc i) n le = moved_lies acts newest (at i) 1 n (1 + n) (lies i (1 + n) (omega (arith, le))) (omega arith)

      word : (i : ℕ) → i < 8 → IsWord (word_at d (at i))
      word i less = place_word d sees.data_good newest (at i) 1 (lies i 1 (omega (arith, less, le))) (omega arith)

  pub set_sound : (x : SetOp) (ks : List Kind) (kept : List Value) → IsSetOp x ks → AreOf acts newest ks kept → GivesOf acts newest SetKind (set_value x kept d)
  set_sound set.Load (PlaceKind whole ∷ []) kept t h = loaded_set (first_place kept) whole (part_place acts newest whole (PlaceKind whole ∷ []) kept 0 h refl) t
  set_sound set.Load ks kept t h = absurd t
  set_sound set.Empty ks kept t h = empty_set
  set_sound set.Include (SetKind ∷ (WordKind ∷ [])) kept t h = included_set acts newest (first_set kept) (second_number kept) (part_set (SetKind ∷ (WordKind ∷ [])) kept 0 h refl)
  set_sound set.Include ks kept t h = absurd t
  set_sound set.IncludeRange (SetKind ∷ (WordKind ∷ (WordKind ∷ []))) kept t h = range_set acts newest (first_set kept) (second_number kept) (signed_value (word_in (part kept 2))) (part_set (SetKind ∷ (WordKind ∷ (WordKind ∷ []))) kept 0 h refl)
  set_sound set.IncludeRange ks kept t h = absurd t
  set_sound set.Union (SetKind ∷ (SetKind ∷ [])) kept t h = union_set (first_set kept) (second_set kept) (part_set (SetKind ∷ (SetKind ∷ [])) kept 0 h refl) (part_set (SetKind ∷ (SetKind ∷ [])) kept 1 h refl)
  set_sound set.Union ks kept t h = absurd t
  set_sound set.Difference (SetKind ∷ (SetKind ∷ [])) kept t h = difference_set (first_set kept) (second_set kept) (part_set (SetKind ∷ (SetKind ∷ [])) kept 0 h refl) (part_set (SetKind ∷ (SetKind ∷ [])) kept 1 h refl)
  set_sound set.Difference ks kept t h = absurd t
  set_sound set.Intersection (SetKind ∷ (SetKind ∷ [])) kept t h = intersection_set (first_set kept) (second_set kept) (part_set (SetKind ∷ (SetKind ∷ [])) kept 0 h refl) (part_set (SetKind ∷ (SetKind ∷ [])) kept 1 h refl)
  set_sound set.Intersection ks kept t h = absurd t
