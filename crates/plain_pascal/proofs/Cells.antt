-- Variables of the heap that are made and given back: their cells lie apart.
use Rattle.std.proofs.Common.{◌≡◌, ℕ, zero, suc, ◌+◌, ◌≤◌, Bool, true, false, nat_le, List, [], ◌∷◌, ◌++◌, length, Option, Some, None, refl, sym, ap, subst, arith, inl, inr}
use Rattle.std.specs.Prelude.{◌==◌, find, not, if◌then◌else◌, replicate}
use Rattle.std.specs.List.{AllByRecursion}
use Rattle.std.proofs.lemmas.Bool.Decides.{nat_tests}
use Rattle.plain_pascal.specs.State.{Place, Heap, Cell, Data, heap_count}
use Rattle.plain_pascal.specs.Memory.{with_word}
use Rattle.plain_pascal.specs.Heap.{pointer_to, cell_size, is_cell, cell_of, without, given, taken, new_cell, given_back}
use Rattle.plain_pascal.specs.Statements.{Exit, Leaves, Breaks, given_cell, disposed}
use Rattle.plain_pascal.specs.Valid.{IsWord, LiesIn, Apart, AreCells, IsData}
use Rattle.plain_pascal.proofs.Stores.{IsAfter, lies_alike, nothing_after, then_after, word_after, words_after}

-- ---- lists of cells

apart_back : (c d : Cell) → Apart c d → Apart d c
apart_back c d (inl h) = inr h
apart_back c d (inr h) = inl h

find_all : (T : Cell → Type 0) (p : Cell → Bool) (xs ys : List Cell) (c : Cell) → AllByRecursion T (xs ++ ys) → find p xs ≡ Some c → T c
find_all T p [] ys c h e = absurd (grind (arith, e))
find_all T p (x ∷ xs) ys c h e = by (p x) e (λ k. find_all T p xs ys c h.1 k)
  where
    by : (b : Bool) → (if b then Some x else find p xs) ≡ Some c → (find p xs ≡ Some c → T c) → T c
    by true e rest = let same : x ≡ c = cc e in subst T same h.0
    by false e rest = rest e

-- the size and the end of a cell
found_cell : (used : ℕ) (p : Cell → Bool) (xs ys : List Cell) (c : Cell) → AreCells used (xs ++ ys) → find p xs ≡ Some c → (1 ≤ c.size) × (c.place + c.size ≤ used)
found_cell used p [] ys c h e = absurd (grind (arith, e))
found_cell used p (x ∷ xs) ys c h e = by (p x) e (λ k. found_cell used p xs ys c h.3 k)
  where
    by : (b : Bool) → (if b then Some x else find p xs) ≡ Some c → (find p xs ≡ Some c → (1 ≤ c.size) × (c.place + c.size ≤ used)) → (1 ≤ c.size) × (c.place + c.size ≤ used)
    by true e rest = let same : x ≡ c = cc e in subst (λ y. (1 ≤ y.size) × (y.place + y.size ≤ used)) same (h.0, h.1)
    by false e rest = rest e

all_without : (T : Cell → Type 0) (n : ℕ) (xs ys : List Cell) → AllByRecursion T (xs ++ ys) → AllByRecursion T (without n xs ++ ys)
all_without T n [] ys h = h
all_without T n (x ∷ xs) ys h = by (x.place == n) (all_without T n xs ys h.1)
  where
    by : (b : Bool) → AllByRecursion T (without n xs ++ ys) → AllByRecursion T ((if not b then x ∷ without n xs else without n xs) ++ ys)
    by true rest = rest
    by false rest = (h.0, rest)

cells_without : (used n : ℕ) (xs ys : List Cell) → AreCells used (xs ++ ys) → AreCells used (without n xs ++ ys)
cells_without used n [] ys h = h
cells_without used n (x ∷ xs) ys h = by (x.place == n) (cells_without used n xs ys h.3)
  where
    by : (b : Bool) → AreCells used (without n xs ++ ys) → AreCells used ((if not b then x ∷ without n xs else without n xs) ++ ys)
    by true rest = rest
    by false rest = (h.0, h.1, all_without (Apart x) n xs ys h.2, rest)

-- the other cells lie apart from one that is taken out
others_apart : (used : ℕ) (p : Cell → Bool) (xs ys : List Cell) (c : Cell) → AreCells used (xs ++ ys) → find p xs ≡ Some c → AllByRecursion (Apart c) (without c.place xs ++ ys)
others_apart used p [] ys c h e = absurd (grind (arith, e))
others_apart used p (x ∷ xs) ys c h e = by (p x) e (λ k. others_apart used p xs ys c h.3 k)
  where
    dropped : (b : Bool) → (x.place == c.place) ≡ b → x ≡ c → AllByRecursion (Apart c) ((if not b then x ∷ without c.place xs else without c.place xs) ++ ys)
    dropped true t same = subst (λ y. AllByRecursion (Apart y) (without c.place xs ++ ys)) same (all_without (Apart x) c.place xs ys h.2)
    dropped false t same = absurd (let place : x.place ≡ c.place = ap (λ y. y.place) same in grind (arith, nat_tests, t, place))

    kept : (b : Bool) → find p xs ≡ Some c → AllByRecursion (Apart c) (without c.place xs ++ ys) → AllByRecursion (Apart c) ((if not b then x ∷ without c.place xs else without c.place xs) ++ ys)
    kept true e rest = rest
    kept false e rest = (apart_back x c (find_all (Apart x) p xs ys c h.2 e), rest)

    by : (b : Bool) → (if b then Some x else find p xs) ≡ Some c → (find p xs ≡ Some c → AllByRecursion (Apart c) (without c.place xs ++ ys)) → AllByRecursion (Apart c) (without c.place (x ∷ xs) ++ ys)
    by true e rest = let same : x ≡ c = cc e in dropped (x.place == c.place) refl same
    by false e rest = kept (x.place == c.place) e (rest e)

all_inserted : (T : Cell → Type 0) (xs ys : List Cell) (c : Cell) → T c → AllByRecursion T (xs ++ ys) → AllByRecursion T (xs ++ (c ∷ ys))
all_inserted T [] ys c t h = (t, h)
all_inserted T (x ∷ xs) ys c t h = (h.0, all_inserted T xs ys c t h.1)

-- a cell that lies apart comes in between
cells_inserted : (used : ℕ) (xs ys : List Cell) (c : Cell) → 1 ≤ c.size → c.place + c.size ≤ used → AllByRecursion (Apart c) (xs ++ ys) → AreCells used (xs ++ ys) → AreCells used (xs ++ (c ∷ ys))
cells_inserted used [] ys c some low apart h = (some, low, apart, h)
cells_inserted used (x ∷ xs) ys c some low apart h =
    (h.0, h.1, all_inserted (Apart x) xs ys c (apart_back c x apart.0) h.2, cells_inserted used xs ys c some low apart.1 h.3)

-- ---- behind other cells

all_behind : (T : Cell → Type 0) (ls xs ys : List Cell) → (AllByRecursion T xs → AllByRecursion T ys) → AllByRecursion T (ls ++ xs) → AllByRecursion T (ls ++ ys)
all_behind T [] xs ys on h = on h
all_behind T (l ∷ ls) xs ys on h = (h.0, all_behind T ls xs ys on h.1)

cells_behind : (used : ℕ) (ls xs ys : List Cell) → ((T : Cell → Type 0) → AllByRecursion T xs → AllByRecursion T ys) → (AreCells used xs → AreCells used ys) → AreCells used (ls ++ xs) → AreCells used (ls ++ ys)
cells_behind used [] xs ys all on h = on h
cells_behind used (l ∷ ls) xs ys all on h = (h.0, h.1, all_behind (Apart l) ls xs ys (all (Apart l)) h.2, cells_behind used ls xs ys all on h.3)

back_cells : (used : ℕ) (ls xs : List Cell) → AreCells used (ls ++ xs) → AreCells used xs
back_cells used [] xs h = h
back_cells used (l ∷ ls) xs h = back_cells used ls xs h.3

back_all : (T : Cell → Type 0) (ls xs : List Cell) → AllByRecursion T (ls ++ xs) → AllByRecursion T xs
back_all T [] xs h = h
back_all T (l ∷ ls) xs h = back_all T ls xs h.1

front_apart : (used : ℕ) (p : Cell → Bool) (ls xs ys : List Cell) (c : Cell) → AreCells used (ls ++ xs) → ((T : Cell → Type 0) → AllByRecursion T xs → T c) → AllByRecursion (Apart c) ys → AllByRecursion (Apart c) (ls ++ ys)
front_apart used p [] xs ys c h at apart = apart
front_apart used p (l ∷ ls) xs ys c h at apart = (apart_back l c (at (Apart l) (back_all (Apart l) ls xs h.2)), front_apart used p ls xs ys c h.3 at apart)

no_more : (xs : List Cell) → xs ++ [] ≡ xs
no_more [] = refl
no_more (x ∷ xs) = ap (λ ys. x ∷ ys) (no_more xs)

-- ---- a cell is given back

pub given_back_after : (d : Data) (pointer words : ℕ) (c : Cell) → IsData d → cell_of d pointer words ≡ Some c → IsAfter d (given_back c d)
given_back_after d pointer words c good e =
    let (some, low) = found_cell d.used (is_cell pointer words) d.live d.free c good.cells e in
    record {
      good = record {
        globals_long = good.globals_long;
        globals_words = good.globals_words;
        heap_long = good.heap_long;
        heap_words = good.heap_words;
        used = good.used;
        cells = cells_inserted d.used (without c.place d.live) d.free c some low (others_apart d.used (is_cell pointer words) d.live d.free c good.cells e) (cells_without d.used c.place d.live d.free good.cells);
        stack = good.stack;
        input = good.input;
      };
      alike = (nothing_after d good).alike;
    }

-- ---- a new cell

-- a cell that lies apart from the others is made live, and its words are cleared
given_after : (d : Data) (newest : ℕ) (c : Cell) (used : ℕ) (free : List Cell) → IsData d → used ≤ heap_count → AreCells used (c ∷ (d.live ++ free)) → IsAfter d (given c (record d { used = used; free = free }))
given_after d newest c used free good le cells =
    let here : IsAfter d (record d { used = used; live = c ∷ d.live; free = free }) = record {
      good = record { globals_long = good.globals_long; globals_words = good.globals_words; heap_long = good.heap_long; heap_words = good.heap_words; used = le; cells = cells; stack = good.stack; input = good.input };
      alike = (nothing_after d good).alike;
    } in
    let low : c.place + c.size ≤ used = cells.1 in
    then_after d (record d { used = used; live = c ∷ d.live; free = free }) (given c (record d { used = used; free = free })) here
    (words_after (record d { used = used; live = c ∷ d.live; free = free }) newest (Heap c.place) (replicate c.size 0) here.good
    (let long : length {A = ℕ} (replicate c.size 0) ≡ c.size = zeros c.size in omega (arith, low, le, long)) (all_zero c.size))
  where
    zeros : (n : ℕ) → length {A = ℕ} (replicate n 0) ≡ n
    zeros zero = refl
    zeros (suc n) = ap suc (zeros n)

    all_zero : (n : ℕ) → AllByRecursion IsWord (replicate n 0)
    all_zero zero = tt
    all_zero (suc n) = (omega arith, all_zero n)

-- the heap grows
grown_cells : (used more : ℕ) (cs : List Cell) → AreCells used cs → AreCells (used + more) cs
grown_cells used more [] h = tt
grown_cells used more (c ∷ cs) h = (h.0, omega (arith, h.1), h.2, grown_cells used more cs h.3)

all_below : (used size : ℕ) (cs : List Cell) → AreCells used cs → AllByRecursion (Apart (record { place = used; size = size })) cs
all_below used size [] h = tt
all_below used size (c ∷ cs) h = (inr h.1, all_below used size cs h.3)

-- a statement is left with data in order, in which no kind of any value and no place is another than before
abbrev pub IsLeft : Data → Exit → Type 0
IsLeft d (Leaves to e) = IsAfter d e
IsLeft d (Breaks x) = Unit {0}

-- the pointer to a new cell is stored
module _ (d : Data) (newest : ℕ) (p : Place) (good : IsData d) (lies : LiesIn d.activations newest p 1) where
  stored_pointer : (c : Cell) (e : Data) → IsAfter d e → 1 ≤ c.size → c.place + c.size ≤ heap_count → IsAfter d (with_word e p (pointer_to c.place))
  stored_pointer c e after some low =
      then_after d e (with_word e p (pointer_to c.place)) after
      (word_after e newest p (pointer_to c.place) after.good (lies_alike d.activations e.activations after.alike newest p 1 lies) (omega (arith, some, low)))

  new_left : (size : ℕ) → 1 ≤ size → (x : Option Cell) → find (λ c. c.size == size) d.free ≡ x → IsLeft d (given_cell p (taken size x d))
  new_left size some (Some c) e =
      let back : AreCells d.used d.free = back_cells d.used d.live d.free good.cells in
      let (big, low) = found_cell d.used (λ c. c.size == size) d.free [] c (subst (AreCells d.used) (sym (no_more d.free)) back) e in
      let apart : AllByRecursion (Apart c) (without c.place d.free) = subst (AllByRecursion (Apart c)) (no_more (without c.place d.free)) (others_apart d.used (λ c. c.size == size) d.free [] c (subst (AreCells d.used) (sym (no_more d.free)) back) e) in
      let cells : AreCells d.used (c ∷ (d.live ++ without c.place d.free)) = (
        big,
        low,
        front_apart d.used (λ c. c.size == size) d.live d.free (without c.place d.free) c good.cells (λ T h. find_all T (λ c. c.size == size) d.free [] c (subst (AllByRecursion T) (sym (no_more d.free)) h) e) apart,
        cells_behind d.used d.live d.free (without c.place d.free)
            (λ T h. subst (AllByRecursion T) (no_more (without c.place d.free)) (all_without T c.place d.free [] (subst (AllByRecursion T) (sym (no_more d.free)) h)))
            (λ h. subst (AreCells d.used) (no_more (without c.place d.free)) (cells_without d.used c.place d.free [] (subst (AreCells d.used) (sym (no_more d.free)) h))) good.cells,
      ) in
      stored_pointer c (given c (record d { free = without c.place d.free })) (given_after d newest c d.used (without c.place d.free) good good.used cells) big (omega (arith, low, good.used))
  new_left size some None e = by (nat_le (d.used + size) heap_count) refl
    where
      c : Cell
      c = record { place = d.used; size = size }

      by : (b : Bool) → nat_le (d.used + size) heap_count ≡ b → IsLeft d (given_cell p (if b then Some (c, given c (record d { used = d.used + size })) else None))
      by false t = tt
      by true t =
          let room : d.used + size ≤ heap_count = grind (arith, nat_tests, t) in
          let cells : AreCells (d.used + size) (c ∷ (d.live ++ d.free)) = (some, omega arith, all_below d.used size (d.live ++ d.free) good.cells, grown_cells d.used size (d.live ++ d.free) good.cells) in
          stored_pointer c (given c (record d { used = d.used + size })) (given_after d newest c (d.used + size) d.free good room cells) some room

  -- `new`
  pub new_after : (words : ℕ) → IsLeft d (given_cell p (new_cell words d))
  new_after words = new_left (cell_size words) (omega arith) (find (λ c. c.size == cell_size words) d.free) refl

-- `dispose`
pub dispose_after : (d : Data) (pointer words : ℕ) → IsData d → IsLeft d (disposed (cell_of d pointer words) d)
dispose_after d pointer words good = by (cell_of d pointer words) refl
  where
    by : (x : Option Cell) → cell_of d pointer words ≡ x → IsLeft d (disposed x d)
    by None e = tt
    by (Some c) e = given_back_after d pointer words c good e
