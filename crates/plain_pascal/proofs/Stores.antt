-- A word that is stored where a part lies changes no kind of any value and no place.
use Rattle.std.proofs.Common.{◌≡◌, ℕ, zero, suc, ◌+◌, ◌-◌, ◌<◌, ◌≤◌, List, [], ◌∷◌, ◌++◌, length, Some, refl, sym, ap, ◌∙◌, subst, arith}
use Rattle.std.specs.Prelude.{slice_get, set, drop, ◌⊎◌}
use Rattle.std.proofs.Common.{inl, inr}
use Rattle.plain_pascal.specs.Program.{Kind, NoKind, WordKind, SetKind, PlaceKind, Row, Program}
use Rattle.plain_pascal.specs.State.{Place, Global, Local, Heap, Literal, Value, Word, Members, At, NoValue, Activation, Data}
use Rattle.plain_pascal.specs.Memory.{from_activation, words_of, static_link_of, linked_up, moved, word_at, with_local, with_word, with_words, copied}
use Rattle.plain_pascal.specs.Step.{stack_charges}
use Rattle.plain_pascal.specs.Operations.{newest_holds}
use Rattle.plain_pascal.specs.Typed.{slots_of, stored_kind, stored_words}
use Rattle.plain_pascal.specs.Statements.{assigned}
use Rattle.core_tree.specs.declared.op.Storage.{Storage}
use Rattle.core_tree.specs.declared.op.Storage.TheVariants as storage
use Rattle.std.specs.List.{AllByRecursion}
use Rattle.plain_pascal.specs.Valid.{IsWord, IsOf, AreOf, LiesIn, IsData}
use Rattle.plain_pascal.proofs.Members.{set_words, set_long}
use Rattle.plain_pascal.proofs.Places.{Scoped, moved_lies, shorter_lies}
use Rattle.plain_pascal.proofs.Sound.{place_word}
use Rattle.plain_pascal.proofs.Values.{Sees}

-- the same value, or another word
abbrev pub AlikeValue : Value → Value → Type 0
AlikeValue v w = (v ≡ w) ⊎ ((x : ℕ) × (y : ℕ) × (v ≡ Word x) × (w ≡ Word y) × IsWord y)

abbrev pub AlikeWords : List Value → List Value → Type 0
AlikeWords [] [] = Unit {0}
AlikeWords (v ∷ vs) (w ∷ ws) = AlikeValue v w × AlikeWords vs ws
AlikeWords vs ws = ⊥

pub record Alike (a b : Activation) : Type 0 where
  pub routine : a.routine ≡ b.routine
  pub link : a.static_link ≡ b.static_link
  pub holds : a.holds ≡ b.holds
  pub words : AlikeWords a.words b.words

abbrev pub AllAlike : List Activation → List Activation → Type 0
AllAlike [] [] = Unit {0}
AllAlike (a ∷ xs) (b ∷ ys) = Alike a b × AllAlike xs ys
AllAlike xs ys = ⊥

words_alike : (vs : List Value) → AlikeWords vs vs
words_alike [] = tt
words_alike (v ∷ vs) = (inl refl, words_alike vs)

all_alike : (xs : List Activation) → AllAlike xs xs
all_alike [] = tt
all_alike (a ∷ xs) = (record { routine = refl; link = refl; holds = refl; words = words_alike a.words }, all_alike xs)

words_set : (vs : List Value) (w x y : ℕ) → slice_get vs w ≡ Some (Word x) → IsWord y → AlikeWords vs (set vs w (Word y))
words_set [] w x y e small = absurd (grind (arith, e))
words_set (v ∷ vs) zero x y e small = let same : v ≡ Word x = cc e in (inr (x, y, same, refl, small), words_alike vs)
words_set (v ∷ vs) (suc w) x y e small = (inl refl, words_set vs w x y e small)

local_alike : (xs : List Activation) (k w x y : ℕ) → slice_get (words_of (drop k xs)) w ≡ Some (Word x) → IsWord y → AllAlike xs (with_local xs k w y)
local_alike [] k w x y e small = tt
local_alike (a ∷ xs) zero w x y e small = (record { routine = refl; link = refl; holds = refl; words = words_set a.words w x y e small }, all_alike xs)
local_alike (a ∷ xs) (suc k) w x y e small = (record { routine = refl; link = refl; holds = refl; words = words_alike a.words }, local_alike xs k w x y e small)

-- ---- what stays

pub same_count : (xs ys : List Activation) → AllAlike xs ys → length xs ≡ length ys
same_count [] [] h = refl
same_count [] (b ∷ ys) h = absurd h
same_count (a ∷ xs) [] h = absurd h
same_count (a ∷ xs) (b ∷ ys) h = ap suc (same_count xs ys h.1)

pub drop_alike : (k : ℕ) (xs ys : List Activation) → AllAlike xs ys → AllAlike (drop k xs) (drop k ys)
drop_alike zero xs ys h = h
drop_alike (suc k) [] [] h = tt
drop_alike (suc k) [] (b ∷ ys) h = absurd h
drop_alike (suc k) (a ∷ xs) [] h = absurd h
drop_alike (suc k) (a ∷ xs) (b ∷ ys) h = drop_alike k xs ys h.1

newest_words_alike : (xs ys : List Activation) → AllAlike xs ys → AlikeWords (words_of xs) (words_of ys)
newest_words_alike [] [] h = tt
newest_words_alike [] (b ∷ ys) h = absurd h
newest_words_alike (a ∷ xs) [] h = absurd h
newest_words_alike (a ∷ xs) (b ∷ ys) h = h.0.words

newest_link_alike : (xs ys : List Activation) → AllAlike xs ys → static_link_of xs ≡ static_link_of ys
newest_link_alike [] [] h = refl
newest_link_alike [] (b ∷ ys) h = absurd h
newest_link_alike (a ∷ xs) [] h = absurd h
newest_link_alike (a ∷ xs) (b ∷ ys) h = h.0.link

newest_holds_alike : (xs ys : List Activation) → AllAlike xs ys → newest_holds xs ≡ newest_holds ys
newest_holds_alike [] [] h = refl
newest_holds_alike [] (b ∷ ys) h = absurd h
newest_holds_alike (a ∷ xs) [] h = absurd h
newest_holds_alike (a ∷ xs) (b ∷ ys) h = h.0.holds

same_long : (vs ws : List Value) → AlikeWords vs ws → length vs ≡ length ws
same_long [] [] h = refl
same_long [] (w ∷ ws) h = absurd h
same_long (v ∷ vs) [] h = absurd h
same_long (v ∷ vs) (w ∷ ws) h = ap suc (same_long vs ws h.1)

stays_plain : (vs ws : List Value) (i x : ℕ) → AlikeWords vs ws → IsWord x → slice_get vs i ≡ Some (Word x) → (y : ℕ) × IsWord y × (slice_get ws i ≡ Some (Word y))
stays_plain [] [] i x h small e = absurd (grind (arith, e))
stays_plain [] (w ∷ ws) i x h small e = absurd h
stays_plain (v ∷ vs) [] i x h small e = absurd h
stays_plain (v ∷ vs) (w ∷ ws) (suc i) x h small e = stays_plain vs ws i x h.1 small e
stays_plain (v ∷ vs) (w ∷ ws) zero x h small e = by h.0
  where
    by : AlikeValue v w → (y : ℕ) × IsWord y × (slice_get (w ∷ ws) 0 ≡ Some (Word y))
    by (inl same) = (x, small, ap Some (sym same) ∙ e)
    by (inr other) = (other.1, other.4, ap Some other.3)

module _ (xs ys : List Activation) (alike : AllAlike xs ys) where
  from_alike : (number : ℕ) → AllAlike (from_activation xs number) (from_activation ys number)
  from_alike number = subst (λ n. AllAlike (from_activation xs number) (drop (n - suc number) ys)) (same_count xs ys alike) (drop_alike (length xs - suc number) xs ys alike)

  linked_alike : (k : ℕ) → linked_up xs k ≡ linked_up ys k
  linked_alike zero = ap (λ n. n - 1) (same_count xs ys alike)
  linked_alike (suc k) = newest_link_alike (from_activation xs (linked_up xs k)) (from_activation ys (linked_up xs k)) (from_alike (linked_up xs k)) ∙ ap (λ n. static_link_of (from_activation ys n)) (linked_alike k)

  pub lies_alike : (newest : ℕ) (p : Place) (n : ℕ) → LiesIn xs newest p n → LiesIn ys newest p n
  lies_alike newest (Global w) n h = h
  lies_alike newest (Heap w) n h = h
  lies_alike newest (Literal text) n h = h
  lies_alike newest (Local a w) n h = (h.0, omega (arith, h.1, same), λ i less. plain i less)
    where
      words : AlikeWords (words_of (from_activation xs a)) (words_of (from_activation ys a))
      words = newest_words_alike (from_activation xs a) (from_activation ys a) (from_alike a)

      same : length (words_of (from_activation xs a)) ≡ length (words_of (from_activation ys a))
      same = same_long (words_of (from_activation xs a)) (words_of (from_activation ys a)) words

      plain : (i : ℕ) → i < n → (y : ℕ) × IsWord y × (slice_get (words_of (from_activation ys a)) (w + i) ≡ Some (Word y))
      plain i less = let (x, small, found) = h.2 i less in stays_plain (words_of (from_activation xs a)) (words_of (from_activation ys a)) (w + i) x words small found

  of_alike : (newest : ℕ) (k : Kind) (v : Value) → IsOf xs newest k v → IsOf ys newest k v
  of_alike newest NoKind NoValue h = h
  of_alike newest WordKind (Word w) h = h
  of_alike newest SetKind (Members ws) h = h
  of_alike newest (PlaceKind n) (At p) h = lies_alike newest p n h
  of_alike newest k v h = absurd h

  pub values_alike : (newest : ℕ) (ks : List Kind) (vs : List Value) → AreOf xs newest ks vs → AreOf ys newest ks vs
  values_alike newest [] [] h = tt
  values_alike newest [] (v ∷ vs) h = absurd h
  values_alike newest (k ∷ ks) [] h = absurd h
  values_alike newest (k ∷ ks) (v ∷ vs) h = (of_alike newest k v h.0, values_alike newest ks vs h.1)

  another_word : (newest : ℕ) (k : Kind) (v w : Value) → IsOf xs newest k v → AlikeValue v w → IsOf ys newest k w
  another_word newest k v w h (inl same) = of_alike newest k w (subst (IsOf xs newest k) same h)
  another_word newest k v w h (inr other) = subst (IsOf ys newest k) (sym other.3) (is_word k (subst (IsOf xs newest k) other.2 h))
    where
      is_word : (k : Kind) → IsOf xs newest k (Word other.0) → IsOf ys newest k (Word other.1)
      is_word WordKind e = other.4
      is_word NoKind e = absurd e
      is_word SetKind e = absurd e
      is_word (PlaceKind n) e = absurd e

  pub slots_alike : (newest : ℕ) (ks : List Kind) (vs ws : List Value) → AreOf xs newest ks vs → AlikeWords vs ws → AreOf ys newest ks ws
  slots_alike newest [] [] [] h e = tt
  slots_alike newest [] [] (w ∷ ws) h e = absurd e
  slots_alike newest [] (v ∷ vs) ws h e = absurd h
  slots_alike newest (k ∷ ks) [] ws h e = absurd h
  slots_alike newest (k ∷ ks) (v ∷ vs) [] h e = absurd e
  slots_alike newest (k ∷ ks) (v ∷ vs) (w ∷ ws) h e = (another_word newest k v w h.0 e.0, slots_alike newest ks vs ws h.1 e.1)

  pub scoped_alike : (P : Program) (newest n : ℕ) → Scoped P xs newest n → Scoped P ys newest n
  scoped_alike P newest n s = record {
    up = λ k r e. subst (λ j. j ≤ newest) (linked_alike k) (s.up k r e);
    words = λ k r e. subst (λ j. AreOf ys j (slots_of r) (words_of (from_activation ys j))) (linked_alike k)
        (slots_alike (linked_up xs k) (slots_of r) (words_of (from_activation xs (linked_up xs k))) (words_of (from_activation ys (linked_up xs k))) (s.words k r e)
        (newest_words_alike (from_activation xs (linked_up xs k)) (from_activation ys (linked_up xs k)) (from_alike (linked_up xs k))));
  }

same_charges : (xs ys : List Activation) → AllAlike xs ys → stack_charges xs ≡ stack_charges ys
same_charges [] [] h = refl
same_charges [] (b ∷ ys) h = absurd h
same_charges (a ∷ xs) [] h = absurd h
same_charges (a ∷ xs) (b ∷ ys) h = let long : length a.words ≡ length b.words = same_long a.words b.words h.0.words in let more : stack_charges xs ≡ stack_charges ys = same_charges xs ys h.1 in omega (arith, long, more)

-- ---- one change after another

value_trans : (u v w : Value) → AlikeValue u v → AlikeValue v w → AlikeValue u w
value_trans u v w (inl same) k = subst (λ x. AlikeValue x w) (sym same) k
value_trans u v w (inr h) (inl same) = inr (h.0, h.1, h.2, sym same ∙ h.3, h.4)
value_trans u v w (inr h) (inr k) = inr (h.0, k.1, h.2, k.3, k.4)

words_trans : (us vs ws : List Value) → AlikeWords us vs → AlikeWords vs ws → AlikeWords us ws
words_trans [] [] ws h k = k
words_trans [] (v ∷ vs) ws h k = absurd h
words_trans (u ∷ us) [] ws h k = absurd h
words_trans (u ∷ us) (v ∷ vs) [] h k = absurd k
words_trans (u ∷ us) (v ∷ vs) (w ∷ ws) h k = (value_trans u v w h.0 k.0, words_trans us vs ws h.1 k.1)

pub all_trans : (xs ys zs : List Activation) → AllAlike xs ys → AllAlike ys zs → AllAlike xs zs
all_trans [] [] zs h k = k
all_trans [] (y ∷ ys) zs h k = absurd h
all_trans (x ∷ xs) [] zs h k = absurd h
all_trans (x ∷ xs) (y ∷ ys) [] h k = absurd k
all_trans (x ∷ xs) (y ∷ ys) (z ∷ zs) h k = (
  record { routine = h.0.routine ∙ k.0.routine; link = h.0.link ∙ k.0.link; holds = h.0.holds ∙ k.0.holds; words = words_trans x.words y.words z.words h.0.words k.0.words },
  all_trans xs ys zs h.1 k.1,
)

-- data in order, in which no kind of any value and no place is another than before
pub record IsAfter (d e : Data) : Type 0 where
  pub good : IsData e
  pub alike : AllAlike d.activations e.activations

pub nothing_after : (d : Data) → IsData d → IsAfter d d
nothing_after d good = record { good = good; alike = all_alike d.activations }

pub then_after : (d e f : Data) → IsAfter d e → IsAfter e f → IsAfter d f
then_after d e f h k = record { good = k.good; alike = all_trans d.activations e.activations f.activations h.alike k.alike }

-- a word is stored
pub word_after : (d : Data) (newest : ℕ) (p : Place) (y : ℕ) → IsData d → LiesIn d.activations newest p 1 → IsWord y → IsAfter d (with_word d p y)
word_after d newest (Literal text) y good h small = nothing_after d good
word_after d newest (Global w) y good h small = record {
  good = record { globals_long = set_long d.globals w y ∙ good.globals_long; globals_words = set_words d.globals w y good.globals_words small; heap_long = good.heap_long; heap_words = good.heap_words; used = good.used; cells = good.cells; stack = good.stack; input = good.input };
  alike = all_alike d.activations;
}
word_after d newest (Heap w) y good h small = record {
  good = record { globals_long = good.globals_long; globals_words = good.globals_words; heap_long = set_long d.heap w y ∙ good.heap_long; heap_words = set_words d.heap w y good.heap_words small; used = good.used; cells = good.cells; stack = good.stack; input = good.input };
  alike = all_alike d.activations;
}
word_after d newest (Local a w) y good h small =
    record {
      good = record { globals_long = good.globals_long; globals_words = good.globals_words; heap_long = good.heap_long; heap_words = good.heap_words; used = good.used; cells = good.cells; stack = omega (arith, good.stack, charges); input = good.input };
      alike = alike;
    }
  where
    after : List Activation
    after = with_local d.activations (length d.activations - suc a) w y

    alike : AllAlike d.activations after
    alike =
        let (x, old, found) = h.2 0 (omega arith) in
        let here : w + 0 ≡ w = omega arith in
        local_alike d.activations (length d.activations - suc a) w x y (ap (slice_get (words_of (from_activation d.activations a))) (sym here) ∙ found) small

    charges : stack_charges d.activations ≡ stack_charges after
    charges = same_charges d.activations after alike

-- what an expression sees stays in order
pub sees_after : (P : Program) (d e : Data) (newest : ℕ) (row : Row) → Sees P d newest row → IsAfter d e → Sees P e newest row
sees_after P d e newest row s h = record {
  data_good = h.good;
  scoped = scoped_alike d.activations e.activations h.alike P newest row.routine s.scoped;
  found = s.found;
  held = subst (AreOf e.activations newest (row.around ++ s.found)) (newest_holds_alike d.activations e.activations h.alike) (values_alike d.activations e.activations h.alike newest (row.around ++ s.found) (newest_holds d.activations) s.held);
}

-- ---- many words

pub words_after : (d : Data) (newest : ℕ) (p : Place) (ws : List ℕ) → IsData d → LiesIn d.activations newest p (length ws) → AllByRecursion IsWord ws → IsAfter d (with_words d p ws)
words_after d newest p [] good h small = nothing_after d good
words_after d newest p (w ∷ ws) good h small =
    let one : IsAfter d (with_word d p w) = word_after d newest p w good (shorter_lies d.activations newest p 1 (suc (length ws)) h (omega arith)) small.0 in
    then_after d (with_word d p w) (with_words (with_word d p w) (moved p 1) ws) one
    (words_after (with_word d p w) newest (moved p 1) ws one.good
    (lies_alike d.activations (with_word d p w).activations one.alike newest (moved p 1) (length ws) (moved_lies d.activations newest p 1 (length ws) (suc (length ws)) h (omega arith))) small.1)

-- a copy, word by word: what was copied already may be copied again
pub copy_after : (n : ℕ) (d : Data) (newest : ℕ) (from to : Place) → IsData d → LiesIn d.activations newest from n → LiesIn d.activations newest to n → IsAfter d (copied n from to d)
copy_after zero d newest from to good h k = nothing_after d good
copy_after (suc n) d newest from to good h k =
    let one : IsAfter d (with_word d to (word_at d from)) = word_after d newest to (word_at d from) good (shorter_lies d.activations newest to 1 (suc n) k (omega arith)) (place_word d good newest from (suc n) h (omega arith)) in
    then_after d (with_word d to (word_at d from)) (copied n (moved from 1) (moved to 1) (with_word d to (word_at d from))) one
    (copy_after n (with_word d to (word_at d from)) newest (moved from 1) (moved to 1) one.good
    (lies_alike d.activations (with_word d to (word_at d from)).activations one.alike newest (moved from 1) n (moved_lies d.activations newest from 1 n (suc n) h (omega arith)))
    (lies_alike d.activations (with_word d to (word_at d from)).activations one.alike newest (moved to 1) n (moved_lies d.activations newest to 1 n (suc n) k (omega arith))))

-- ---- an assignment

pub assigned_after : (to : Storage) (whole : ℕ) (d : Data) (newest : ℕ) (p : Place) (v : Value) → IsData d → stored_words to ≤ whole → LiesIn d.activations newest p whole → IsOf d.activations newest (stored_kind to) v → IsAfter d (assigned to p v d)
assigned_after (storage.Ordinal first last) whole d newest p (Word w) good le h is = word_after d newest p w good (shorter_lies d.activations newest p 1 whole h le) is
assigned_after (storage.Ordinal first last) whole d newest p (Members ws) good le h is = absurd is
assigned_after (storage.Ordinal first last) whole d newest p (At q) good le h is = absurd is
assigned_after (storage.Ordinal first last) whole d newest p NoValue good le h is = absurd is
assigned_after storage.Pointer whole d newest p (Word w) good le h is = word_after d newest p w good (shorter_lies d.activations newest p 1 whole h le) is
assigned_after storage.Pointer whole d newest p (Members ws) good le h is = absurd is
assigned_after storage.Pointer whole d newest p (At q) good le h is = absurd is
assigned_after storage.Pointer whole d newest p NoValue good le h is = absurd is
assigned_after (storage.Set first last) whole d newest p (Members ws) good le h is =
    words_after d newest p ws good (shorter_lies d.activations newest p (length ws) whole h (omega (arith, le, is.0))) is.1
assigned_after (storage.Set first last) whole d newest p (Word w) good le h is = absurd is
assigned_after (storage.Set first last) whole d newest p (At q) good le h is = absurd is
assigned_after (storage.Set first last) whole d newest p NoValue good le h is = absurd is
assigned_after (storage.Structure n) whole d newest p (At q) good le h is =
    copy_after n d newest q p good is (shorter_lies d.activations newest p n whole h le)
assigned_after (storage.Structure n) whole d newest p (Word w) good le h is = absurd is
assigned_after (storage.Structure n) whole d newest p (Members ws) good le h is = absurd is
assigned_after (storage.Structure n) whole d newest p NoValue good le h is = absurd is
