-- Operations that give a word give a word of sixteen bits.
use Rattle.std.proofs.Common.{◌≡◌, ℕ, zero, suc, ◌+◌, ◌<◌, ◌≤◌, Bool, true, false, List, [], ◌∷◌, refl, sym, ap, ◌∙◌, subst, arith}
use Rattle.std.specs.Prelude.{ℤ, pos, negsuc, if◌then◌else◌, int_le, int_div, int_rem, nat_le, ◌&&◌, ◌||◌, not, ◌==◌, ◌+ℤ◌, ◌-ℤ◌, ◌*ℤ◌, neg_ℤ, bit_and, Some, slice_get, slice_index, get_or}
use Rattle.std.specs.List.{AllByRecursion}
use Rattle.std.proofs.lemmas.Bool.Decides.{nat_tests}
use Rattle.core_tree.specs.declared.op.WordOp.{WordOp}
use Rattle.core_tree.specs.declared.op.WordOp.TheVariants as word
use Rattle.plain_pascal.specs.Program.{Kind, WordKind, PlaceKind}
use Rattle.plain_pascal.specs.State.{Place, Global, Local, Heap, Literal, Value, Word, Members, At, NoValue, Activation, Data}
use Rattle.plain_pascal.specs.Memory.{word_in, place_in, word_at, words_at, words_of, from_activation}
use Rattle.plain_pascal.specs.Integers.{Result, Gives, Fails, word_of, within, in_range, integer, divided, modulo, lifted, is_true, compared}
use Rattle.plain_pascal.specs.Sets.{compared_sets, contains}
use Rattle.plain_pascal.specs.Reading.{is_end_of_file, is_end_of_line}
use Rattle.plain_pascal.specs.Typed.{IsWordOp, IsIntegerValue}
use Rattle.plain_pascal.specs.Operations.{gives_truth, part, first_word, second_word, first_number, second_number, first_place, second_place, first_set, second_set, absolute, compared_words, word_value}
use Rattle.plain_pascal.specs.Valid.{IsWord, IsOf, AreOf, LiesIn, IsData}

-- ---- words of lists

pub index_word : (xs : List ℕ) (i : ℕ) → AllByRecursion IsWord xs → IsWord (slice_index xs i)
index_word [] i h = omega arith
index_word (x ∷ xs) zero h = h.0
index_word (x ∷ xs) (suc i) h = index_word xs i h.1

index_char : (xs : List ℕ) (i : ℕ) → AllByRecursion (λ c. c < 128) xs → IsWord (slice_index xs i)
index_char [] i h = omega arith
index_char (x ∷ xs) zero h = let k : x < 128 = h.0 in omega (arith, k)
index_char (x ∷ xs) (suc i) h = index_char xs i h.1

got : (xs : List Value) (i : ℕ) (z v : Value) → slice_get xs i ≡ Some v → get_or xs i z ≡ v
got [] i z v e = absurd (grind (arith, e))
got (x ∷ xs) zero z v e = cc e
got (x ∷ xs) (suc i) z v e = got xs i z v e

-- ---- places

module _ (d : Data) (good : IsData d) (newest : ℕ) where
  pub place_word : (p : Place) (n : ℕ) → LiesIn d.activations newest p n → 1 ≤ n → IsWord (word_at d p)
  place_word (Global w) n h le = index_word d.globals w good.globals_words
  place_word (Heap w) n h le = index_word d.heap w good.heap_words
  place_word (Literal text) n h le = index_char text 0 h.1
  place_word (Local a w) n h le =
      let (x, small, found) = h.2 0 (omega (arith, le)) in
      let here : w + 0 ≡ w = omega arith in
      subst IsWord (sym (ap word_in (got (words_of (from_activation d.activations a)) w (Word 0) (Word x) (ap (slice_get (words_of (from_activation d.activations a))) (sym here) ∙ found)))) small

module _ (acts : List Activation) (newest : ℕ) where
  -- a value that an operation gives is of a kind
  abbrev pub GivesOf : Kind → Result → Type 0
  GivesOf k (Gives v) = IsOf acts newest k v
  GivesOf k (Fails e) = Unit {0}

  truth_sound : (b : Bool) → GivesOf WordKind (gives_truth b)
  truth_sound true = omega arith
  truth_sound false = omega arith

  first_holds : (a b : Bool) → (a && b) ≡ true → b ≡ true
  first_holds true b e = e
  first_holds false b e = absurd (grind (arith, e))

  word_small : (z : ℤ) → int_le z (pos 32767) ≡ true → word_of z < 65536
  word_small (pos n) e = let h : nat_le n 32767 ≡ true = e in let k : n ≤ 32767 = grind (arith, nat_tests, h) in omega (arith, k)
  word_small (negsuc n) e = omega arith

  below : (z last : ℤ) → int_le z last ≡ true → int_le last (pos 32767) ≡ true → int_le z (pos 32767) ≡ true
  below (pos n) (pos m) e le = let a : nat_le n m ≡ true = e in let b : nat_le m 32767 ≡ true = le in grind (arith, nat_tests, a, b)
  below (pos n) (negsuc m) e le = absurd (grind (arith, e))
  below (negsuc n) last e le = refl

  in_range_sound : (error : ℕ) (first : ℤ) (z : ℤ) → GivesOf WordKind (in_range error first (pos 32767) z)
  in_range_sound error first z = by (within first (pos 32767) z) refl
    where
      by : (b : Bool) → within first (pos 32767) z ≡ b → GivesOf WordKind (if b then Gives (Word (word_of z)) else Fails error)
      by true e = word_small z (first_holds (int_le first z) (int_le z (pos 32767)) e)
      by false e = tt

  pub integer_sound : (z : ℤ) → GivesOf WordKind (integer z)
  integer_sound z = in_range_sound 3 (negsuc 32766) z

  pub ranged_sound : (error : ℕ) (first last : ℤ) (z : ℤ) → int_le last (pos 32767) ≡ true → GivesOf WordKind (in_range error first last z)
  ranged_sound error first last z le = by (within first last z) refl
    where
      by : (b : Bool) → within first last z ≡ b → GivesOf WordKind (if b then Gives (Word (word_of z)) else Fails error)
      by true e = word_small z (below z last (first_holds (int_le first z) (int_le z last) e) le)
      by false e = tt

  divided_sound : (i j : ℤ) → GivesOf WordKind (divided i j)
  divided_sound i (pos zero) = tt
  divided_sound i (pos (suc n)) = integer_sound (int_div i (pos (suc n)))
  divided_sound i (negsuc n) = integer_sound (int_div i (negsuc n))

  modulo_sound : (i j : ℤ) → GivesOf WordKind (modulo i j)
  modulo_sound i (pos zero) = tt
  modulo_sound i (pos (suc n)) = integer_sound (lifted (int_rem i (pos (suc n))) (pos (suc n)))
  modulo_sound i (negsuc n) = tt

  pub first_sound : (ks : List Kind) (kept : List Value) → AreOf acts newest (WordKind ∷ ks) kept → IsOf acts newest WordKind (part kept 0)
  first_sound ks [] h = absurd h
  first_sound ks (v ∷ vs) h = h.0

-- ---- all operations that give a word

module _ (d : Data) (good : IsData d) (newest : ℕ) where
  abbrev GivesWord : Result → Type 0
  GivesWord r = GivesOf d.activations newest WordKind r

  constant_sound : (z : ℤ) → IsIntegerValue z → word_of z < 65536
  constant_sound z e = word_small d.activations newest z (first_holds d.activations newest (int_le (negsuc 32766) z) (int_le z (pos 32767)) e)

  load_sound : (n : ℕ) (kept : List Value) → 1 ≤ n → AreOf d.activations newest (PlaceKind n ∷ []) kept → GivesWord (Gives (Word (word_at d (place_in (part kept 0)))))
  load_sound n [] le h = absurd h
  load_sound n (Word w ∷ vs) le h = absurd h.0
  load_sound n (Members ws ∷ vs) le h = absurd h.0
  load_sound n (NoValue ∷ vs) le h = absurd h.0
  load_sound n (At p ∷ vs) le h = place_word d good newest p n h.0 le

  pub word_sound : (w : WordOp) (ks : List Kind) (kept : List Value) → IsWordOp w ks → AreOf d.activations newest ks kept → GivesWord (word_value w kept d)
  word_sound (word.Constant z) [] kept t h = constant_sound z t
  word_sound (word.Constant z) (k ∷ ks) kept t h = absurd t
  word_sound word.Load (PlaceKind n ∷ []) kept t h = load_sound n kept t h
  word_sound word.Load ks kept t h = absurd t
  word_sound word.Plus (WordKind ∷ []) kept t h = first_sound d.activations newest [] kept h
  word_sound word.Plus ks kept t h = absurd t
  word_sound word.Ord (WordKind ∷ []) kept t h = first_sound d.activations newest [] kept h
  word_sound word.Ord ks kept t h = absurd t
  word_sound (word.Succ first last) (WordKind ∷ []) kept t h = ranged_sound d.activations newest 13 first last (first_number kept +ℤ pos 1) t
  word_sound (word.Succ first last) ks kept t h = absurd t
  word_sound (word.Pred first last) (WordKind ∷ []) kept t h = ranged_sound d.activations newest 13 first last (first_number kept -ℤ pos 1) t
  word_sound (word.Pred first last) ks kept t h = absurd t
  word_sound word.Negate ks kept t h = integer_sound d.activations newest (neg_ℤ (first_number kept))
  word_sound word.Add ks kept t h = integer_sound d.activations newest (first_number kept +ℤ second_number kept)
  word_sound word.Subtract ks kept t h = integer_sound d.activations newest (first_number kept -ℤ second_number kept)
  word_sound word.Multiply ks kept t h = integer_sound d.activations newest (first_number kept *ℤ second_number kept)
  word_sound word.Divide ks kept t h = divided_sound d.activations newest (first_number kept) (second_number kept)
  word_sound word.Modulo ks kept t h = modulo_sound d.activations newest (first_number kept) (second_number kept)
  word_sound word.Abs ks kept t h = integer_sound d.activations newest (absolute (first_number kept))
  word_sound word.Sqr ks kept t h = integer_sound d.activations newest (first_number kept *ℤ first_number kept)
  word_sound word.Chr ks kept t h = ranged_sound d.activations newest 13 (pos 0) (pos 127) (first_number kept) refl
  word_sound word.Not ks kept t h = truth_sound d.activations newest (not (is_true (first_word kept)))
  word_sound word.And ks kept t h = truth_sound d.activations newest (is_true (first_word kept) && is_true (second_word kept))
  word_sound word.Or ks kept t h = truth_sound d.activations newest (is_true (first_word kept) || is_true (second_word kept))
  word_sound (word.Compare r) ks kept t h = truth_sound d.activations newest (compared r (first_number kept) (second_number kept))
  word_sound (word.CompareSets r) ks kept t h = truth_sound d.activations newest (compared_sets r (first_set kept) (second_set kept))
  word_sound (word.CompareStrings r n) ks kept t h = truth_sound d.activations newest (compared_words r (words_at d n (first_place kept)) (words_at d n (second_place kept)))
  word_sound word.In ks kept t h = truth_sound d.activations newest (contains (second_set kept) (first_number kept))
  word_sound word.Odd ks kept t h = truth_sound d.activations newest (bit_and (first_word kept) 1 == 1)
  word_sound word.Nil ks kept t h = omega arith
  word_sound word.Eof ks kept t h = truth_sound d.activations newest (is_end_of_file d.input)
  word_sound word.Eoln ks kept t h = truth_sound d.activations newest (is_end_of_line d.input)
