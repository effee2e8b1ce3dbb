-- The value of an operation, by the values of its parts (ISO 7185:1990, 6.5 and 6.7, in this profile: parts are
-- evaluated from left to right, both operands of `and` and `or` always).
use Rattle.std.specs.Prelude.{ℕ, ◌-◌, ◌*◌, ℤ, pos, ◌+ℤ◌, ◌-ℤ◌, ◌*ℤ◌, neg_ℤ, unsigned_abs, Bool, not, ◌&&◌, ◌||◌, ◌==◌, if◌then◌else◌, List, [], ◌∷◌, Option, Some, None, get_or, bit_and}
use Rattle.dice_base.specs.Word.{signed_value}
use Rattle.core_tree.specs.declared.op.Op.{Op}
use Rattle.core_tree.specs.declared.op.Op.TheVariants as op
use Rattle.core_tree.specs.declared.op.PlaceOp.{PlaceOp}
use Rattle.core_tree.specs.declared.op.PlaceOp.TheVariants as place
use Rattle.core_tree.specs.declared.op.WordOp.{WordOp}
use Rattle.core_tree.specs.declared.op.WordOp.TheVariants as word
use Rattle.core_tree.specs.declared.op.SetOp.{SetOp}
use Rattle.core_tree.specs.declared.op.SetOp.TheVariants as set
use Rattle.core_tree.specs.declared.op.Storage.{Storage}
use Rattle.core_tree.specs.declared.op.Storage.TheVariants as storage
use Rattle.core_tree.specs.declared.op.Relation.{Relation}
use Rattle.plain_pascal.specs.State.{Place, Heap, Literal, Value, Word, Members, At, NoValue, Cell, Activation, Data}
use Rattle.plain_pascal.specs.Memory.{word_in, place_in, moved, word_at, words_at, variable_place}
use Rattle.plain_pascal.specs.Integers.{Result, Gives, Fails, word_of, truth, within, in_range, integer, divided, modulo, is_true, compared}
use Rattle.plain_pascal.specs.Sets.{no_members, contains, union_of, intersection_of, difference_of, compared_sets, included, range_included, members_within}
use Rattle.plain_pascal.specs.Reading.{is_end_of_file, is_end_of_line}
use Rattle.plain_pascal.specs.Heap.{cell_of}

abbrev pub members_in : Value → List ℕ
members_in (Members ws) = ws
members_in _ = no_members

-- the part of a number among the values of the parts
abbrev pub part : List Value → ℕ → Value
part kept i = get_or kept i NoValue

abbrev pub first_word : List Value → ℕ
first_word kept = word_in (part kept 0)

abbrev pub second_word : List Value → ℕ
second_word kept = word_in (part kept 1)

abbrev pub first_number : List Value → ℤ
first_number kept = signed_value (first_word kept)

abbrev pub second_number : List Value → ℤ
second_number kept = signed_value (second_word kept)

abbrev pub first_place : List Value → Place
first_place kept = place_in (part kept 0)

abbrev pub second_place : List Value → Place
second_place kept = place_in (part kept 1)

abbrev pub first_set : List Value → List ℕ
first_set kept = members_in (part kept 0)

abbrev pub second_set : List Value → List ℕ
second_set kept = members_in (part kept 1)

abbrev pub gives_truth : Bool → Result
gives_truth b = Gives (Word (truth b))

-- the holds of the newest activation
abbrev pub newest_holds : List Activation → List Value
newest_holds [] = []
newest_holds (a ∷ older) = a.holds

abbrev pub held_place : Data → ℕ → Place
held_place s number = place_in (part (newest_holds s.activations) (number - 1))

-- the component at an index that lies in the index type, else run-time error 2
abbrev pub component : ℤ → ℤ → ℕ → Place → ℤ → Result
component first last size p i = if within first last i then Gives (At (moved p (size * unsigned_abs (i -ℤ first)))) else Fails 2

-- the variable to which a pointer leads, else run-time error 6
abbrev pub dereferenced : Option Cell → Result
dereferenced None = Fails 6
dereferenced (Some c) = Gives (At (Heap c.place))

abbrev pub place_value : PlaceOp → List Value → Data → Result
place_value (place.Variable v) kept s = Gives (At (variable_place s v))
place_value (place.Held hold offset) kept s = Gives (At (moved (held_place s hold) offset))
place_value (place.Field offset) kept s = Gives (At (moved (first_place kept) offset))
place_value (place.Index first last size) kept s = component first last size (first_place kept) (second_number kept)
place_value (place.Dereference words) kept s = dereferenced (cell_of s (word_at s (first_place kept)) words)

-- by the first words that differ, as numbers
abbrev pub compared_words : Relation → List ℕ → List ℕ → Bool
compared_words r (u ∷ (u' ∷ us)) (v ∷ vs) = if u == v then compared_words r (u' ∷ us) vs else compared r (signed_value u) (signed_value v)
compared_words r (u ∷ []) (v ∷ vs) = compared r (signed_value u) (signed_value v)
compared_words r _ _ = compared r (pos 0) (pos 0)

abbrev pub absolute : ℤ → ℤ
absolute z = pos (unsigned_abs z)

abbrev pub word_value : WordOp → List Value → Data → Result
word_value (word.Constant z) kept s = Gives (Word (word_of z))
word_value word.Nil kept s = Gives (Word 0)
word_value word.Load kept s = Gives (Word (word_at s (first_place kept)))
word_value word.Plus kept s = Gives (part kept 0)
word_value word.Negate kept s = integer (neg_ℤ (first_number kept))
word_value word.Not kept s = gives_truth (not (is_true (first_word kept)))
word_value word.Add kept s = integer (first_number kept +ℤ second_number kept)
word_value word.Subtract kept s = integer (first_number kept -ℤ second_number kept)
word_value word.Multiply kept s = integer (first_number kept *ℤ second_number kept)
word_value word.Divide kept s = divided (first_number kept) (second_number kept)
word_value word.Modulo kept s = modulo (first_number kept) (second_number kept)
word_value word.And kept s = gives_truth (is_true (first_word kept) && is_true (second_word kept))
word_value word.Or kept s = gives_truth (is_true (first_word kept) || is_true (second_word kept))
word_value (word.Compare r) kept s = gives_truth (compared r (first_number kept) (second_number kept))
word_value (word.CompareSets r) kept s = gives_truth (compared_sets r (first_set kept) (second_set kept))
word_value (word.CompareStrings r n) kept s = gives_truth (compared_words r (words_at s n (first_place kept)) (words_at s n (second_place kept)))
word_value word.In kept s = gives_truth (contains (second_set kept) (first_number kept))
word_value word.Abs kept s = integer (absolute (first_number kept))
word_value word.Sqr kept s = integer (first_number kept *ℤ first_number kept)
word_value word.Odd kept s = gives_truth (bit_and (first_word kept) 1 == 1)
word_value word.Ord kept s = Gives (part kept 0)
word_value word.Chr kept s = in_range 13 (pos 0) (pos 127) (first_number kept)
word_value (word.Succ first last) kept s = in_range 13 first last (first_number kept +ℤ pos 1)
word_value (word.Pred first last) kept s = in_range 13 first last (first_number kept -ℤ pos 1)
word_value word.Eof kept s = gives_truth (is_end_of_file s.input)
word_value word.Eoln kept s = gives_truth (is_end_of_line s.input)

abbrev pub set_value : SetOp → List Value → Data → Result
set_value set.Load kept s = Gives (Members (words_at s 8 (first_place kept)))
set_value set.Empty kept s = Gives (Members no_members)
set_value set.Include kept s = included (first_set kept) (second_number kept)
set_value set.IncludeRange kept s = range_included (first_set kept) (second_number kept) (signed_value (word_in (part kept 2)))
set_value set.Union kept s = Gives (Members (union_of (first_set kept) (second_set kept)))
set_value set.Difference kept s = Gives (Members (difference_of (first_set kept) (second_set kept)))
set_value set.Intersection kept s = Gives (Members (intersection_of (first_set kept) (second_set kept)))

-- a value is checked for the variable that takes it: run-time error 1, for a set error 14
abbrev pub checked : Storage → Value → Result
checked (storage.Ordinal first last) v = in_range 1 first last (signed_value (word_in v))
checked (storage.Set first last) v = if members_within first last (members_in v) then Gives v else Fails 14
checked _ v = Gives v

-- the value of an operation without effect
abbrev pub value_of : Op → List Value → Data → Result
value_of (op.Place p) kept s = place_value p kept s
value_of (op.Word w) kept s = word_value w kept s
value_of (op.Set x) kept s = set_value x kept s
value_of (op.Literal text) kept s = Gives (At (Literal text))
value_of op.Structure kept s = Gives (part kept 0)
value_of (op.Argument to) kept s = checked to (part kept 0)
value_of op.ActualVariable kept s = Gives (part kept 0)
value_of _ kept s = Gives NoValue
