-- What statements do, by the values of their parts, and where control goes then (ISO 7185:1990, 6.8 and 6.9).
use Rattle.std.specs.Prelude.{ℕ, ◌+◌, ◌-◌, ℤ, pos, Bool, true, false, not, ◌&&◌, int_lt, ◌==◌, if◌then◌else◌, List, [], ◌∷◌, ◌++◌, Option, Some, None, take, find}
use Rattle.dice_base.specs.Word.{signed_value}
use Rattle.core_tree.specs.declared.op.EffectOp.{EffectOp}
use Rattle.core_tree.specs.declared.op.EffectOp.TheVariants as effect
use Rattle.core_tree.specs.declared.op.Written.{Written}
use Rattle.core_tree.specs.declared.op.Written.TheVariants as written
use Rattle.core_tree.specs.declared.op.Storage.{Storage}
use Rattle.core_tree.specs.declared.op.Storage.TheVariants as storage
use Rattle.core_tree.specs.declared.form.StatementOp.{StatementOp}
use Rattle.core_tree.specs.declared.form.StatementOp.TheVariants as stmt
use Rattle.core_tree.specs.declared.form.CaseLabel.{CaseLabel}
use Rattle.core_tree.specs.declared.form.ForLoop.{ForLoop}
use Rattle.plain_pascal.specs.State.{Place, Value, Word, Cell, Activation, Data}
use Rattle.plain_pascal.specs.Memory.{word_in, place_in, words_at, with_word, with_words, copied, variable_place}
use Rattle.plain_pascal.specs.Integers.{Result, Gives, Fails, word_of, within, is_true}
use Rattle.plain_pascal.specs.Writing.{integer_text, boolean_text, characters, padded, fitted}
use Rattle.plain_pascal.specs.Reading.{Reading, Read, Unread, integer_read, character_read, line_read}
use Rattle.plain_pascal.specs.Heap.{pointer_to, new_cell, cell_of, given_back}
use Rattle.plain_pascal.specs.Operations.{part, first_word, second_word, first_number, second_number, first_place, members_in, checked}

-- the state behind an effect, which may be one in a run-time error
pub data Effect : Type 0 where
  Does : (s : Data) → Effect
  Errs : (error : ℕ) → (s : Data) → Effect

-- ---- parts

-- the holds up to a number, and one more
abbrev pub held_in : List Activation → ℕ → Value → List Activation
held_in [] outer v = []
held_in (a ∷ older) outer v = record a { holds = take outer a.holds ++ v ∷ [] } ∷ older

abbrev pub held : ℕ → Value → Data → Data
held number v s = record s { activations = held_in s.activations (number - 1) v }

-- a word goes to a place, if its value lies in a range, else run-time error 1
abbrev pub stored : ℤ → ℤ → Place → ℤ → Data → Effect
stored first last p z s = if within first last z then Does (with_word s p (word_of z)) else Errs 1 s

abbrev pub read_into : ℤ → ℤ → Place → Reading → Data → Effect
read_into first last p (Unread e) s = Errs e s
read_into first last p (Read z rest) s = stored first last p z (record s { input = rest })

abbrev pub text_of : Written → Value → ℕ → Data → List ℕ
text_of written.Integer v width s = padded width (integer_text (signed_value (word_in v)))
text_of written.Char v width s = fitted width (characters (word_in v ∷ []))
text_of written.Boolean v width s = fitted width (boolean_text (is_true (word_in v)))
text_of (written.String n) v width s = fitted width (characters (words_at s n (place_in v)))

abbrev pub default_width : Written → ℕ
default_width written.Integer = 8
default_width written.Char = 1
default_width written.Boolean = 5
default_width (written.String n) = n

abbrev pub wrote : List ℕ → Data → Data
wrote text s = record s { output = s.output ++ text }

-- a width lies from 1 to 255, else run-time error 11
abbrev pub write_in : Bool → Written → List Value → Data → Effect
write_in false what kept s = Does (wrote (text_of what (part kept 0) (default_width what) s) s)
write_in true what kept s = if within (pos 1) (pos 255) (second_number kept) then Does (wrote (text_of what (part kept 0) (second_word kept) s) s) else Errs 11 s

-- what a part without a value does
abbrev pub effect_of : EffectOp → List Value → Data → Effect
effect_of (effect.Hold number words) kept s = Does (held number (part kept 0) s)
effect_of (effect.ReadInteger first last) kept s = read_into first last (first_place kept) (integer_read s.input) s
effect_of (effect.ReadChar first last) kept s = read_into first last (first_place kept) (character_read s.input) s
effect_of (effect.Write what wide) kept s = write_in wide what kept s

-- ---- statements

abbrev pub assigned : Storage → Place → Value → Data → Data
assigned (storage.Set first last) p v s = with_words s p (members_in v)
assigned (storage.Structure n) p v s = copied n (place_in v) p s
assigned _ p v s = with_word s p (word_in v)

-- where a statement is left for: what comes behind it, the statement of this number in it, or that with a label
pub data Way : Type 0 where
  Behind : Way
  Inside : (number : ℕ) → Way
  ToLabel : (label : ℕ) → Way

-- how a statement is left, or a run-time error
pub data Exit : Type 0 where
  Leaves : (to : Way) → (s : Data) → Exit
  Breaks : (error : ℕ) → Exit

abbrev pub with_checked : Result → (Value → Data) → Exit
with_checked (Gives v) on = Leaves Behind (on v)
with_checked (Fails e) on = Breaks e

abbrev pub branch : Bool → ℕ → Way → Data → Exit
branch true n other s = Leaves (Inside n) s
branch false n other s = Leaves other s

abbrev pub other_branch : Bool → Way
other_branch true = Inside 1
other_branch false = Behind

abbrev pub arm_of : Option CaseLabel → Data → Exit
arm_of None s = Breaks 5
arm_of (Some l) s = Leaves (Inside l.arm) s

-- the values that are passed already when the loop has this one
abbrev pub is_past : ForLoop → ℤ → ℤ → Bool
is_past loop limit z = if loop.down then int_lt z limit else int_lt limit z

-- the first value is taken, and the limit held
abbrev pub begun : ForLoop → ℕ → ℤ → ℤ → Data → Exit
begun loop hold first last s =
    if is_past loop last first then Leaves Behind s
    else (if within loop.first loop.last first && within loop.first loop.last last
    then Leaves (Inside 0) (held hold (Word (word_of last)) (with_word s (variable_place s loop.variable) (word_of first)))
    else Breaks 1)

abbrev pub given_cell : Place → Option (Cell × Data) → Exit
given_cell p None = Breaks 7
given_cell p (Some (c, s)) = Leaves Behind (with_word s p (pointer_to c.place))

abbrev pub disposed : Option Cell → Data → Exit
disposed None s = Breaks 9
disposed (Some c) s = Leaves Behind (given_back c s)

abbrev pub line_behind : Reading → Data → Exit
line_behind (Unread e) s = Breaks e
line_behind (Read z rest) s = Leaves Behind (record s { input = rest })

abbrev pub ended_line : Bool → Data → Data
ended_line true s = wrote (10 ∷ []) s
ended_line false s = s

abbrev pub went_on : Bool → Data → Exit
went_on true s = line_behind (line_read s.input) s
went_on false s = Leaves Behind s

-- a statement's own effect, in so many holds around it
abbrev pub exit_of : StatementOp → ℕ → List Value → Data → Exit
exit_of stmt.Empty holds kept s = Leaves Behind s
exit_of (stmt.Goto label) holds kept s = Leaves (ToLabel label) s
exit_of (stmt.Assign to) holds kept s = with_checked (checked to (part kept 1)) (λ v. assigned to (first_place kept) v s)
exit_of stmt.Call holds kept s = Leaves Behind s
exit_of (stmt.If has_else) holds kept s = branch (is_true (first_word kept)) 0 (other_branch has_else) s
exit_of (stmt.Case labels) holds kept s = arm_of (find (λ l. word_of l.value == first_word kept) labels) s
exit_of stmt.While holds kept s = branch (is_true (first_word kept)) 0 Behind s
exit_of stmt.Repeat holds kept s = branch (not (is_true (first_word kept))) 0 Behind s
exit_of (stmt.For loop) holds kept s = begun loop (holds + 1) (first_number kept) (second_number kept) s
exit_of stmt.With holds kept s = Leaves (Inside 0) s
exit_of (stmt.Read line) holds kept s = went_on line s
exit_of (stmt.Write line) holds kept s = Leaves Behind (ended_line line s)
exit_of (stmt.New words) holds kept s = given_cell (first_place kept) (new_cell words s)
exit_of (stmt.Dispose words) holds kept s = disposed (cell_of s (first_word kept) words) s
