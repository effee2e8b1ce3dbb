-- Words at places, and the places of variables (ISO 7185:1990, 6.5.1, 6.6.3).
use Rattle.std.specs.Prelude.{ℕ, zero, suc, ◌+◌, ◌-◌, Bool, true, false, List, [], ◌∷◌, length, slice_index, slice_set, drop, get_or, set}
use Rattle.core_tree.specs.declared.op.Scope.{Scope}
use Rattle.core_tree.specs.declared.op.Scope.TheVariants as scope
use Rattle.core_tree.specs.declared.op.Variable.{Variable}
use Rattle.plain_pascal.specs.State.{Place, Global, Local, Heap, Literal, Value, Word, At, Activation, Data}

abbrev pub word_in : Value → ℕ
word_in (Word w) = w
word_in _ = 0

abbrev pub place_in : Value → Place
place_in (At p) = p
place_in _ = Global 0

-- the activation of a number, and those older than it, the program's having the number 0
abbrev pub from_activation : List Activation → ℕ → List Activation
from_activation acts number = drop (length acts - suc number) acts

abbrev pub static_link_of : List Activation → ℕ
static_link_of [] = 0
static_link_of (a ∷ older) = a.static_link

abbrev pub words_of : List Activation → List Value
words_of [] = []
words_of (a ∷ older) = a.words

-- the number of the activation so many static links up from the newest
abbrev pub linked_up : List Activation → ℕ → ℕ
linked_up acts zero = length acts - 1
linked_up acts (suc d) = static_link_of (from_activation acts (linked_up acts d))

abbrev pub moved : Place → ℕ → Place
moved (Global w) k = Global (w + k)
moved (Local a w) k = Local a (w + k)
moved (Heap w) k = Heap (w + k)
moved (Literal text) k = Literal (drop k text)

abbrev pub local_word : List Activation → ℕ → ℕ → Value
local_word acts a w = get_or (words_of (from_activation acts a)) w (Word 0)

abbrev pub word_at : Data → Place → ℕ
word_at s (Global w) = slice_index s.globals w
word_at s (Local a w) = word_in (local_word s.activations a w)
word_at s (Heap w) = slice_index s.heap w
word_at s (Literal text) = slice_index text 0

-- so many words from a place on
abbrev pub words_at : Data → ℕ → Place → List ℕ
words_at s zero p = []
words_at s (suc n) p = word_at s p ∷ words_at s n (moved p 1)

-- the word w of the activation with so many newer ones
abbrev pub with_local : List Activation → ℕ → ℕ → ℕ → List Activation
with_local [] newer w word = []
with_local (a ∷ older) zero w word = record a { words = set a.words w (Word word) } ∷ older
with_local (a ∷ older) (suc newer) w word = a ∷ with_local older newer w word

abbrev pub with_word : Data → Place → ℕ → Data
with_word s (Global w) word = record s { globals = slice_set s.globals w word }
with_word s (Local a w) word = record s { activations = with_local s.activations (length s.activations - suc a) w word }
with_word s (Heap w) word = record s { heap = slice_set s.heap w word }
with_word s (Literal text) word = s

abbrev pub with_words : Data → Place → List ℕ → Data
with_words s p [] = s
with_words s p (w ∷ ws) = with_words (with_word s p w) (moved p 1) ws

-- so many words are copied, one after the other from the first on
abbrev pub copied : ℕ → Place → Place → Data → Data
copied zero from to s = s
copied (suc n) from to s = copied n (moved from 1) (moved to 1) (with_word s to (word_at s from))

-- a variable parameter stands for the actual variable
abbrev pub actual : Bool → Place → Value → Place
actual false p v = p
actual true p v = place_in v

abbrev pub local_place : List Activation → ℕ → Variable → Place
local_place acts number v = actual v.by_place (Local number v.offset) (local_word acts number v.offset)

abbrev pub place_of : List Activation → Scope → Variable → Place
place_of acts scope.Program v = Global v.offset
place_of acts (scope.Routine d) v = local_place acts (linked_up acts d) v

abbrev pub variable_place : Data → Variable → Place
variable_place s v = place_of s.activations v.scope v
