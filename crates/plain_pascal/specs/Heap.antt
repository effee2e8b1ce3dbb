-- Variables made by `new` (ISO 7185:1990, 6.6.5.3): the cell of that size which was given back last, else the next free
-- words of the heap. A pointer is 0 for `nil`, or 35328 and twice the number of a heap word.
use Rattle.std.specs.Prelude.{ℕ, ◌+◌, ◌*◌, Bool, ◌&&◌, nat_le, max, ◌==◌, if◌then◌else◌, List, ◌∷◌, Option, Some, None, replicate, find, filter, not}
use Rattle.plain_pascal.specs.State.{Heap, Cell, Data, heap_count}
use Rattle.plain_pascal.specs.Memory.{with_words}

abbrev pub pointer_to : ℕ → ℕ
pointer_to word = 35328 + 2 * word

-- a type of no words counts as one
abbrev pub cell_size : ℕ → ℕ
cell_size words = max 1 words

abbrev pub is_cell : ℕ → ℕ → Cell → Bool
is_cell pointer words c = (pointer_to c.place == pointer) && (c.size == cell_size words)

-- the live cell of so many words to which a pointer leads
abbrev pub cell_of : Data → ℕ → ℕ → Option Cell
cell_of s pointer words = find (is_cell pointer words) s.live

abbrev pub without : ℕ → List Cell → List Cell
without place cells = filter (λ c. not (c.place == place)) cells

abbrev pub given : Cell → Data → Data
given c s = with_words (record s { live = c ∷ s.live }) (Heap c.place) (replicate c.size 0)

-- a new cell, if there is room
abbrev pub taken : ℕ → Option Cell → Data → Option (Cell × Data)
taken size (Some c) s = Some (c, given c (record s { free = without c.place s.free }))
taken size None s =
    if nat_le (s.used + size) heap_count
    then Some (record { place = s.used; size = size }, given (record { place = s.used; size = size }) (record s { used = s.used + size }))
    else None

abbrev pub new_cell : ℕ → Data → Option (Cell × Data)
new_cell words s = taken (cell_size words) (find (λ c. c.size == cell_size words) s.free) s

abbrev pub given_back : Cell → Data → Data
given_back c s = record s { live = without c.place s.live; free = c ∷ s.free }
