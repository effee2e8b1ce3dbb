-- A text as lines.
use Rattle.std.specs.Prelude.{◌≢◌, ◌==◌, if◌then◌else◌, ℕ, ◌-◌, List, [], ◌∷◌, ◌++◌, length, take, slice_index_or}

-- the first piece with one byte more before it
abbrev pub onto : ℕ → List (List ℕ) → List (List ℕ)
onto b [] = (b ∷ []) ∷ []
onto b (p ∷ ps) = (b ∷ p) ∷ ps

-- a text, cut at each line feed; the last piece is what no line feed ends, and may be empty
abbrev pub pieces : List ℕ → List (List ℕ)
pieces [] = [] ∷ []
pieces (b ∷ bs) = if b == 10 then [] ∷ pieces bs else onto b (pieces bs)

-- no line feed stands in a text
abbrev pub NoFeed : List ℕ → Type 0
NoFeed [] = Unit {0}
NoFeed (b ∷ bs) = (b ≢ 10) × NoFeed bs

-- none stands in any of these
abbrev pub NoFeeds : List (List ℕ) → Type 0
NoFeeds [] = Unit {0}
NoFeeds (l ∷ ls) = NoFeed l × NoFeeds ls

-- lines, each with its line feed
abbrev pub joined : List (List ℕ) → List ℕ
joined [] = []
joined (l ∷ ls) = l ++ 10 ∷ joined ls

-- the lines that end by a line feed
unfoldable pub whole_lines : List ℕ → List (List ℕ)
whole_lines text = take (length (pieces text) - 1) (pieces text)

-- a line behind the last line feed, where there is one
abbrev pub some_line : List ℕ → List (List ℕ)
some_line [] = []
some_line (b ∷ bs) = (b ∷ bs) ∷ []

-- the lines of a text
unfoldable pub lines_of : List ℕ → List (List ℕ)
lines_of text = whole_lines text ++ some_line (slice_index_or (pieces text) (length (pieces text) - 1) [])
