-- The index of a program: the path of each item under its name, and the list of entries that it is made from.
use Rattle.std.specs.Prelude.{◌≡◌, ℕ, ◌+◌, List, ◌++◌, length, map, find, nat_eq, Option, option_map}
use Rattle.std.specs.declared.hash.FoldHasher.{FoldHasher}
use Rattle.std.specs.declared.hash.BuildHasherDefault.{BuildHasherDefault}
use Rattle.indexmap.specs.IndexMap.{IndexMap, get}
use Rattle.pascal_tree.specs.declared.program.Tree.{Tree}
use Rattle.pascal_tree.specs.Rows.{Row, Rows, rows_from, program_rows}
use Rattle.program_tree.specs.declared.index.Entry.{Entry}
use Rattle.program_tree.specs.Lookups.{name_of}
use Rattle.program_tree.specs.Search.{path_of}

-- paths under names
abbrev pub Index : Type 0
Index = IndexMap ℕ (List ℕ) (BuildHasherDefault FoldHasher)

-- the index gives under each name the path that the search of the tree finds
abbrev pub IsIndexOf : Tree → Index → Type 0
IsIndexOf t index = (n : ℕ) → get nat_eq index n ≡ path_of n t

-- ---- the entries

-- the name and the path of a row
abbrev pub entry_of : Row → Entry
entry_of r = record { name = name_of r.name; path = r.path }

-- the entry of each row, in the order of the text
abbrev pub entries_of : Tree → List Entry
entries_of t = map entry_of (program_rows t)

-- the path of the first entry with this name
abbrev pub path_in : ℕ → List Entry → Option (List ℕ)
path_in n entries = option_map (λ e. e.path) (find (λ e. nat_eq e.name.0 n) entries)

-- the index gives under each name the path of the first entry with it
abbrev pub HasPathsOf : List Entry → Index → Type 0
HasPathsOf entries index = (n : ℕ) → get nat_eq index n ≡ path_in n entries

-- the rows of these parts, the first at the place `at`, are added to the old ones, and `next` is the place after
-- them
pub record AddsRows (at : ℕ) (parts : List Rows) (path : List ℕ) (old new : List Entry) (next : ℕ) : Type 0 where
  pub rows : new ≡ old ++ map entry_of (rows_from at parts path)
  pub place : next ≡ at + length parts
