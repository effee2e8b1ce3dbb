-- What the rows of a program say of a name: the item with the name, what it stands in, and its place there.
use Rattle.std.specs.Prelude.{◌≡◌, ◌≢◌, ◌⊎◌, ◌==◌, ◌||◌, ℕ, Bool, true, false, List, [], ◌∷◌, ◌++◌, Some, Contains, map, eqb}
use Rattle.std.specs.List.{AllByRecursion, IsDistinct}
use Rattle.pascal_tree.specs.declared.program.Tree.{Tree}
use Rattle.dice_base.specs.declared.token.TokenKind.TheVariants.{Number}
use Rattle.dice_base.specs.Symbols.{begin_word, repeat_word}
use Rattle.dice_base.specs.Tokens.{Toks, class_at, class_of}
use Rattle.pascal_tree.specs.Paths.{ItemValue, tree_at, item_name}
use Rattle.pascal_tree.specs.Rows.{Row, own_text}

-- the row's path leads to an item with the row's name and own text
pub record IsRowOf (t : Tree) (r : Row) : Type 0 where
  pub item : ItemValue
  pub stands : tree_at r.path t ≡ Some item
  pub name : item_name item ≡ r.name
  pub own : own_text item ≡ r.own

-- no row has the name
abbrev pub HasNoRow : ℕ → List Row → Type 0
HasNoRow n rows = AllByRecursion (λ r. r.name ≢ n) rows

-- some row has the name and the own text
abbrev pub HasRow : ℕ → Toks → List Row → Type 0
HasRow n own rows = (path : List ℕ) × Contains rows (record { path = path; name = n; own = own })

-- no two rows have the same name
abbrev pub HaveOwnNames : List Row → Type 0
HaveOwnNames rows = IsDistinct eqb (map (λ r. r.name) rows)

-- ---- what an item stands in

-- some row has the path and the name
abbrev pub HasPath : List ℕ → ℕ → List Row → Type 0
HasPath path n rows = (own : Toks) × Contains rows (record { path = path; name = n; own = own })

-- the path of the row with the name is that of the outer row and this place
pub record IsPartAt (n i : ℕ) (outer : Row) (rows : List Row) : Type 0 where
  pub outer_row : Contains rows outer
  pub row : HasPath (outer.path ++ (i ∷ [])) n rows

-- the item with the name n stands in the one with the name m
abbrev pub HasParent : ℕ → ℕ → List Row → Type 0
HasParent n m rows = (outer : Row) × (i : ℕ) × IsPartAt n i outer rows × (outer.name ≡ m)

-- no row has the name, or it is that of the program itself
abbrev pub HasNoParent : ℕ → List Row → Type 0
HasNoParent n rows = HasNoRow n rows ⊎ HasPath [] n rows

-- ---- sequences of statements

-- an own text without the label of the statement, if there is one: other own texts begin with no number
abbrev pub unlabelled_text : Toks → Toks
unlabelled_text (Number n ∷ colon ∷ own) = own
unlabelled_text own = own

-- the own text of a compound or a `repeat` statement, which begin so as no others do (ISO 7185:1990, 6.8.3.2 and 6.8.3.7)
abbrev pub is_sequence_text : Toks → Bool
is_sequence_text own =
    (class_at (unlabelled_text own) == class_of begin_word) || (class_at (unlabelled_text own) == class_of repeat_word)

-- the item with the name n stands at this place in the sequence of the statement with the name m
abbrev pub HasSequence : ℕ → ℕ → ℕ → List Row → Type 0
HasSequence n m i rows = (outer : Row) × IsPartAt n i outer rows × (outer.name ≡ m) × (is_sequence_text outer.own ≡ true)

-- the item with the name n stands in nothing, or in an item that is no such statement
abbrev pub HasNoSequence : ℕ → List Row → Type 0
HasNoSequence n rows =
    HasNoParent n rows ⊎ ((outer : Row) × (i : ℕ) × IsPartAt n i outer rows × (is_sequence_text outer.own ≡ false))
