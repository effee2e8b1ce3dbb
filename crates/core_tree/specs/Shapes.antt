-- Types without their declarations, and the words that their values take (ISO 7185:1990, 6.4). `packed` is no part of a
-- shape. A shape is the table of types unfolded.
use Rattle.std.specs.Prelude.{ℕ, ◌+◌, ◌*◌, ℤ, ◌-ℤ◌, unsigned_abs, min, ◌≡◌, List, [], ◌∷◌, ◌++◌, length, map, slice_get, Option, Some, None}
use Rattle.core_tree.specs.declared.limits.TheConstants.{MAX_COUNTED_WORDS}
use Rattle.core_tree.specs.declared.shape.Domain.{Domain}
use Rattle.core_tree.specs.declared.shape.Shape.{Shape}
use Rattle.core_tree.specs.declared.shape.Shape.TheVariants as shape
use Rattle.core_tree.specs.declared.shape.FieldShape.{FieldShape}
use Rattle.core_tree.specs.declared.shape.WrittenShape.{WrittenShape}
use Rattle.core_tree.specs.declared.shape.WrittenShape.TheVariants as written
use Rattle.core_tree.specs.declared.shape.ShapeEntry.{ShapeEntry}

mutual
  pub data ShapeTree : Type 0 where
    Integer : ShapeTree
    Boolean : ShapeTree
    Char : ShapeTree
    Enumeration : (idents : List (List ℕ)) → ShapeTree
    Subrange : (host : ShapeTree) → (first last : ℤ) → ShapeTree
    SetOf : (base : ShapeTree) → ShapeTree
    ArrayOf : (index component : ShapeTree) → ShapeTree
    RecordOf : (fields : Fields) → ShapeTree
    Pointer : (domain : Domain) → ShapeTree

  pub data Fields : Type 0 where
    NoField : Fields
    Field : (ident : List ℕ) → (shape : ShapeTree) → (others : Fields) → Fields

-- ---- the table unfolded

-- a type over the entries before it; a number past them has the shape of a record without fields, and does not come
abbrev pub tree_at : List ShapeTree → Option ShapeTree → ShapeTree
tree_at trees None = RecordOf NoField
tree_at trees (Some tree) = tree

abbrev pub tree_of : List ShapeTree → Shape → ShapeTree
tree_of trees shape.Integer = Integer
tree_of trees shape.Boolean = Boolean
tree_of trees shape.Char = Char
tree_of trees (shape.Written k) = tree_at trees (slice_get trees k)

abbrev pub fields_of : List ShapeTree → List FieldShape → Fields
fields_of trees [] = NoField
fields_of trees (f ∷ fs) = Field f.ident (tree_of trees f.shape) (fields_of trees fs)

abbrev pub written_tree : List ShapeTree → WrittenShape → ShapeTree
written_tree trees (written.Enumeration idents) = Enumeration idents
written_tree trees (written.Subrange host first last) = Subrange (tree_of trees host) first last
written_tree trees (written.SetOf base) = SetOf (tree_of trees base)
written_tree trees (written.ArrayOf index component) = ArrayOf (tree_of trees index) (tree_of trees component)
written_tree trees (written.RecordOf fs) = RecordOf (fields_of trees fs)
written_tree trees (written.Pointer domain) = Pointer domain

-- each entry over those before it
abbrev pub trees_after : List ShapeTree → List ShapeEntry → List ShapeTree
trees_after trees [] = trees
trees_after trees (e ∷ es) = trees_after (trees ++ written_tree trees e.shape ∷ []) es

abbrev pub trees_of : List ShapeEntry → List ShapeTree
trees_of entries = trees_after [] entries

-- ---- words

-- how many values an ordinal type has (6.4.2); other types are no index
abbrev pub values_of : ShapeTree → ℕ
values_of Integer = 65535
values_of Boolean = 2
values_of Char = 128
values_of (Enumeration idents) = length idents
values_of (Subrange host first last) = unsigned_abs (last -ℤ first) + 1
values_of _ = 0

-- the same of an entry of the table, whose parts do not matter for it
abbrev pub written_values : WrittenShape → ℕ
written_values (written.Enumeration idents) = length idents
written_values (written.Subrange host first last) = unsigned_abs (last -ℤ first) + 1
written_values _ = 0

-- a set takes eight words, an array or a record the sum of its components, any other value one
abbrev mutual
  pub words_of : ShapeTree → ℕ
  words_of (SetOf base) = 8
  words_of (ArrayOf index component) = values_of index * words_of component
  words_of (RecordOf fields) = fields_words fields
  words_of _ = 1

  pub fields_words : Fields → ℕ
  fields_words NoField = 0
  fields_words (Field ident shape fields) = words_of shape + fields_words fields

-- sums of words count up to this and no further
abbrev pub counted_words : ℕ → ℕ
counted_words n = min MAX_COUNTED_WORDS n

-- one more entry of a table
abbrev pub next_entry : List ShapeEntry → WrittenShape → ShapeEntry
next_entry entries s = record { shape = s; words = counted_words (words_of (written_tree (trees_of entries) s)) }

-- the words of a type over a table
abbrev pub table_words : List ShapeEntry → Shape → ℕ
table_words entries s = words_of (tree_of (trees_of entries) s)

-- each entry has the words of its type
abbrev pub HaveWords : List ShapeEntry → Type 0
HaveWords entries = map (λ e. e.words) entries ≡ map (λ tree. counted_words (words_of tree)) (trees_of entries)
