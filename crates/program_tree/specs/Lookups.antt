-- What a look-up of a name gives: the item at the path that the search of the tree finds, and what that item stands in.
use Rattle.std.specs.Prelude.{ℕ, Bool, true, false, if◌then◌else◌, List, Option, Some, None, slice_get, option_map, option_and_then}
use Rattle.dice_base.specs.declared.name.Name.{Name}
use Rattle.pascal_tree.specs.declared.stmt.Stmt.{Stmt, out-Stmt}
use Rattle.pascal_tree.specs.declared.stmt.StmtKind.{StmtKind, StmtKind-F, out-StmtKind}
use Rattle.pascal_tree.specs.declared.stmt.Arm.{Arm}
use Rattle.pascal_tree.specs.declared.program.Tree.{Tree}
use Rattle.program_tree.specs.declared.item.Item.{Item}
use Rattle.program_tree.specs.declared.item.Item.TheVariants as item
use Rattle.program_tree.specs.declared.item.Place.{Place}
use Rattle.program_tree.specs.declared.item.Place.TheVariants as place
use Rattle.pascal_tree.specs.Paths.{ItemValue, OfProgram, OfDecl, OfRoutine, OfStmt, tree_at, item_name, front, last_place}
use Rattle.program_tree.specs.Search.{path_of}

-- a number as a name
abbrev pub name_of : ℕ → Name
name_of n = record { 0 = n }

-- ---- the item with a name

-- the item at the path that the search finds
abbrev pub item_named : ℕ → Tree → Option ItemValue
item_named n t = option_and_then (λ path. tree_at path t) (path_of n t)

-- the item, and all that stands in it
abbrev pub item_value : Item → ItemValue
item_value (item.OfProgram p) = OfProgram p.now
item_value (item.OfDecl d) = OfDecl d.now
item_value (item.OfRoutine r) = OfRoutine r.now
item_value (item.OfStmt s) = OfStmt s.now

-- what stands at a place: an item, or what the list of the items that follow has
abbrev pub at_place : List ItemValue → Place → Option ItemValue
at_place rest (place.Here x) = Some (item_value x)
at_place rest (place.Behind i) = slice_get rest i

-- ---- the item that an item stands in

-- what the item at the path stands in; the program stands in nothing
abbrev pub outer_at : List ℕ → Tree → Option ItemValue
outer_at path t = option_and_then (λ outer. tree_at outer t) (front path)

-- the name of the item that the item with this name stands in
abbrev pub parent_of : ℕ → Tree → Option Name
parent_of n t = option_map (λ x. name_of (item_name x)) (option_and_then (λ path. outer_at path t) (path_of n t))

-- ---- sequences of statements: those of compound and of `repeat` statements

-- a kind of statement that contains a sequence
abbrev pub kind_is_sequence : StmtKind-F StmtKind Arm Stmt → Bool
kind_is_sequence (StmtKind-F.Compound stmts) = true
kind_is_sequence (StmtKind-F.Repeat stmts e) = true
kind_is_sequence _ = false

-- an item that contains a sequence
abbrev pub is_sequence : ItemValue → Bool
is_sequence (OfStmt s) = kind_is_sequence (out-StmtKind (out-Stmt s).kind)
is_sequence _ = false

-- the name of what an item stands in, and the item's place there, if that is a sequence
abbrev pub sequence_place : Option ItemValue → Option ℕ → Option (Name × ℕ)
sequence_place (Some x) (Some i) = if is_sequence x then Some (name_of (item_name x), i) else None
sequence_place _ _ = None

-- the statement in whose sequence the item stands, and its place there, counted from 0
abbrev pub sequence_of : ℕ → Tree → Option (Name × ℕ)
sequence_of n t = option_and_then (λ path. sequence_place (outer_at path t) (last_place path)) (path_of n t)
