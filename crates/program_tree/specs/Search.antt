-- The search of a tree for the item with a name, in the order of the text, each item before what it contains. It gives the
-- path from where it begins to the first such item: so it needs no word of what items say, and no list of them.
use Rattle.std.specs.Prelude.{ℕ, ◌+◌, ◌==◌, if◌then◌else◌, List, [], ◌∷◌, ◌++◌, Option, Some, None, map, option_map, option_to_list}
use Rattle.std.specs.Option.{option_or}
use Rattle.pascal_tree.specs.declared.stmt.Stmt.{Stmt, Stmt-F, fold-Stmt}
use Rattle.pascal_tree.specs.declared.stmt.StmtKind.{StmtKind, StmtKind-F, fold-StmtKind}
use Rattle.pascal_tree.specs.declared.stmt.Arm.{Arm, Arm-F, fold-Arm}
use Rattle.pascal_tree.specs.declared.decl.Decl.{Decl}
use Rattle.pascal_tree.specs.declared.decl.Block.{Block, Block-F, fold-Block}
use Rattle.pascal_tree.specs.declared.decl.Routine.{Routine, Routine-F, fold-Routine}
use Rattle.pascal_tree.specs.declared.program.Tree.{Tree}
use Rattle.pascal_tree.specs.Paths.{kind_parts}

-- from a name to the path of the item that bears it
abbrev pub Search : Type 0
Search = ℕ → Option (List ℕ)

-- an item with this name, and then what it contains
abbrev pub path_from_item : ℕ → Search → Search
path_from_item name inside n = if name == n then Some [] else inside n

-- parts one after another, of which the first stands at this place
abbrev pub path_among : ℕ → List Search → Search
path_among i [] n = None
path_among i (part ∷ parts) n = option_or (option_map (λ path. i ∷ path) (part n)) (path_among (i + 1) parts n)

-- ---- statements; in the place of each part stands its search

abbrev pub path_in_kind : StmtKind-F Search Search Search → Search
path_in_kind kind = path_among 0 (kind_parts (λ arm. arm) kind)

abbrev pub path_in_arm : Arm-F Search Search Search → Search
path_in_arm arm = arm.body

abbrev pub path_in_stmt : Stmt-F Search Search Search → Search
path_in_stmt s = path_from_item s.name.0 s.kind

unfoldable pub stmt_path : Stmt → Search
stmt_path = fold-Stmt Search Search Search path_in_kind path_in_arm path_in_stmt

unfoldable pub kind_path : StmtKind → Search
kind_path = fold-StmtKind Search Search Search path_in_kind path_in_arm path_in_stmt

unfoldable pub arm_path : Arm → Search
arm_path = fold-Arm Search Search Search path_in_kind path_in_arm path_in_stmt

-- ---- declarations, routines and programs

-- a declaration contains no item
abbrev pub decl_path : Decl → Search
decl_path d = path_from_item d.name.0 (λ n. None)

abbrev pub path_in_block : Block-F Search Search → Search
path_in_block b =
    path_among 0
    (map decl_path (option_to_list b.labels)
    ++ (map decl_path b.consts
    ++ (map decl_path b.types ++ (map decl_path b.vars ++ (b.routines ++ (stmt_path b.body ∷ []))))))

-- a forward heading has no block
abbrev pub path_in_any : Option Search → Search
path_in_any None n = None
path_in_any (Some block) n = block n

abbrev pub path_in_routine : Routine-F Search Search → Search
path_in_routine r = path_from_item r.name.0 (path_in_any r.block)

unfoldable pub block_path : Block → Search
block_path = fold-Block Search Search path_in_block path_in_routine

unfoldable pub routine_path : Routine → Search
routine_path = fold-Routine Search Search path_in_block path_in_routine

-- from the program, whose name is 1
abbrev pub path_of : ℕ → Tree → Option (List ℕ)
path_of n t = path_from_item 1 (block_path t.block) n
