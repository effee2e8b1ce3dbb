-- Where the items of a program stand: a path is a list of places among the parts of an item, counted from 0. The program
-- itself has the empty path.
use Rattle.std.specs.Prelude.{ℕ, ◌-◌, List, [], ◌∷◌, ◌++◌, length, take, Option, Some, None, map, slice_get, option_and_then, option_to_list}
use Rattle.pascal_tree.specs.declared.stmt.Stmt.{Stmt, out-Stmt}
use Rattle.pascal_tree.specs.declared.stmt.StmtKind.{StmtKind-F, out-StmtKind}
use Rattle.pascal_tree.specs.declared.stmt.Arm.{Arm, out-Arm}
use Rattle.pascal_tree.specs.declared.decl.Decl.{Decl}
use Rattle.pascal_tree.specs.declared.decl.Block.{Block, out-Block}
use Rattle.pascal_tree.specs.declared.decl.Routine.{Routine, out-Routine}
use Rattle.pascal_tree.specs.declared.program.Tree.{Tree}

-- a named item of a program, with all that it contains
pub data ItemValue : Type 0 where
  OfProgram : Tree → ItemValue
  OfDecl : Decl → ItemValue
  OfRoutine : Routine → ItemValue
  OfStmt : Stmt → ItemValue

-- ---- the items directly within an item, in the order of the text

-- the statements of a kind, where it has a K, an A and an S in place of each kind, arm and statement
abbrev pub kind_parts : {K A S : Type 0} → (A → S) → StmtKind-F K A S → List S
kind_parts body (StmtKind-F.Compound stmts) = stmts
kind_parts body (StmtKind-F.If e first second) = first ∷ option_to_list second
kind_parts body (StmtKind-F.Case e arms) = map body arms
kind_parts body (StmtKind-F.While e inner) = inner ∷ []
kind_parts body (StmtKind-F.Repeat stmts e) = stmts
kind_parts body (StmtKind-F.For x first down last inner) = inner ∷ []
kind_parts body (StmtKind-F.With records inner) = inner ∷ []
kind_parts body _ = []

-- the statement of an arm, which is no item itself
abbrev pub arm_body : Arm → Stmt
arm_body arm = (out-Arm arm).body

-- the statements directly within a statement
abbrev pub stmt_children : Stmt → List Stmt
stmt_children s = kind_parts arm_body (out-StmtKind (out-Stmt s).kind)

-- the declarations, routines and body of a block, in the order of ISO 7185:1990, 6.2.1
abbrev pub block_children : Block → List ItemValue
block_children b =
    map OfDecl (option_to_list (out-Block b).labels)
    ++ (map OfDecl (out-Block b).consts
    ++ (map OfDecl (out-Block b).types
    ++ (map OfDecl (out-Block b).vars
    ++ (map OfRoutine (out-Block b).routines ++ OfStmt (out-Block b).body ∷ []))))

-- none where a routine is `forward`
abbrev pub any_children : Option Block → List ItemValue
any_children None = []
any_children (Some b) = block_children b

-- a declaration contains no other item
abbrev pub item_children : ItemValue → List ItemValue
item_children (OfProgram p) = block_children p.block
item_children (OfDecl d) = []
item_children (OfRoutine r) = any_children (out-Routine r).block
item_children (OfStmt s) = map OfStmt (stmt_children s)

-- ---- the item at a path

-- the path is followed from the item on
abbrev pub item_at : List ℕ → ItemValue → Option ItemValue
item_at [] x = Some x
item_at (i ∷ path) x = option_and_then (item_at path) (slice_get (item_children x) i)

-- the path is that of an item in a program
abbrev pub tree_at : List ℕ → Tree → Option ItemValue
tree_at path t = item_at path (OfProgram t)

-- the name of an item; that of the program is 1
abbrev pub item_name : ItemValue → ℕ
item_name (OfProgram p) = 1
item_name (OfDecl d) = d.name.0
item_name (OfRoutine r) = (out-Routine r).name.0
item_name (OfStmt s) = (out-Stmt s).name.0

-- ---- the ends of a path

-- the path of the item around it: without the last place
abbrev pub front : List ℕ → Option (List ℕ)
front [] = None
front (i ∷ path) = Some (take (length path) (i ∷ path))

-- the place of the item among those directly within the item around it
abbrev pub last_place : List ℕ → Option ℕ
last_place path = slice_get path (length path - 1)
