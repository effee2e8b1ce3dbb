-- The names that the items of a tree bear, in the order of the text, each item before what it contains. A name is a
-- number that identifies an item of a program.
use Rattle.std.specs.Prelude.{◌≡◌, ℕ, ◌+◌, List, [], ◌∷◌, ◌++◌, map, Option, Some, None}
use Rattle.std.specs.List.{concat}
use Rattle.pascal_tree.specs.declared.stmt.Stmt.{Stmt, Stmt-F, out-Stmt, roll-Stmt, fold-Stmt}
use Rattle.pascal_tree.specs.declared.stmt.StmtKind.{StmtKind, StmtKind-F, fold-StmtKind}
use Rattle.pascal_tree.specs.declared.stmt.Arm.{Arm, Arm-F, fold-Arm}
use Rattle.pascal_tree.specs.declared.decl.Decl.{Decl}
use Rattle.pascal_tree.specs.declared.decl.Block.{Block, Block-F, fold-Block}
use Rattle.pascal_tree.specs.declared.decl.Routine.{Routine, Routine-F, fold-Routine}
use Rattle.pascal_tree.specs.declared.program.Tree.{Tree}
use Rattle.pascal_tree.specs.Naming.{Numbering, kind_numbering}

-- the list is the numbers from the first up to, and without, the last, in order
abbrev pub Counts : ℕ → List ℕ → ℕ → Type 0
Counts first [] last = first ≡ last
Counts first (n ∷ ns) last = (n ≡ first) × Counts (first + 1) ns last

-- none where there is no part
abbrev pub any_names : Option (List ℕ) → List ℕ
any_names None = []
any_names (Some names) = names

-- ---- statements: one layer of the tree, in which the names of each part stand in its place

abbrev pub of_kind : StmtKind-F (List ℕ) (List ℕ) (List ℕ) → List ℕ
of_kind StmtKind-F.Empty = []
of_kind (StmtKind-F.Assign a e) = []
of_kind (StmtKind-F.Call x args) = []
of_kind (StmtKind-F.Goto label) = []
of_kind (StmtKind-F.Compound stmts) = concat stmts
of_kind (StmtKind-F.If e first second) = first ++ any_names second
of_kind (StmtKind-F.Case e arms) = concat arms
of_kind (StmtKind-F.While e body) = body
of_kind (StmtKind-F.Repeat stmts e) = concat stmts
of_kind (StmtKind-F.For x first down last body) = body
of_kind (StmtKind-F.With records body) = body

abbrev pub of_stmt : Stmt-F (List ℕ) (List ℕ) (List ℕ) → List ℕ
of_stmt s = s.name.0 ∷ s.kind

-- an arm of a `case` statement is no item: it has no name of its own
abbrev pub of_arm : Arm-F (List ℕ) (List ℕ) (List ℕ) → List ℕ
of_arm a = a.body

-- the names of a statement and all that it contains, of what is in a statement of this kind, and of what is in an arm
unfoldable pub stmt_names : Stmt → List ℕ
stmt_names = fold-Stmt (List ℕ) (List ℕ) (List ℕ) of_kind of_arm of_stmt

unfoldable pub kind_names : StmtKind → List ℕ
kind_names = fold-StmtKind (List ℕ) (List ℕ) (List ℕ) of_kind of_arm of_stmt

unfoldable pub arm_names : Arm → List ℕ
arm_names = fold-Arm (List ℕ) (List ℕ) (List ℕ) of_kind of_arm of_stmt

-- the names of what a statement contains, without its own
abbrev pub names_within : Stmt → List ℕ
names_within s = kind_names (out-Stmt s).kind

-- the statement with this name of its own, and with names from the number on for what it contains
abbrev pub stmt_renaming : ℕ → Stmt → Numbering Stmt
stmt_renaming name s next =
    (let kind = kind_numbering (out-Stmt s).kind next in
    (roll-Stmt (record { name = record { 0 = name }; label = (out-Stmt s).label; kind = kind.0 }), kind.1))

-- ---- declarations, routines and programs

-- one name a declaration, which may declare several identifiers
abbrev pub decl_names : List Decl → List ℕ
decl_names ds = map (λ d. d.name.0) ds

-- all labels of a block are one declaration
abbrev pub label_names : Option Decl → List ℕ
label_names None = []
label_names (Some d) = d.name.0 ∷ []

-- labels, constants, types, variables, routines and the body: the order of 6.2.1 in ISO 7185:1990
abbrev pub of_block : Block-F (List ℕ) (List ℕ) → List ℕ
of_block b =
    label_names b.labels
    ++ (decl_names b.consts ++ (decl_names b.types ++ (decl_names b.vars ++ (concat b.routines ++ stmt_names b.body))))

abbrev pub of_routine : Routine-F (List ℕ) (List ℕ) → List ℕ
of_routine r = r.name.0 ∷ any_names r.block

-- the names in a block, and those of a routine and all that it contains
unfoldable pub block_names : Block → List ℕ
block_names = fold-Block (List ℕ) (List ℕ) of_block of_routine

unfoldable pub routine_names : Routine → List ℕ
routine_names = fold-Routine (List ℕ) (List ℕ) of_block of_routine

-- the names of a program; its own is 1
abbrev pub program_names : Tree → List ℕ
program_names p = 1 ∷ block_names p.block
