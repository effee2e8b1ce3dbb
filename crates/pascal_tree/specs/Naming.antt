-- The names of the items of a program: numbers from 1 on, in the order of the text, each item before what it contains.
use Rattle.std.specs.Prelude.{ℕ, ◌+◌, List, [], ◌∷◌, Option, Some, None, map}
use Rattle.pascal_tree.specs.declared.stmt.Stmt.{Stmt, Stmt-F, roll-Stmt, fold-Stmt}
use Rattle.pascal_tree.specs.declared.stmt.StmtKind.{StmtKind, StmtKind-F, fold-StmtKind}
use Rattle.pascal_tree.specs.declared.stmt.Arm.{Arm, Arm-F, roll-Arm, fold-Arm}
use Rattle.pascal_tree.specs.declared.stmt.StmtKind.TheVariants as s
use Rattle.pascal_tree.specs.declared.decl.Decl.{Decl}
use Rattle.pascal_tree.specs.declared.decl.Block.{Block, Block-F, out-Block, roll-Block, fold-Block}
use Rattle.pascal_tree.specs.declared.decl.Routine.{Routine, Routine-F, roll-Routine, fold-Routine}
use Rattle.pascal_tree.specs.declared.program.Tree.{Tree}

-- gives the items of an A the names from a number on, and returns the A and the number after the last name
abbrev pub Numbering : Type 0 → Type 0
Numbering A = ℕ → A × ℕ

-- one item after the other, each with the names after those of the one before it
abbrev pub list_numbering : {A : Type 0} → List (Numbering A) → Numbering (List A)
list_numbering [] n = ([], n)
list_numbering (f ∷ fs) n =
    (let r = f n in
    let rest = list_numbering fs r.1 in
    (r.0 ∷ rest.0, rest.1))

-- a part that may be left out
abbrev pub option_numbering : {A : Type 0} → Option (Numbering A) → Numbering (Option A)
option_numbering None n = (None, n)
option_numbering (Some f) n = (Some (f n).0, (f n).1)

-- ---- statements: one layer of the tree, in which the numbering of each part stands in its place

abbrev pub kind_in_turn : StmtKind-F (Numbering StmtKind) (Numbering Arm) (Numbering Stmt) → Numbering StmtKind
kind_in_turn StmtKind-F.Empty n = (s.Empty, n)
kind_in_turn (StmtKind-F.Assign a e) n = (s.Assign a e, n)
kind_in_turn (StmtKind-F.Call x args) n = (s.Call x args, n)
kind_in_turn (StmtKind-F.Goto label) n = (s.Goto label, n)
kind_in_turn (StmtKind-F.Compound fs) n = (s.Compound (list_numbering fs n).0, (list_numbering fs n).1)
kind_in_turn (StmtKind-F.If e f g) n = (s.If e (f n).0 (option_numbering g (f n).1).0, (option_numbering g (f n).1).1)
kind_in_turn (StmtKind-F.Case e fs) n = (s.Case e (list_numbering fs n).0, (list_numbering fs n).1)
kind_in_turn (StmtKind-F.While e f) n = (s.While e (f n).0, (f n).1)
kind_in_turn (StmtKind-F.Repeat fs e) n = (s.Repeat (list_numbering fs n).0 e, (list_numbering fs n).1)
kind_in_turn (StmtKind-F.For x first down last f) n = (s.For x first down last (f n).0, (f n).1)
kind_in_turn (StmtKind-F.With records f) n = (s.With records (f n).0, (f n).1)

-- the statement itself has the first name
abbrev pub stmt_in_turn : Stmt-F (Numbering StmtKind) (Numbering Arm) (Numbering Stmt) → Numbering Stmt
stmt_in_turn x n = (
  roll-Stmt (record { name = record { 0 = n }; label = x.label; kind = (x.kind (n + 1)).0 }),
  (x.kind (n + 1)).1,
)

-- an arm of a `case` statement is no item and has no name
abbrev pub arm_in_turn : Arm-F (Numbering StmtKind) (Numbering Arm) (Numbering Stmt) → Numbering Arm
arm_in_turn x n = (roll-Arm (record { constants = x.constants; body = (x.body n).0 }), (x.body n).1)

-- the names of a statement and all that it contains; of what is in a statement of this kind, and in an arm
unfoldable pub stmt_numbering : Stmt → Numbering Stmt
stmt_numbering =
    fold-Stmt (Numbering StmtKind) (Numbering Arm) (Numbering Stmt) kind_in_turn arm_in_turn stmt_in_turn

unfoldable pub kind_numbering : StmtKind → Numbering StmtKind
kind_numbering =
    fold-StmtKind (Numbering StmtKind) (Numbering Arm) (Numbering Stmt) kind_in_turn arm_in_turn stmt_in_turn

unfoldable pub arm_numbering : Arm → Numbering Arm
arm_numbering =
    fold-Arm (Numbering StmtKind) (Numbering Arm) (Numbering Stmt) kind_in_turn arm_in_turn stmt_in_turn

-- lists of them
abbrev pub stmts_numbering : List Stmt → Numbering (List Stmt)
stmts_numbering xs = list_numbering (map stmt_numbering xs)

abbrev pub arms_numbering : List Arm → Numbering (List Arm)
arms_numbering xs = list_numbering (map arm_numbering xs)

-- ---- declarations, routines and programs

-- a declaration contains no other item
abbrev pub decl_numbering : Decl → Numbering Decl
decl_numbering d n = (record { name = record { 0 = n }; kind = d.kind }, n + 1)

abbrev pub decls_numbering : List Decl → Numbering (List Decl)
decls_numbering ds = list_numbering (map decl_numbering ds)

-- all labels of a block are one declaration
abbrev pub labels_numbering : Option Decl → Numbering (Option Decl)
labels_numbering None n = (None, n)
labels_numbering (Some d) n = (Some (decl_numbering d n).0, n + 1)

-- a block whose labels have the names from `first` on and whose body those from `last` on; the other parts are given
abbrev pub block_of_ends :
    Option Decl → Stmt → ℕ → ℕ → List Decl → List Decl → List Decl → List Routine → Block × ℕ
block_of_ends labels body first last consts types vars routines = (
  roll-Block (record {
    labels = (labels_numbering labels first).0;
    consts = consts;
    types = types;
    vars = vars;
    routines = routines;
    body = (stmt_numbering body last).0;
  }),
  (stmt_numbering body last).1,
)

-- the same with the labels and the body of a block
abbrev pub block_with_ends : Block → ℕ → ℕ → List Decl → List Decl → List Decl → List Routine → Block × ℕ
block_with_ends b = block_of_ends (out-Block b).labels (out-Block b).body

-- one part of a block after the other, in the order of the text
abbrev pub block_in_turn : Block-F (Numbering Block) (Numbering Routine) → Numbering Block
block_in_turn b n =
    (let consts = decls_numbering b.consts (labels_numbering b.labels n).1 in
    let types = decls_numbering b.types consts.1 in
    let vars = decls_numbering b.vars types.1 in
    let routines = list_numbering b.routines vars.1 in
    block_of_ends b.labels b.body n routines.1 consts.0 types.0 vars.0 routines.0)

-- the routine itself has the first name
abbrev pub routine_in_turn : Routine-F (Numbering Block) (Numbering Routine) → Numbering Routine
routine_in_turn r n =
    (let block = option_numbering r.block (n + 1) in
    (roll-Routine (record { name = record { 0 = n }; heading = r.heading; block = block.0 }), block.1))

-- the names in a block, and those of a routine and all that it contains
unfoldable pub block_numbering : Block → Numbering Block
block_numbering = fold-Block (Numbering Block) (Numbering Routine) block_in_turn routine_in_turn

unfoldable pub routine_numbering : Routine → Numbering Routine
routine_numbering = fold-Routine (Numbering Block) (Numbering Routine) block_in_turn routine_in_turn

abbrev pub routines_numbering : List Routine → Numbering (List Routine)
routines_numbering rs = list_numbering (map routine_numbering rs)

-- the program whose items have the names from 2 on; its own is 1
abbrev pub numbered_program : Tree → Tree
numbered_program p =
    (let block = block_numbering p.block 2 in
    record { ident = p.ident; files = p.files; block = block.0; next = block.1 })
