-- The rows of a program have the names of its items, in the order of the text.
use Rattle.std.proofs.Common.{◌≡◌, ℕ, ◌+◌, List, [], ◌∷◌, ◌++◌, Option, Some, None, map, eqb, refl, sym, ap, subst, ◌∙◌, append-nil, append_assoc, option_to_list}
use Rattle.std.specs.List.{AllByRecursion, IsDistinct, concat}
use Rattle.std.proofs.lemmas.List.{map-append}
use Rattle.pascal_tree.specs.declared.stmt.Stmt.{Stmt, out-Stmt}
use Rattle.pascal_tree.specs.declared.stmt.StmtKind.{StmtKind, StmtKind-F, out-StmtKind}
use Rattle.pascal_tree.specs.declared.stmt.Arm.{Arm}
use Rattle.pascal_tree.specs.declared.stmt.StmtKind.TheFolds.{map-StmtKind, fold_out-StmtKind, fold_out-Arm, fold_out-Stmt}
use Rattle.dice_base.specs.declared.name.Name.{Name}
use Rattle.pascal_tree.specs.declared.decl.Heading.{Heading}
use Rattle.pascal_tree.specs.declared.decl.Decl.{Decl}
use Rattle.pascal_tree.specs.declared.decl.Block.{Block, out-Block}
use Rattle.pascal_tree.specs.declared.decl.Routine.{Routine, Routine-F, out-Routine}
use Rattle.pascal_tree.specs.declared.decl.Block.TheFolds.{map-Routine, fold_out-Block, fold_out-Routine}
use Rattle.pascal_tree.specs.declared.program.Tree.{Tree}
use Rattle.pascal_tree.specs.Names.{any_names, of_kind, of_arm, of_stmt, stmt_names, kind_names, arm_names, decl_names, label_names, of_block, of_routine, block_names, routine_names, program_names}
use Rattle.pascal_tree.specs.Paths.{ItemValue, OfProgram, OfDecl, OfRoutine, OfStmt, kind_parts, arm_body, stmt_children, block_children, any_children, item_children, item_name}
use Rattle.pascal_tree.specs.Rows.{Row, rows_from, stmt_rows, program_rows}
use Rattle.program_tree.specs.Named.{IsProgram}
use Rattle.program_tree.proofs.Induction.{stmt_has, tree_has}
use Rattle.program_tree.proofs.Opened.{item_rows, item_opened, stmts_mapped}

-- ---- statements

arm_names-is : (a : Arm) → arm_names a ≡ stmt_names (arm_body a)
unfolding stmt_names kind_names arm_names
arm_names-is a = fold_out-Arm (List ℕ) (List ℕ) (List ℕ) of_kind of_arm of_stmt a

-- a layer with the names of its parts
abbrev layer : StmtKind-F StmtKind Arm Stmt → StmtKind-F (List ℕ) (List ℕ) (List ℕ)
layer = map-StmtKind StmtKind Arm Stmt (List ℕ) (List ℕ) (List ℕ) kind_names arm_names stmt_names

kind_names-is : (k : StmtKind) → kind_names k ≡ of_kind (layer (out-StmtKind k))
unfolding stmt_names kind_names arm_names
kind_names-is k = fold_out-StmtKind (List ℕ) (List ℕ) (List ℕ) of_kind of_arm of_stmt k

pub stmt_names-is : (s : Stmt) → stmt_names s ≡ (out-Stmt s).name.0 ∷ kind_names (out-Stmt s).kind
unfolding stmt_names kind_names arm_names
stmt_names-is s = fold_out-Stmt (List ℕ) (List ℕ) (List ℕ) of_kind of_arm of_stmt s

arms_names : (arms : List Arm) → concat (map arm_names arms) ≡ concat (map stmt_names (map arm_body arms))
arms_names [] = refl
arms_names (a ∷ arms) = rw (arm_names-is a, arms_names arms) refl

one_list : (ns : List ℕ) → ns ≡ ns ++ []
one_list ns = sym (append-nil ns)

parts_names : (x : StmtKind-F StmtKind Arm Stmt) → of_kind (layer x) ≡ concat (map stmt_names (kind_parts arm_body x))
parts_names StmtKind-F.Empty = refl
parts_names (StmtKind-F.Assign a e) = refl
parts_names (StmtKind-F.Call f args) = refl
parts_names (StmtKind-F.Goto label) = refl
parts_names (StmtKind-F.Compound stmts) = refl
parts_names (StmtKind-F.If e first None) = refl
parts_names (StmtKind-F.If e first (Some second)) = ap (λ (ns : List ℕ). stmt_names first ++ ns) (one_list (stmt_names second))
parts_names (StmtKind-F.Case e arms) = arms_names arms
parts_names (StmtKind-F.While e body) = one_list (stmt_names body)
parts_names (StmtKind-F.Repeat stmts e) = refl
parts_names (StmtKind-F.For v first down last body) = one_list (stmt_names body)
parts_names (StmtKind-F.With records body) = one_list (stmt_names body)

-- ---- items

abbrev item_names : ItemValue → List ℕ
item_names (OfProgram p) = program_names p
item_names (OfDecl d) = d.name.0 ∷ []
item_names (OfRoutine r) = routine_names r
item_names (OfStmt s) = stmt_names s

label_names-is : (labels : Option Decl) → label_names labels ≡ decl_names (option_to_list labels)
label_names-is None = refl
label_names-is (Some d) = refl

items_names : (labels consts types vars : List Decl) (routines : List Routine) (body : Stmt)
    → concat (map item_names (map OfDecl labels ++ (map OfDecl consts ++ (map OfDecl types ++ (map OfDecl vars ++ (map OfRoutine routines ++ (OfStmt body ∷ []))))))) ≡ decl_names labels ++ (decl_names consts ++ (decl_names types ++ (decl_names vars ++ (concat (map routine_names routines) ++ stmt_names body))))
items_names (d ∷ ls) cs ts vs rs body = ap (λ (ns : List ℕ). d.name.0 ∷ ns) (items_names ls cs ts vs rs body)
items_names [] (d ∷ cs) ts vs rs body = ap (λ (ns : List ℕ). d.name.0 ∷ ns) (items_names [] cs ts vs rs body)
items_names [] [] (d ∷ ts) vs rs body = ap (λ (ns : List ℕ). d.name.0 ∷ ns) (items_names [] [] ts vs rs body)
items_names [] [] [] (d ∷ vs) rs body = ap (λ (ns : List ℕ). d.name.0 ∷ ns) (items_names [] [] [] vs rs body)
items_names [] [] [] [] (r ∷ rs) body =
    ap (λ (ns : List ℕ). routine_names r ++ ns) (items_names [] [] [] [] rs body) ∙ sym (append_assoc (routine_names r) (concat (map routine_names rs)) (stmt_names body))
items_names [] [] [] [] [] body = append-nil (stmt_names body)

block_names-is : (b : Block) → block_names b ≡ label_names (out-Block b).labels ++ (decl_names (out-Block b).consts ++ (decl_names (out-Block b).types ++ (decl_names (out-Block b).vars ++ (concat (map routine_names (out-Block b).routines) ++ stmt_names (out-Block b).body))))
unfolding block_names routine_names
block_names-is b = fold_out-Block (List ℕ) (List ℕ) of_block of_routine b

block_opened : (b : Block) → block_names b ≡ concat (map item_names (block_children b))
block_opened b =
    block_names-is b ∙ (ap (λ (ns : List ℕ). ns ++ (decl_names (out-Block b).consts ++ (decl_names (out-Block b).types ++ (decl_names (out-Block b).vars ++ (concat (map routine_names (out-Block b).routines) ++ stmt_names (out-Block b).body))))) (label_names-is (out-Block b).labels) ∙ sym (items_names (option_to_list (out-Block b).labels) (out-Block b).consts (out-Block b).types (out-Block b).vars (out-Block b).routines (out-Block b).body))

-- a routine with the names of its block
abbrev routine_layer : Routine-F Block Routine → Routine-F (List ℕ) (List ℕ)
routine_layer = map-Routine Block Routine (List ℕ) (List ℕ) block_names routine_names

routine_names-is : (r : Routine) → routine_names r ≡ of_routine (routine_layer (out-Routine r))
unfolding block_names routine_names
routine_names-is r = fold_out-Routine (List ℕ) (List ℕ) of_block of_routine r

any_opened : (name : Name) (heading : Heading) (b : Option Block) → any_names (routine_layer (record { name = name; heading = heading; block = b })).block ≡ concat (map item_names (any_children b))
any_opened name heading None = refl
any_opened name heading (Some b) = block_opened b

names_opened : (x : ItemValue) → item_names x ≡ item_name x ∷ concat (map item_names (item_children x))
names_opened (OfProgram p) = ap (λ (ns : List ℕ). 1 ∷ ns) (block_opened p.block)
names_opened (OfDecl d) = refl
names_opened (OfRoutine r) = routine_names-is r ∙ ap (λ (ns : List ℕ). (out-Routine r).name.0 ∷ ns) (any_opened (out-Routine r).name (out-Routine r).heading (out-Routine r).block)
names_opened (OfStmt s) =
    stmt_names-is s ∙ ap (λ (ns : List ℕ). (out-Stmt s).name.0 ∷ ns) (kind_names-is (out-Stmt s).kind ∙ (parts_names (out-StmtKind (out-Stmt s).kind) ∙ ap (λ (parts : List (List ℕ)). concat parts) (sym (stmts_mapped item_names (stmt_children s)))))

-- ---- rows

abbrev names_in : List Row → List ℕ
names_in rows = map (λ r. r.name) rows

abbrev Agrees : ItemValue → Type 0
Agrees x = (path : List ℕ) → names_in (item_rows x path) ≡ item_names x

among : (xs : List ItemValue) (at : ℕ) (path : List ℕ) → AllByRecursion Agrees xs → names_in (rows_from at (map item_rows xs) path) ≡ concat (map item_names xs)
among [] at path h = refl
among (x ∷ xs) at path h =
    map-append (λ (r : Row). r.name) (item_rows x (path ++ (at ∷ []))) (rows_from (at + 1) (map item_rows xs) path) ∙ (ap (λ (ns : List ℕ). ns ++ names_in (rows_from (at + 1) (map item_rows xs) path)) (h.0 (path ++ (at ∷ []))) ∙ ap (λ (ns : List ℕ). item_names x ++ ns) (among xs (at + 1) path h.1))

by_parts : (x : ItemValue) → AllByRecursion Agrees (item_children x) → Agrees x
by_parts x h path =
    ap (λ (rows : List Row). names_in rows) (item_opened x path) ∙ (ap (λ (ns : List ℕ). item_name x ∷ ns) (among (item_children x) 0 path h) ∙ sym (names_opened x))

pub row_names : (t : Tree) → map (λ (r : Row). r.name) (program_rows t) ≡ program_names t
row_names t = tree_has Agrees by_parts t []

pub stmt_row_names : (s : Stmt) (path : List ℕ) → map (λ (r : Row). r.name) (stmt_rows s path) ≡ stmt_names s
stmt_row_names s path = stmt_has Agrees by_parts s path

pub once_each : (t : Tree) → IsProgram t → IsDistinct eqb (map (λ (r : Row). r.name) (program_rows t))
once_each t h = subst (λ (ns : List ℕ). IsDistinct eqb ns) (sym (row_names t)) h.named.differ
