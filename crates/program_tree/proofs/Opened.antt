-- The rows of an item are its own row and those of its parts, one after another.
use Rattle.std.proofs.Common.{◌≡◌, ℕ, List, [], ◌∷◌, ◌++◌, Option, Some, None, map, refl, sym, ap, ◌∙◌, option_to_list, option_map}
use Rattle.pascal_tree.specs.declared.stmt.Stmt.{Stmt, out-Stmt}
use Rattle.pascal_tree.specs.declared.stmt.StmtKind.{StmtKind, StmtKind-F, out-StmtKind}
use Rattle.pascal_tree.specs.declared.stmt.Arm.{Arm}
use Rattle.pascal_tree.specs.declared.stmt.StmtKind.TheFolds.{map-StmtKind, fold_out-StmtKind, fold_out-Arm, fold_out-Stmt}
use Rattle.dice_base.specs.declared.name.Name.{Name}
use Rattle.pascal_tree.specs.declared.decl.Heading.{Heading}
use Rattle.pascal_tree.specs.declared.decl.Decl.{Decl}
use Rattle.pascal_tree.specs.declared.decl.Block.{Block, out-Block}
use Rattle.pascal_tree.specs.declared.decl.Routine.{Routine, Routine-F, out-Routine}
use Rattle.pascal_tree.specs.declared.decl.Block.TheFolds.{map-Routine, fold_out-Routine}
use Rattle.dice_base.specs.Tokens.{Toks}
use Rattle.pascal_tree.specs.Paths.{ItemValue, OfProgram, OfDecl, OfRoutine, OfStmt, kind_parts, arm_body, stmt_children, block_children, any_children, item_children, item_name}
use Rattle.pascal_tree.specs.Rows.{Row, Rows, hole, label_part, own_kind, arm_text, own_stmt, own_text, rows_from, rows_in_kind, rows_in_arm, rows_in_stmt, stmt_rows, kind_rows, arm_rows, decl_rows, any_rows, rows_in_block, rows_in_routine, block_rows, routine_rows}
use Rattle.program_tree.proofs.Added.{block_rows-is}

-- ---- statements

arm_rows-is : (a : Arm) → arm_rows a ≡ (arm_text a, stmt_rows (arm_body a))
unfolding stmt_rows kind_rows arm_rows
arm_rows-is a = fold_out-Arm (Toks × Rows) (Toks × Rows) Rows rows_in_kind rows_in_arm rows_in_stmt a

-- a layer with the rows of its parts
abbrev layer : StmtKind-F StmtKind Arm Stmt → StmtKind-F (Toks × Rows) (Toks × Rows) Rows
layer = map-StmtKind StmtKind Arm Stmt (Toks × Rows) (Toks × Rows) Rows kind_rows arm_rows stmt_rows

kind_rows-is : (k : StmtKind) → kind_rows k ≡ rows_in_kind (layer (out-StmtKind k))
unfolding stmt_rows kind_rows arm_rows
kind_rows-is k = fold_out-StmtKind (Toks × Rows) (Toks × Rows) Rows rows_in_kind rows_in_arm rows_in_stmt k

stmt_rows-is : (s : Stmt) (path : List ℕ) → stmt_rows s path ≡ record { path = path; name = (out-Stmt s).name.0; own = label_part (out-Stmt s).label ++ (kind_rows (out-Stmt s).kind).0 } ∷ (kind_rows (out-Stmt s).kind).1 path
unfolding stmt_rows kind_rows arm_rows
stmt_rows-is s path = ap (λ (f : Rows). f path) (fold_out-Stmt (Toks × Rows) (Toks × Rows) Rows rows_in_kind rows_in_arm rows_in_stmt s)

arm_texts : (arms : List Arm) → map (λ (a : Toks × Rows). a.0) (map arm_rows arms) ≡ map arm_text arms
arm_texts [] = refl
arm_texts (a ∷ arms) = rw (arm_rows-is a, arm_texts arms) refl

arm_parts : (arms : List Arm) → map (λ (a : Toks × Rows). a.1) (map arm_rows arms) ≡ map stmt_rows (map arm_body arms)
arm_parts [] = refl
arm_parts (a ∷ arms) = rw (arm_rows-is a, arm_parts arms) refl

-- each part has a hole, whatever it is
same_holes : {A B C : Type 0} → (f : A → B) (text : C) (xs : List A) → map (λ (x : B). text) (map f xs) ≡ map (λ (x : A). text) xs
same_holes f text [] = refl
same_holes {C} f text (x ∷ xs) = ap (λ (texts : List C). text ∷ texts) (same_holes f text xs)

own_layer : (x : StmtKind-F StmtKind Arm Stmt) → own_kind (λ a. a.0) (layer x) ≡ own_kind arm_text x
own_layer StmtKind-F.Empty = refl
own_layer (StmtKind-F.Assign a e) = refl
own_layer (StmtKind-F.Call f args) = refl
own_layer (StmtKind-F.Goto label) = refl
own_layer (StmtKind-F.Compound stmts) = rw (same_holes stmt_rows hole stmts) refl
own_layer (StmtKind-F.If e first None) = refl
own_layer (StmtKind-F.If e first (Some second)) = refl
own_layer (StmtKind-F.Case e arms) = rw (arm_texts arms) refl
own_layer (StmtKind-F.While e body) = refl
own_layer (StmtKind-F.Repeat stmts e) = refl
own_layer (StmtKind-F.For v first down last body) = refl
own_layer (StmtKind-F.With records body) = refl

parts_layer : (x : StmtKind-F StmtKind Arm Stmt) → kind_parts (λ a. a.1) (layer x) ≡ map stmt_rows (kind_parts arm_body x)
parts_layer StmtKind-F.Empty = refl
parts_layer (StmtKind-F.Assign a e) = refl
parts_layer (StmtKind-F.Call f args) = refl
parts_layer (StmtKind-F.Goto label) = refl
parts_layer (StmtKind-F.Compound stmts) = refl
parts_layer (StmtKind-F.If e first None) = refl
parts_layer (StmtKind-F.If e first (Some second)) = refl
parts_layer (StmtKind-F.Case e arms) = arm_parts arms
parts_layer (StmtKind-F.While e body) = refl
parts_layer (StmtKind-F.Repeat stmts e) = refl
parts_layer (StmtKind-F.For v first down last body) = refl
parts_layer (StmtKind-F.With records body) = refl

pub stmt_opened : (s : Stmt) (path : List ℕ) → stmt_rows s path ≡ record { path = path; name = (out-Stmt s).name.0; own = own_stmt s } ∷ rows_from 0 (map stmt_rows (stmt_children s)) path
stmt_opened s path =
    (let kind = (out-Stmt s).kind in
    let own : (kind_rows kind).0 ≡ own_kind arm_text (out-StmtKind kind) = ap (λ (r : Toks × Rows). r.0) (kind_rows-is kind) ∙ own_layer (out-StmtKind kind) in
    let parts : (kind_rows kind).1 ≡ rows_from 0 (map stmt_rows (stmt_children s)) = ap (λ (r : Toks × Rows). r.1) (kind_rows-is kind) ∙ ap (λ (ps : List Rows). rows_from 0 ps) (parts_layer (out-StmtKind kind)) in
    stmt_rows-is s path ∙ (ap (λ (text : Toks). record { path = path; name = (out-Stmt s).name.0; own = label_part (out-Stmt s).label ++ text } ∷ (kind_rows kind).1 path) own ∙ ap (λ (rows : Rows). record { path = path; name = (out-Stmt s).name.0; own = own_stmt s } ∷ rows path) parts))

-- ---- items

abbrev pub item_rows : ItemValue → Rows
item_rows (OfProgram p) = λ path. record { path = path; name = 1; own = own_text (OfProgram p) } ∷ block_rows p.block path
item_rows (OfDecl d) = decl_rows d
item_rows (OfRoutine r) = routine_rows r
item_rows (OfStmt s) = stmt_rows s

abbrev pub own_row : ItemValue → List ℕ → Row
own_row x path = record { path = path; name = item_name x; own = own_text x }

-- the parts of an item, each as f gives it
pub stmts_mapped : {R : Type 0} (f : ItemValue → R) (xs : List Stmt) → map f (map OfStmt xs) ≡ map (λ x. f (OfStmt x)) xs
stmts_mapped f [] = refl
stmts_mapped {R} f (x ∷ xs) = ap (λ (parts : List R). f (OfStmt x) ∷ parts) (stmts_mapped f xs)

parts_mapped : {R : Type 0} (f : ItemValue → R) (labels consts types vars : List Decl) (routines : List Routine) (body : Stmt)
    → map f (map OfDecl labels ++ (map OfDecl consts ++ (map OfDecl types ++ (map OfDecl vars ++ (map OfRoutine routines ++ (OfStmt body ∷ []))))))
    ≡ map (λ d. f (OfDecl d)) labels ++ (map (λ d. f (OfDecl d)) consts ++ (map (λ d. f (OfDecl d)) types ++ (map (λ d. f (OfDecl d)) vars ++ (map (λ r. f (OfRoutine r)) routines ++ (f (OfStmt body) ∷ [])))))
parts_mapped {R} f (d ∷ ls) cs ts vs rs body = ap (λ (parts : List R). f (OfDecl d) ∷ parts) (parts_mapped f ls cs ts vs rs body)
parts_mapped {R} f [] (d ∷ cs) ts vs rs body = ap (λ (parts : List R). f (OfDecl d) ∷ parts) (parts_mapped f [] cs ts vs rs body)
parts_mapped {R} f [] [] (d ∷ ts) vs rs body = ap (λ (parts : List R). f (OfDecl d) ∷ parts) (parts_mapped f [] [] ts vs rs body)
parts_mapped {R} f [] [] [] (d ∷ vs) rs body = ap (λ (parts : List R). f (OfDecl d) ∷ parts) (parts_mapped f [] [] [] vs rs body)
parts_mapped {R} f [] [] [] [] (r ∷ rs) body = ap (λ (parts : List R). f (OfRoutine r) ∷ parts) (parts_mapped f [] [] [] [] rs body)
parts_mapped f [] [] [] [] [] body = refl

pub block_mapped : {R : Type 0} (f : ItemValue → R) (b : Block) → map f (block_children b)
    ≡ map (λ d. f (OfDecl d)) (option_to_list (out-Block b).labels) ++ (map (λ d. f (OfDecl d)) (out-Block b).consts ++ (map (λ d. f (OfDecl d)) (out-Block b).types ++ (map (λ d. f (OfDecl d)) (out-Block b).vars ++ (map (λ r. f (OfRoutine r)) (out-Block b).routines ++ (f (OfStmt (out-Block b).body) ∷ [])))))
block_mapped f b = parts_mapped f (option_to_list (out-Block b).labels) (out-Block b).consts (out-Block b).types (out-Block b).vars (out-Block b).routines (out-Block b).body

block_opened : (b : Block) (path : List ℕ) → block_rows b path ≡ rows_from 0 (map item_rows (block_children b)) path
block_opened b path = block_rows-is b path ∙ ap (λ (parts : List Rows). rows_from 0 parts path) (sym (block_mapped item_rows b))

any_opened : (b : Option Block) (path : List ℕ) → any_rows (option_map block_rows b) path ≡ rows_from 0 (map item_rows (any_children b)) path
any_opened None path = refl
any_opened (Some b) path = block_opened b path

-- a routine with the rows of its block
abbrev routine_layer : Routine-F Block Routine → Routine-F Rows Rows
routine_layer = map-Routine Block Routine Rows Rows block_rows routine_rows

routine_rows-is : (r : Routine) (path : List ℕ) → routine_rows r path ≡ rows_in_routine (routine_layer (out-Routine r)) path
unfolding block_rows routine_rows
routine_rows-is r path = ap (λ (f : Rows). f path) (fold_out-Routine Rows Rows rows_in_block rows_in_routine r)

block_of_layer : (name : Name) (heading : Heading) (b : Option Block) (path : List ℕ) → any_rows (routine_layer (record { name = name; heading = heading; block = b })).block path ≡ any_rows (option_map block_rows b) path
block_of_layer name heading None path = refl
block_of_layer name heading (Some b) path = refl

pub item_opened : (x : ItemValue) (path : List ℕ) → item_rows x path ≡ own_row x path ∷ rows_from 0 (map item_rows (item_children x)) path
item_opened (OfProgram p) path = ap (λ (rows : List Row). own_row (OfProgram p) path ∷ rows) (block_opened p.block path)
item_opened (OfDecl d) path = refl
item_opened (OfRoutine r) path =
    routine_rows-is r path ∙ ap (λ (rows : List Row). own_row (OfRoutine r) path ∷ rows) (block_of_layer (out-Routine r).name (out-Routine r).heading (out-Routine r).block path ∙ any_opened (out-Routine r).block path)
item_opened (OfStmt s) path =
    stmt_opened s path ∙ ap (λ (parts : List Rows). own_row (OfStmt s) path ∷ rows_from 0 parts path) (sym (stmts_mapped item_rows (stmt_children s)))
