-- Names that are given in turn change nothing else in the rows of a statement.
use Rattle.std.proofs.Common.{◌≡◌, ℕ, ◌+◌, List, [], ◌∷◌, ◌++◌, Some, None, map, refl, sym, ap, ◌∙◌}
use Rattle.std.specs.List.{AllByRecursion}
use Rattle.std.proofs.lemmas.List.{map-append}
use Rattle.pascal_tree.specs.declared.stmt.Stmt.{Stmt, Stmt-F, out-Stmt, out-roll-Stmt}
use Rattle.pascal_tree.specs.declared.stmt.StmtKind.{StmtKind, StmtKind-F, out-StmtKind}
use Rattle.pascal_tree.specs.declared.stmt.StmtKind.TheVariants as s
use Rattle.pascal_tree.specs.declared.stmt.StmtKind.TheFolds.{map-StmtKind, fold_out-StmtKind, fold_out-Arm, fold_out-Stmt}
use Rattle.pascal_tree.specs.declared.stmt.Arm.{Arm, Arm-F, out-Arm, out-roll-Arm}
use Rattle.pascal_tree.specs.Naming.{Numbering, list_numbering, kind_in_turn, arm_in_turn, stmt_in_turn, stmt_numbering, kind_numbering, arm_numbering}
use Rattle.pascal_tree.specs.Names.{stmt_renaming}
use Rattle.pascal_tree.specs.Paths.{ItemValue, OfProgram, OfDecl, OfRoutine, OfStmt, kind_parts, arm_body, stmt_children, item_children}
use Rattle.dice_base.specs.Tokens.{Toks}
use Rattle.pascal_tree.specs.Rows.{Row, arm_text, hole, label_part, own_arm, own_kind, rows_from, stmt_rows}
use Rattle.program_tree.proofs.Induction.{stmt_has}
use Rattle.program_tree.proofs.Opened.{stmt_opened}
use Rattle.tree_edit.specs.Edited.{unnamed_row}

-- ---- the parts of a numbered statement

abbrev pub layer : StmtKind-F StmtKind Arm Stmt → StmtKind-F (Numbering StmtKind) (Numbering Arm) (Numbering Stmt)
layer = map-StmtKind StmtKind Arm Stmt (Numbering StmtKind) (Numbering Arm) (Numbering Stmt) kind_numbering arm_numbering stmt_numbering

pub kind_numbering-is : (k : StmtKind) (n : ℕ) → kind_numbering k n ≡ kind_in_turn (layer (out-StmtKind k)) n
unfolding stmt_numbering kind_numbering arm_numbering
kind_numbering-is k n = ap (λ (f : Numbering StmtKind). f n) (fold_out-StmtKind (Numbering StmtKind) (Numbering Arm) (Numbering Stmt) kind_in_turn arm_in_turn stmt_in_turn k)

abbrev numbered_arm : Arm → Numbering Stmt → Numbering Arm
numbered_arm a body = arm_in_turn (record { constants = (out-Arm a).constants; body = body })

arm_numbering-is : (a : Arm) (n : ℕ) → arm_numbering a n ≡ numbered_arm a (stmt_numbering (arm_body a)) n
unfolding stmt_numbering kind_numbering arm_numbering
arm_numbering-is a n = ap (λ (f : Numbering Arm). f n) (fold_out-Arm (Numbering StmtKind) (Numbering Arm) (Numbering Stmt) kind_in_turn arm_in_turn stmt_in_turn a)

pub stmt_numbering-is : (x : Stmt) (n : ℕ) → (stmt_numbering x n).0 ≡ (stmt_renaming n x (n + 1)).0
unfolding stmt_numbering kind_numbering arm_numbering
stmt_numbering-is x n = ap (λ (f : Numbering Stmt). (f n).0) (fold_out-Stmt (Numbering StmtKind) (Numbering Arm) (Numbering Stmt) kind_in_turn arm_in_turn stmt_in_turn x)

abbrev pub stmts_in_turn : List Stmt → ℕ → List Stmt
stmts_in_turn xs n = (list_numbering (map stmt_numbering xs) n).0

abbrev pub arms_in_turn : List Arm → ℕ → List Arm
arms_in_turn arms n = (list_numbering (map arm_numbering arms) n).0

abbrev arm_layer : Arm → ℕ → Arm-F StmtKind Arm Stmt
arm_layer a n = record { constants = (out-Arm a).constants; body = (stmt_numbering (arm_body a) n).0 }

pub arm_bodies : (arms : List Arm) (n : ℕ) → map arm_body (arms_in_turn arms n) ≡ stmts_in_turn (map arm_body arms) n
arm_bodies [] n = refl
arm_bodies (a ∷ arms) n =
    rw (arm_numbering-is a n, arm_bodies arms (stmt_numbering (arm_body a) n).1)
    (ap (λ (x : Arm-F StmtKind Arm Stmt). x.body ∷ stmts_in_turn (map arm_body arms) (stmt_numbering (arm_body a) n).1) (out-roll-Arm (arm_layer a n)))

arm_texts : (arms : List Arm) (n : ℕ) → map arm_text (arms_in_turn arms n) ≡ map arm_text arms
arm_texts [] n = refl
arm_texts (a ∷ arms) n =
    rw (arm_numbering-is a n, arm_texts arms (stmt_numbering (arm_body a) n).1)
    (ap (λ (x : Arm-F StmtKind Arm Stmt). own_arm x.constants ∷ map arm_text arms) (out-roll-Arm (arm_layer a n)))

turn_holes : (xs : List Stmt) (n : ℕ) → map (λ (x : Stmt). hole) (stmts_in_turn xs n) ≡ map (λ (x : Stmt). hole) xs
turn_holes [] n = refl
turn_holes (x ∷ xs) n = ap (λ (texts : List Toks). hole ∷ texts) (turn_holes xs (stmt_numbering x n).1)

kind_parts-numbered : (x : StmtKind-F StmtKind Arm Stmt) (n : ℕ) → kind_parts arm_body (out-StmtKind (kind_in_turn (layer x) n).0) ≡ stmts_in_turn (kind_parts arm_body x) n
kind_parts-numbered StmtKind-F.Empty n = rw s.outs-Empty refl
kind_parts-numbered (StmtKind-F.Assign a e) n = rw (s.outs-Assign a e) refl
kind_parts-numbered (StmtKind-F.Call x args) n = rw (s.outs-Call x args) refl
kind_parts-numbered (StmtKind-F.Goto label) n = rw (s.outs-Goto label) refl
kind_parts-numbered (StmtKind-F.Compound stmts) n = rw (s.outs-Compound (stmts_in_turn stmts n)) refl
kind_parts-numbered (StmtKind-F.If e a None) n = rw (s.outs-If e (stmt_numbering a n).0 None) refl
kind_parts-numbered (StmtKind-F.If e a (Some b)) n = rw (s.outs-If e (stmt_numbering a n).0 (Some (stmt_numbering b (stmt_numbering a n).1).0)) refl
kind_parts-numbered (StmtKind-F.Case e arms) n = rw (s.outs-Case e (arms_in_turn arms n)) (arm_bodies arms n)
kind_parts-numbered (StmtKind-F.While e a) n = rw (s.outs-While e (stmt_numbering a n).0) refl
kind_parts-numbered (StmtKind-F.Repeat stmts e) n = rw (s.outs-Repeat (stmts_in_turn stmts n) e) refl
kind_parts-numbered (StmtKind-F.For x first down last a) n = rw (s.outs-For x first down last (stmt_numbering a n).0) refl
kind_parts-numbered (StmtKind-F.With records a) n = rw (s.outs-With records (stmt_numbering a n).0) refl

own_kind-numbered : (x : StmtKind-F StmtKind Arm Stmt) (n : ℕ) → own_kind arm_text (out-StmtKind (kind_in_turn (layer x) n).0) ≡ own_kind arm_text x
own_kind-numbered StmtKind-F.Empty n = rw s.outs-Empty refl
own_kind-numbered (StmtKind-F.Assign a e) n = rw (s.outs-Assign a e) refl
own_kind-numbered (StmtKind-F.Call x args) n = rw (s.outs-Call x args) refl
own_kind-numbered (StmtKind-F.Goto label) n = rw (s.outs-Goto label) refl
own_kind-numbered (StmtKind-F.Compound stmts) n = rw (s.outs-Compound (stmts_in_turn stmts n), turn_holes stmts n) refl
own_kind-numbered (StmtKind-F.If e a None) n = rw (s.outs-If e (stmt_numbering a n).0 None) refl
own_kind-numbered (StmtKind-F.If e a (Some b)) n = rw (s.outs-If e (stmt_numbering a n).0 (Some (stmt_numbering b (stmt_numbering a n).1).0)) refl
own_kind-numbered (StmtKind-F.Case e arms) n = rw (s.outs-Case e (arms_in_turn arms n), arm_texts arms n) refl
own_kind-numbered (StmtKind-F.While e a) n = rw (s.outs-While e (stmt_numbering a n).0) refl
own_kind-numbered (StmtKind-F.Repeat stmts e) n = rw (s.outs-Repeat (stmts_in_turn stmts n) e) refl
own_kind-numbered (StmtKind-F.For x first down last a) n = rw (s.outs-For x first down last (stmt_numbering a n).0) refl
own_kind-numbered (StmtKind-F.With records a) n = rw (s.outs-With records (stmt_numbering a n).0) refl

-- ---- rows

abbrev unnamed : List Row → List Row
unnamed rows = map unnamed_row rows

-- a statement with other names inside it and of its own
abbrev Renames : Stmt → Type 0
Renames x = (name n : ℕ) (path : List ℕ) → unnamed (stmt_rows (stmt_renaming name x n).0 path) ≡ unnamed (stmt_rows x path)

abbrev ItemRenames : ItemValue → Type 0
ItemRenames (OfStmt x) = Renames x
ItemRenames (OfProgram p) = Unit {0}
ItemRenames (OfDecl d) = Unit {0}
ItemRenames (OfRoutine r) = Unit {0}

turn_rows : (xs : List Stmt) (i n : ℕ) (path : List ℕ) → AllByRecursion ItemRenames (map OfStmt xs) → unnamed (rows_from i (map stmt_rows (stmts_in_turn xs n)) path) ≡ unnamed (rows_from i (map stmt_rows xs) path)
turn_rows [] i n path h = refl
turn_rows (x ∷ xs) i n path h =
    (let at = path ++ (i ∷ []) in
    let last = (stmt_numbering x n).1 in
    let later = rows_from (i + 1) (map stmt_rows (stmts_in_turn xs last)) path in
    map-append unnamed_row (stmt_rows (stmt_numbering x n).0 at) later
    ∙ ap (λ (y : Stmt). unnamed (stmt_rows y at) ++ unnamed later) (stmt_numbering-is x n)
    ∙ ap (λ (rows : List Row). rows ++ unnamed later) (h.0 n (n + 1) at)
    ∙ ap (λ (rows : List Row). unnamed (stmt_rows x at) ++ rows) (turn_rows xs (i + 1) last path h.1)
    ∙ sym (map-append unnamed_row (stmt_rows x at) (rows_from (i + 1) (map stmt_rows xs) path)))

-- the rows of a statement, from its layer
abbrev opened_rows : Stmt-F StmtKind Arm Stmt → List ℕ → List Row
opened_rows x path =
    record { path = path; name = x.name.0; own = label_part x.label ++ own_kind arm_text (out-StmtKind x.kind) } ∷ rows_from 0 (map stmt_rows (kind_parts arm_body (out-StmtKind x.kind))) path

-- the outermost layer of the statement with this name, and with names from n on inside it
abbrev renaming_layer : ℕ → Stmt → ℕ → Stmt-F StmtKind Arm Stmt
renaming_layer name x n = record { name = record { 0 = name }; label = (out-Stmt x).label; kind = (kind_numbering (out-Stmt x).kind n).0 }

kind_renamed : (x : Stmt) (name n : ℕ) (path : List ℕ) → AllByRecursion ItemRenames (map OfStmt (stmt_children x))
    → unnamed (opened_rows (renaming_layer name x n) path) ≡ unnamed (stmt_rows x path)
kind_renamed x name n path h =
    (let kind = out-StmtKind (out-Stmt x).kind in
    let row : Toks → Row = λ text. record { path = path; name = 0; own = label_part (out-Stmt x).label ++ text } in
    let rest : List Stmt → List Row = λ xs. unnamed (rows_from 0 (map stmt_rows xs) path) in
    ap (λ (r : StmtKind × ℕ). row (own_kind arm_text (out-StmtKind r.0)) ∷ rest (kind_parts arm_body (out-StmtKind r.0))) (kind_numbering-is (out-Stmt x).kind n)
    ∙ ap (λ (text : Toks). row text ∷ rest (kind_parts arm_body (out-StmtKind (kind_in_turn (layer kind) n).0))) (own_kind-numbered kind n)
    ∙ ap (λ (xs : List Stmt). row (own_kind arm_text kind) ∷ rest xs) (kind_parts-numbered kind n)
    ∙ ap (λ (rows : List Row). row (own_kind arm_text kind) ∷ rows) (turn_rows (stmt_children x) 0 n path h)
    ∙ ap unnamed (sym (stmt_opened x path)))

renames : (x : Stmt) → AllByRecursion ItemRenames (map OfStmt (stmt_children x)) → Renames x
renames x h name n path =
    ap unnamed (stmt_opened (stmt_renaming name x n).0 path)
    ∙ ap (λ (y : Stmt-F StmtKind Arm Stmt). unnamed (opened_rows y path)) (out-roll-Stmt (renaming_layer name x n))
    ∙ kind_renamed x name n path h

pub renamed_rows : (name : ℕ) (x : Stmt) (n : ℕ) (path : List ℕ) → unnamed (stmt_rows (stmt_renaming name x n).0 path) ≡ unnamed (stmt_rows x path)
renamed_rows name x n path = stmt_has ItemRenames from x name n path
  where
    from : (y : ItemValue) → AllByRecursion ItemRenames (item_children y) → ItemRenames y
    from (OfStmt y) h = renames y h
    from (OfProgram p) h = tt
    from (OfDecl d) h = tt
    from (OfRoutine r) h = tt
