-- The rows of a program where an edit at a path changes them: what stands before and after stays.
use Rattle.std.proofs.Common.{◌≡◌, ℕ, zero, suc, ◌+◌, List, [], ◌∷◌, ◌++◌, map, Option, Some, None, refl, ap, ◌∙◌, sym, subst, arith, append_assoc}
use Rattle.std.specs.Prelude.{slice_get, option_and_then}
use Rattle.std.proofs.lemmas.List.{append-nil}
use Rattle.pascal_tree.specs.declared.stmt.Stmt.{Stmt, out-Stmt}
use Rattle.pascal_tree.specs.declared.stmt.StmtKind.{StmtKind, StmtKind-F, out-StmtKind}
use Rattle.pascal_tree.specs.declared.stmt.StmtKind.TheVariants as s
use Rattle.pascal_tree.specs.declared.stmt.Arm.{Arm}
use Rattle.pascal_tree.specs.declared.decl.Block.{Block}
use Rattle.pascal_tree.specs.declared.decl.Routine.{Routine, Routine-F}
use Rattle.pascal_tree.specs.DeclTokens.{heading_tokens}
use Rattle.dice_base.specs.Tokens.{Toks}
use Rattle.pascal_tree.specs.Paths.{ItemValue, OfProgram, OfDecl, OfRoutine, OfStmt, item_children, item_name, item_at}
use Rattle.pascal_tree.specs.Rows.{Row, hole, label_part, own_kind, arm_text, own_text, rows_from, stmt_rows}
use Rattle.program_tree.proofs.Opened.{item_rows, own_row, item_opened}
use Rattle.tree_edit.specs.Place.{change, change_if, change_in_arm, change_in_kind, put_at}
use Rattle.tree_edit.proofs.Among.{Splits, with_front, with_back, same_splits}
use Rattle.tree_edit.proofs.Items.{put_item, item_put, name_put, routine_opened}

-- ---- own texts stay

holes_kept : {A : Type 0} (f : A → A) (i : ℕ) (xs : List A) → map (λ (x : A). hole) (change f i xs) ≡ map (λ (x : A). hole) xs
holes_kept f i [] = refl
holes_kept f zero (x ∷ xs) = refl
holes_kept f (suc i) (x ∷ xs) = ap (λ (texts : List Toks). hole ∷ texts) (holes_kept f i xs)

arms_kept : (f : Stmt → Stmt) (i : ℕ) (arms : List Arm) → map arm_text (change (change_in_arm f) i arms) ≡ map arm_text arms
arms_kept f i [] = refl
arms_kept f zero (a ∷ arms) = refl
arms_kept f (suc i) (a ∷ arms) = ap (λ (texts : List Toks). arm_text a ∷ texts) (arms_kept f i arms)

kind_kept : (f : Stmt → Stmt) (i : ℕ) (x : StmtKind-F StmtKind Arm Stmt) → own_kind arm_text (out-StmtKind (change_in_kind f i x)) ≡ own_kind arm_text x
kind_kept f i StmtKind-F.Empty = rw s.outs-Empty refl
kind_kept f i (StmtKind-F.Assign a e) = rw (s.outs-Assign a e) refl
kind_kept f i (StmtKind-F.Call x args) = rw (s.outs-Call x args) refl
kind_kept f i (StmtKind-F.Goto label) = rw (s.outs-Goto label) refl
kind_kept f i (StmtKind-F.Compound stmts) = rw (s.outs-Compound (change f i stmts), holes_kept f i stmts) refl
kind_kept f i (StmtKind-F.If e a None) = rw (s.outs-If e (change_if f i 0 a) None) refl
kind_kept f i (StmtKind-F.If e a (Some b)) = rw (s.outs-If e (change_if f i 0 a) (Some (change_if f i 1 b))) refl
kind_kept f i (StmtKind-F.Case e arms) = rw (s.outs-Case e (change (change_in_arm f) i arms), arms_kept f i arms) refl
kind_kept f i (StmtKind-F.While e a) = rw (s.outs-While e (change_if f i 0 a)) refl
kind_kept f i (StmtKind-F.Repeat stmts e) = rw (s.outs-Repeat (change f i stmts) e) refl
kind_kept f i (StmtKind-F.For x first down last a) = rw (s.outs-For x first down last (change_if f i 0 a)) refl
kind_kept f i (StmtKind-F.With records a) = rw (s.outs-With records (change_if f i 0 a)) refl

own_put : (i : ℕ) (path : List ℕ) (new : Stmt) (x : ItemValue) → own_text (put_item (i ∷ path) new x) ≡ own_text x
own_put i path new (OfProgram p) = refl
own_put i path new (OfDecl d) = refl
own_put i path new (OfRoutine r) = ap (λ (x : Routine-F Block Routine). heading_tokens x.heading) (routine_opened i path new r)
own_put i path new (OfStmt x) = ap (λ (text : Toks). label_part (out-Stmt x).label ++ text) (kind_kept (put_at path new) i (out-StmtKind (out-Stmt x).kind))

-- ---- one statement's rows among others

abbrev parts_rows : ℕ → List ItemValue → List ℕ → List Row
parts_rows k xs at = rows_from k (map item_rows xs) at

among : (of : Stmt → List Row) (g : Stmt → ItemValue → ItemValue) (old : Stmt) (at : List ℕ) (k i : ℕ) (x : ItemValue) (xs : List ItemValue) → slice_get xs i ≡ Some x
    → Splits of (item_rows x (at ++ ((i + k) ∷ []))) (λ new. item_rows (g new x) (at ++ ((i + k) ∷ []))) old → Splits of (parts_rows k xs at) (λ new. parts_rows k (change (g new) i xs) at) old
among of g old at k i x [] e split = absurd cc
among of g old at k zero x (y ∷ xs) e split =
    (let same : x ≡ y = cc in
    let here : 0 + k ≡ k = omega arith in
    let first = subst (λ (n : ℕ). Splits of (item_rows x (at ++ (n ∷ []))) (λ new. item_rows (g new x) (at ++ (n ∷ []))) old) here split in
    with_back of (parts_rows (k + 1) xs at) (item_rows y (at ++ (k ∷ []))) (λ new. item_rows (g new y) (at ++ (k ∷ []))) old
    (subst (λ (z : ItemValue). Splits of (item_rows z (at ++ (k ∷ []))) (λ new. item_rows (g new z) (at ++ (k ∷ []))) old) same first))
among of g old at k (suc i) x (y ∷ xs) e split =
    (let further : suc i + k ≡ i + (k + 1) = omega arith in
    let next = subst (λ (n : ℕ). Splits of (item_rows x (at ++ (n ∷ []))) (λ new. item_rows (g new x) (at ++ (n ∷ []))) old) further split in
    with_front of (item_rows y (at ++ (k ∷ []))) (parts_rows (k + 1) xs at) (λ new. parts_rows (k + 1) (change (g new) i xs) at) old (among of g old at (k + 1) i x xs e next))

put_opened : (path : List ℕ) (i : ℕ) (new : Stmt) (x : ItemValue) (at : List ℕ) → item_rows (put_item (i ∷ path) new x) at ≡ own_row x at ∷ parts_rows 0 (change (put_item path new) i (item_children x)) at
put_opened path i new x at =
    item_opened (put_item (i ∷ path) new x) at
    ∙ ap (λ (n : ℕ). record { path = at; name = n; own = own_text (put_item (i ∷ path) new x) } ∷ parts_rows 0 (item_children (put_item (i ∷ path) new x)) at) (name_put i path new x)
    ∙ ap (λ (text : Toks). record { path = at; name = item_name x; own = text } ∷ parts_rows 0 (item_children (put_item (i ∷ path) new x)) at) (own_put i path new x)
    ∙ ap (λ (cs : List ItemValue). own_row x at ∷ parts_rows 0 cs at) (item_put i path new x)

abbrev pub rows_at : List ℕ → Stmt → List Row
rows_at place x = stmt_rows x place

inner_part : (place path : List ℕ) (i : ℕ) (old : Stmt) (x : ItemValue) (at : List ℕ) → Splits (rows_at place) (parts_rows 0 (item_children x) at) (λ new. parts_rows 0 (change (put_item path new) i (item_children x)) at) old
    → Splits (rows_at place) (item_rows x at) (λ new. item_rows (put_item (i ∷ path) new x) at) old
inner_part place path i old x at split =
    same_splits (rows_at place) (own_row x at ∷ parts_rows 0 (item_children x) at) (item_rows x at) (λ new. own_row x at ∷ parts_rows 0 (change (put_item path new) i (item_children x)) at) (λ new. item_rows (put_item (i ∷ path) new x) at) old
    (item_opened x at)
    (λ new. put_opened path i new x at)
    (with_front (rows_at place) (own_row x at ∷ []) (parts_rows 0 (item_children x) at) (λ new. parts_rows 0 (change (put_item path new) i (item_children x)) at) old split)

pub rows_split : (path : List ℕ) (old : Stmt) (x : ItemValue) (at : List ℕ) → item_at path x ≡ Some (OfStmt old) → Splits (rows_at (at ++ path)) (item_rows x at) (λ new. item_rows (put_item path new x) at) old
rows_split [] old (OfStmt x) at e =
    (let same : old ≡ x = cc in
    ([], [], rw (same, append-nil at) (sym (append-nil (stmt_rows x at))), λ new. rw (append-nil at) (sym (append-nil (stmt_rows new at)))))
rows_split [] old (OfProgram p) at e = absurd cc
rows_split [] old (OfDecl d) at e = absurd cc
rows_split [] old (OfRoutine r) at e = absurd cc
rows_split (i ∷ path) old x at e = go (slice_get (item_children x) i) refl e (λ y. rows_split path old y (at ++ ((i + 0) ∷ [])))
  where
    further : (at ++ ((i + 0) ∷ [])) ++ path ≡ at ++ (i ∷ path)
    further = (let same : i + 0 ≡ i = omega arith in rw same (append_assoc at (i ∷ []) path))

    go : (child : Option ItemValue) → slice_get (item_children x) i ≡ child → option_and_then (item_at path) child ≡ Some (OfStmt old)
        → ((y : ItemValue) → item_at path y ≡ Some (OfStmt old) → Splits (rows_at ((at ++ ((i + 0) ∷ [])) ++ path)) (item_rows y (at ++ ((i + 0) ∷ []))) (λ new. item_rows (put_item path new y) (at ++ ((i + 0) ∷ []))) old)
        → Splits (rows_at (at ++ (i ∷ path))) (item_rows x at) (λ new. item_rows (put_item (i ∷ path) new x) at) old
    go None is found all = absurd cc
    go (Some y) is found all =
        inner_part (at ++ (i ∷ path)) path i old x at
        (among (rows_at (at ++ (i ∷ path))) (put_item path) old at 0 i y (item_children x) is
        (subst (λ (place : List ℕ). Splits (rows_at place) (item_rows y (at ++ ((i + 0) ∷ []))) (λ new. item_rows (put_item path new y) (at ++ ((i + 0) ∷ []))) old) further (all y found)))
