-- Names that are given in turn are numbers in turn.
use Rattle.std.proofs.Common.{◌≡◌, ℕ, Bool, ◌+◌, List, [], ◌∷◌, ◌++◌, Some, None, map, refl, sym, ap, subst, ◌∙◌, append-nil}
use Rattle.std.specs.List.{concat}
use Rattle.pascal_tree.specs.declared.expr.Access.{Access}
use Rattle.pascal_tree.specs.declared.expr.Arg.{Arg}
use Rattle.pascal_tree.specs.declared.expr.Expr.{Expr}
use Rattle.pascal_tree.specs.declared.stmt.Stmt.{Stmt, Stmt-F, out-Stmt, roll-Stmt}
use Rattle.pascal_tree.specs.declared.stmt.StmtKind.{StmtKind, StmtKind-F, roll-StmtKind}
use Rattle.pascal_tree.specs.declared.stmt.Arm.{Arm, Arm-F, roll-Arm}
use Rattle.pascal_tree.specs.declared.stmt.StmtKind.TheVariants as s
use Rattle.pascal_tree.specs.declared.stmt.StmtKind.TheFolds.{map-StmtKind, map-Arm, map-Stmt, fold-roll-StmtKind, fold-roll-Arm, fold-roll-Stmt, ind-StmtKind, ind-Stmt}
use Rattle.pascal_tree.specs.Naming.{Numbering, list_numbering, kind_in_turn, arm_in_turn, stmt_in_turn, stmt_numbering, kind_numbering, arm_numbering}
use Rattle.pascal_tree.specs.Names.{Counts, names_within, stmt_renaming, of_kind, of_arm, of_stmt, stmt_names, kind_names, arm_names}

-- ---- numbers in turn

pub counts_append : (a b c : ℕ) (xs ys : List ℕ) → Counts a xs b → Counts b ys c → Counts a (xs ++ ys) c
counts_append a b c [] ys p q = subst (λ (n : ℕ). Counts n ys c) (sym p) q
counts_append a b c (x ∷ xs) ys p q = (p.0, counts_append (a + 1) b c xs ys p.1 q)

-- what is numbered bears the numbers from any first one on
abbrev pub Proper : {A : Type 0} → (A → List ℕ) → Numbering A → Type 0
Proper names f = (n : ℕ) → Counts n (names (f n).0) (f n).1

pub counts_turn : {A : Type 0} (names : A → List ℕ) (f : A → Numbering A) (es : List ((a : A) × Proper names (f a))) (n : ℕ)
    → Counts n (concat (map names (list_numbering (map f (map (λ e. e.0) es)) n).0)) (list_numbering (map f (map (λ e. e.0) es)) n).1
counts_turn names f [] n = refl
counts_turn names f (e ∷ es) n = counts_append n (f e.0 n).1 _ _ _ (e.1 n) (counts_turn names f es (f e.0 n).1)

-- ---- statements

numbered_kind : (x : StmtKind-F StmtKind Arm Stmt) (n : ℕ) → kind_numbering (roll-StmtKind x) n ≡ kind_in_turn (map-StmtKind StmtKind Arm Stmt (Numbering StmtKind) (Numbering Arm) (Numbering Stmt) kind_numbering arm_numbering stmt_numbering x) n
unfolding kind_numbering arm_numbering stmt_numbering
numbered_kind x n = ap (λ (f : Numbering StmtKind). f n) (fold-roll-StmtKind (Numbering StmtKind) (Numbering Arm) (Numbering Stmt) kind_in_turn arm_in_turn stmt_in_turn x)

numbered_arm : (x : Arm-F StmtKind Arm Stmt) (n : ℕ) → arm_numbering (roll-Arm x) n ≡ arm_in_turn (map-Arm StmtKind Arm Stmt (Numbering StmtKind) (Numbering Arm) (Numbering Stmt) kind_numbering arm_numbering stmt_numbering x) n
unfolding kind_numbering arm_numbering stmt_numbering
numbered_arm x n = ap (λ (f : Numbering Arm). f n) (fold-roll-Arm (Numbering StmtKind) (Numbering Arm) (Numbering Stmt) kind_in_turn arm_in_turn stmt_in_turn x)

numbered_stmt : (x : Stmt-F StmtKind Arm Stmt) (n : ℕ) → stmt_numbering (roll-Stmt x) n ≡ stmt_in_turn (map-Stmt StmtKind Arm Stmt (Numbering StmtKind) (Numbering Arm) (Numbering Stmt) kind_numbering arm_numbering stmt_numbering x) n
unfolding kind_numbering arm_numbering stmt_numbering
numbered_stmt x n = ap (λ (f : Numbering Stmt). f n) (fold-roll-Stmt (Numbering StmtKind) (Numbering Arm) (Numbering Stmt) kind_in_turn arm_in_turn stmt_in_turn x)

names_kind : (x : StmtKind-F StmtKind Arm Stmt) → kind_names (roll-StmtKind x) ≡ of_kind (map-StmtKind StmtKind Arm Stmt (List ℕ) (List ℕ) (List ℕ) kind_names arm_names stmt_names x)
unfolding kind_names arm_names stmt_names
names_kind x = fold-roll-StmtKind (List ℕ) (List ℕ) (List ℕ) of_kind of_arm of_stmt x

names_arm : (x : Arm-F StmtKind Arm Stmt) → arm_names (roll-Arm x) ≡ of_arm (map-Arm StmtKind Arm Stmt (List ℕ) (List ℕ) (List ℕ) kind_names arm_names stmt_names x)
unfolding kind_names arm_names stmt_names
names_arm x = fold-roll-Arm (List ℕ) (List ℕ) (List ℕ) of_kind of_arm of_stmt x

names_stmt : (x : Stmt-F StmtKind Arm Stmt) → stmt_names (roll-Stmt x) ≡ of_stmt (map-Stmt StmtKind Arm Stmt (List ℕ) (List ℕ) (List ℕ) kind_names arm_names stmt_names x)
unfolding kind_names arm_names stmt_names
names_stmt x = fold-roll-Stmt (List ℕ) (List ℕ) (List ℕ) of_kind of_arm of_stmt x

abbrev ProperKind : StmtKind → Type 0
ProperKind k = Proper kind_names (kind_numbering k)

abbrev ProperArm : Arm → Type 0
ProperArm a = Proper arm_names (arm_numbering a)

abbrev ProperStmt : Stmt → Type 0
ProperStmt x = Proper stmt_names (stmt_numbering x)

-- a layer whose parts are numbered properly
abbrev Kinds : Type 0
Kinds = (k : StmtKind) × ProperKind k

abbrev Arms : Type 0
Arms = (a : Arm) × ProperArm a

abbrev Stmts : Type 0
Stmts = (x : Stmt) × ProperStmt x

names_empty : kind_names s.Empty ≡ []
names_empty = ap kind_names (sym s.rolls-Empty) ∙ names_kind StmtKind-F.Empty

names_assign : (a : Access) (e : Expr) → kind_names (s.Assign a e) ≡ []
names_assign a e = ap kind_names (sym (s.rolls-Assign a e)) ∙ names_kind (StmtKind-F.Assign a e)

names_call : (x : List ℕ) (args : List Arg) → kind_names (s.Call x args) ≡ []
names_call x args = ap kind_names (sym (s.rolls-Call x args)) ∙ names_kind (StmtKind-F.Call x args)

names_goto : (n : ℕ) → kind_names (s.Goto n) ≡ []
names_goto n = ap kind_names (sym (s.rolls-Goto n)) ∙ names_kind (StmtKind-F.Goto n)

names_compound : (xs : List Stmt) → kind_names (s.Compound xs) ≡ concat (map stmt_names xs)
names_compound xs = ap kind_names (sym (s.rolls-Compound xs)) ∙ names_kind (StmtKind-F.Compound xs)

names_case : (e : Expr) (xs : List Arm) → kind_names (s.Case e xs) ≡ concat (map arm_names xs)
names_case e xs = ap kind_names (sym (s.rolls-Case e xs)) ∙ names_kind (StmtKind-F.Case e xs)

names_while : (e : Expr) (x : Stmt) → kind_names (s.While e x) ≡ stmt_names x
names_while e x = ap kind_names (sym (s.rolls-While e x)) ∙ names_kind (StmtKind-F.While e x)

names_repeat : (xs : List Stmt) (e : Expr) → kind_names (s.Repeat xs e) ≡ concat (map stmt_names xs)
names_repeat xs e = ap kind_names (sym (s.rolls-Repeat xs e)) ∙ names_kind (StmtKind-F.Repeat xs e)

names_for : (v : List ℕ) (first : Expr) (down : Bool) (last : Expr) (x : Stmt) → kind_names (s.For v first down last x) ≡ stmt_names x
names_for v first down last x = ap kind_names (sym (s.rolls-For v first down last x)) ∙ names_kind (StmtKind-F.For v first down last x)

names_with : (records : List Access) (x : Stmt) → kind_names (s.With records x) ≡ stmt_names x
names_with records x = ap kind_names (sym (s.rolls-With records x)) ∙ names_kind (StmtKind-F.With records x)

names_if : (e : Expr) (x : Stmt) → kind_names (s.If e x None) ≡ stmt_names x ++ []
names_if e x = ap kind_names (sym (s.rolls-If e x None)) ∙ names_kind (StmtKind-F.If e x None)

names_if_else : (e : Expr) (x y : Stmt) → kind_names (s.If e x (Some y)) ≡ stmt_names x ++ stmt_names y
names_if_else e x y = ap kind_names (sym (s.rolls-If e x (Some y))) ∙ names_kind (StmtKind-F.If e x (Some y))

kind_step : (y : StmtKind-F Kinds Arms Stmts) → ProperKind (roll-StmtKind (map-StmtKind Kinds Arms Stmts StmtKind Arm Stmt (λ e. e.0) (λ e. e.0) (λ e. e.0) y))
kind_step StmtKind-F.Empty n = rw (numbered_kind StmtKind-F.Empty n, names_empty) refl
kind_step (StmtKind-F.Assign a e) n = rw (numbered_kind (StmtKind-F.Assign a e) n, names_assign a e) refl
kind_step (StmtKind-F.Call x args) n = rw (numbered_kind (StmtKind-F.Call x args) n, names_call x args) refl
kind_step (StmtKind-F.Goto label) n = rw (numbered_kind (StmtKind-F.Goto label) n, names_goto label) refl
kind_step (StmtKind-F.Compound es) n = rw (numbered_kind (StmtKind-F.Compound (map (λ e. e.0) es)) n, names_compound) (counts_turn stmt_names stmt_numbering es n)
kind_step (StmtKind-F.If e x None) n = rw (numbered_kind (StmtKind-F.If e x.0 None) n, names_if, append-nil) (x.1 n)
kind_step (StmtKind-F.If e x (Some y)) n = rw (numbered_kind (StmtKind-F.If e x.0 (Some y.0)) n, names_if_else) (counts_append n (stmt_numbering x.0 n).1 _ _ _ (x.1 n) (y.1 (stmt_numbering x.0 n).1))
kind_step (StmtKind-F.Case e es) n = rw (numbered_kind (StmtKind-F.Case e (map (λ e. e.0) es)) n, names_case) (counts_turn arm_names arm_numbering es n)
kind_step (StmtKind-F.While e x) n = rw (numbered_kind (StmtKind-F.While e x.0) n, names_while) (x.1 n)
kind_step (StmtKind-F.Repeat es e) n = rw (numbered_kind (StmtKind-F.Repeat (map (λ e. e.0) es) e) n, names_repeat) (counts_turn stmt_names stmt_numbering es n)
kind_step (StmtKind-F.For v first down last x) n = rw (numbered_kind (StmtKind-F.For v first down last x.0) n, names_for) (x.1 n)
kind_step (StmtKind-F.With records x) n = rw (numbered_kind (StmtKind-F.With records x.0) n, names_with) (x.1 n)

arm_step : (y : Arm-F Kinds Arms Stmts) → ProperArm (roll-Arm (map-Arm Kinds Arms Stmts StmtKind Arm Stmt (λ e. e.0) (λ e. e.0) (λ e. e.0) y))
arm_step y n = rw (numbered_arm (map-Arm Kinds Arms Stmts StmtKind Arm Stmt (λ e. e.0) (λ e. e.0) (λ e. e.0) y) n, names_arm) (y.body.1 n)

stmt_step : (y : Stmt-F Kinds Arms Stmts) → ProperStmt (roll-Stmt (map-Stmt Kinds Arms Stmts StmtKind Arm Stmt (λ e. e.0) (λ e. e.0) (λ e. e.0) y))
stmt_step y n = rw (numbered_stmt (map-Stmt Kinds Arms Stmts StmtKind Arm Stmt (λ e. e.0) (λ e. e.0) (λ e. e.0) y) n, names_stmt) (refl, y.kind.1 (n + 1))

pub proper_stmt : (x : Stmt) → ProperStmt x
proper_stmt = ind-Stmt ProperKind ProperArm ProperStmt
    (λ x y is. subst (λ z. ProperKind (roll-StmtKind z)) is (kind_step y))
    (λ x y is. subst (λ z. ProperArm (roll-Arm z)) is (arm_step y))
    (λ x y is. subst (λ z. ProperStmt (roll-Stmt z)) is (stmt_step y))

pub proper_kind : (k : StmtKind) → ProperKind k
proper_kind = ind-StmtKind ProperKind ProperArm ProperStmt
    (λ x y is. subst (λ z. ProperKind (roll-StmtKind z)) is (kind_step y))
    (λ x y is. subst (λ z. ProperArm (roll-Arm z)) is (arm_step y))
    (λ x y is. subst (λ z. ProperStmt (roll-Stmt z)) is (stmt_step y))

pub renaming_names : (name : ℕ) (x : Stmt) (n : ℕ) → Counts n (names_within (stmt_renaming name x n).0) (stmt_renaming name x n).1
renaming_names name x n = proper_kind (out-Stmt x).kind n
