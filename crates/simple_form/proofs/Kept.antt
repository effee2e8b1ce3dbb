-- The names of what a statement resolves to are among the names of the statement, in the same order.
use Rattle.std.proofs.Common.{◌≡◌, ℕ, List, [], ◌∷◌, ◌++◌, Option, Some, None, map, ap, subst}
use Rattle.std.specs.List.{concat}
use Rattle.std.proofs.lemmas.List.{map-append}
use Rattle.pascal_semantics.specs.declared.form.SimpleForm.{SimpleForm}
use Rattle.pascal_semantics.specs.declared.form.SimpleForm.TheVariants as form
use Rattle.pascal_semantics.specs.declared.form.Statement.{Statement}
use Rattle.pascal_tree.specs.declared.stmt.Stmt.{Stmt, Stmt-F, roll-Stmt}
use Rattle.pascal_tree.specs.declared.stmt.StmtKind.{StmtKind, StmtKind-F, roll-StmtKind}
use Rattle.pascal_tree.specs.declared.stmt.Arm.{Arm, fold-Arm}
use Rattle.pascal_tree.specs.declared.stmt.StmtKind.TheFolds.{map-StmtKind, map-Stmt, fold-roll-StmtKind, fold-roll-Stmt, ind-Stmt}
use Rattle.pascal_tree.specs.Names.{of_kind, of_arm, of_stmt, stmt_names, kind_names, arm_names}
use Rattle.simple_form.specs.Simple.{Texts, Leaves, leaf, leaves_of_two, leaves_in_turn, leaves_of_kind, leaves_of_arm, leaves_of_stmt, leaves_without_label, assignment_of, call_of, kind_leaves, stmt_leaves}
use Rattle.simple_form.proofs.Sublists.{Sublist, none, keep, sublist_behind, sublist_append}

abbrev pub names_of : List Statement → List ℕ
names_of ss = map (λ s. s.name) ss

-- what is resolved bears some of these names, in the same order
abbrev pub Keeps : Leaves → List ℕ → Type 0
Keeps None names = Unit {0}
Keeps (Some ss) names = Sublist (names_of ss) names

keeps_leaf : (name : ℕ) (f : Option SimpleForm) → Keeps (leaf name f) (name ∷ [])
keeps_leaf name None = tt
keeps_leaf name (Some f) = keep name none

keeps_both : (a b : Leaves) (ms ns : List ℕ) → Keeps a ms → Keeps b ns → Keeps (leaves_of_two a b) (ms ++ ns)
keeps_both None b ms ns p q = tt
keeps_both (Some xs) None ms ns p q = tt
keeps_both (Some xs) (Some ys) ms ns p q = rw (map-append (λ s. s.name) xs ys) (sublist_append p q)

pub keeps_behind : (front : List ℕ) (r : Leaves) (names : List ℕ) → Keeps r names → Keeps r (front ++ names)
keeps_behind front None names p = tt
keeps_behind front (Some ss) names p = sublist_behind front p

keeps_unlabelled : (label : Option ℕ) (r : Leaves) (names : List ℕ) → Keeps r names → Keeps (leaves_without_label label r) names
keeps_unlabelled None r names p = p
keeps_unlabelled (Some label) r names p = tt

-- ---- statements

abbrev arm_of : Texts → Arm → Leaves
arm_of vars = fold-Arm (ℕ → Leaves) Leaves Leaves (leaves_of_kind vars) leaves_of_arm leaves_of_stmt

resolved_kind : (vars : Texts) (x : StmtKind-F StmtKind Arm Stmt) (n : ℕ) → kind_leaves vars (roll-StmtKind x) n ≡ leaves_of_kind vars (map-StmtKind StmtKind Arm Stmt (ℕ → Leaves) Leaves Leaves (kind_leaves vars) (arm_of vars) (stmt_leaves vars) x) n
unfolding kind_leaves stmt_leaves
resolved_kind vars x n = ap (λ (f : ℕ → Leaves). f n) (fold-roll-StmtKind (ℕ → Leaves) Leaves Leaves (leaves_of_kind vars) leaves_of_arm leaves_of_stmt x)

resolved_stmt : (vars : Texts) (x : Stmt-F StmtKind Arm Stmt) → stmt_leaves vars (roll-Stmt x) ≡ leaves_without_label x.label (kind_leaves vars x.kind x.name.0)
unfolding kind_leaves stmt_leaves
resolved_stmt vars x = fold-roll-Stmt (ℕ → Leaves) Leaves Leaves (leaves_of_kind vars) leaves_of_arm leaves_of_stmt x

names_kind : (x : StmtKind-F StmtKind Arm Stmt) → kind_names (roll-StmtKind x) ≡ of_kind (map-StmtKind StmtKind Arm Stmt (List ℕ) (List ℕ) (List ℕ) kind_names arm_names stmt_names x)
unfolding kind_names arm_names stmt_names
names_kind x = fold-roll-StmtKind (List ℕ) (List ℕ) (List ℕ) of_kind of_arm of_stmt x

names_stmt : (x : Stmt-F StmtKind Arm Stmt) → stmt_names (roll-Stmt x) ≡ x.name.0 ∷ kind_names x.kind
unfolding kind_names arm_names stmt_names
names_stmt x = fold-roll-Stmt (List ℕ) (List ℕ) (List ℕ) of_kind of_arm of_stmt x

abbrev KindKeeps : Texts → StmtKind → Type 0
KindKeeps vars k = (n : ℕ) → Keeps (kind_leaves vars k n) (n ∷ kind_names k)

abbrev ArmKeeps : Arm → Type 0
ArmKeeps a = Unit {0}

abbrev StmtKeeps : Texts → Stmt → Type 0
StmtKeeps vars s = Keeps (stmt_leaves vars s) (stmt_names s)

-- the parts of a layer, each with what is known of it
abbrev Kinds : Texts → Type 0
Kinds vars = (k : StmtKind) × KindKeeps vars k

abbrev Arms : Type 0
Arms = (a : Arm) × ArmKeeps a

abbrev Stmts : Texts → Type 0
Stmts vars = (s : Stmt) × StmtKeeps vars s

keeps_turn : (vars : Texts) (es : List (Stmts vars)) → Keeps (leaves_in_turn (map (stmt_leaves vars) (map (λ e. e.0) es))) (concat (map stmt_names (map (λ e. e.0) es)))
keeps_turn vars [] = none
keeps_turn vars (e ∷ es) = keeps_both (stmt_leaves vars e.0) _ (stmt_names e.0) _ e.1 (keeps_turn vars es)

kind_step : (vars : Texts) (y : StmtKind-F (Kinds vars) Arms (Stmts vars)) → KindKeeps vars (roll-StmtKind (map-StmtKind (Kinds vars) Arms (Stmts vars) StmtKind Arm Stmt (λ e. e.0) (λ e. e.0) (λ e. e.0) y))
kind_step vars StmtKind-F.Empty n = rw (resolved_kind vars StmtKind-F.Empty n, names_kind StmtKind-F.Empty) (keeps_leaf n (Some form.Empty))
kind_step vars (StmtKind-F.Assign a e) n = rw (resolved_kind vars (StmtKind-F.Assign a e) n, names_kind (StmtKind-F.Assign a e)) (keeps_leaf n (assignment_of vars a e))
kind_step vars (StmtKind-F.Call x args) n = rw (resolved_kind vars (StmtKind-F.Call x args) n, names_kind (StmtKind-F.Call x args)) (keeps_leaf n (call_of vars x args))
kind_step vars (StmtKind-F.Goto label) n = rw (resolved_kind vars (StmtKind-F.Goto label) n) tt
kind_step vars (StmtKind-F.Compound es) n =
    rw (resolved_kind vars (StmtKind-F.Compound (map (λ e. e.0) es)) n, names_kind (StmtKind-F.Compound (map (λ e. e.0) es)))
    (keeps_behind (n ∷ []) (leaves_in_turn (map (stmt_leaves vars) (map (λ e. e.0) es))) (concat (map stmt_names (map (λ e. e.0) es))) (keeps_turn vars es))
kind_step vars (StmtKind-F.If e x None) n = rw (resolved_kind vars (StmtKind-F.If e x.0 None) n) tt
kind_step vars (StmtKind-F.If e x (Some y)) n = rw (resolved_kind vars (StmtKind-F.If e x.0 (Some y.0)) n) tt
kind_step vars (StmtKind-F.Case e es) n = rw (resolved_kind vars (StmtKind-F.Case e (map (λ e. e.0) es)) n) tt
kind_step vars (StmtKind-F.While e x) n = rw (resolved_kind vars (StmtKind-F.While e x.0) n) tt
kind_step vars (StmtKind-F.Repeat es e) n = rw (resolved_kind vars (StmtKind-F.Repeat (map (λ e. e.0) es) e) n) tt
kind_step vars (StmtKind-F.For v first down last x) n = rw (resolved_kind vars (StmtKind-F.For v first down last x.0) n) tt
kind_step vars (StmtKind-F.With records x) n = rw (resolved_kind vars (StmtKind-F.With records x.0) n) tt

stmt_step : (vars : Texts) (y : Stmt-F (Kinds vars) Arms (Stmts vars)) → StmtKeeps vars (roll-Stmt (map-Stmt (Kinds vars) Arms (Stmts vars) StmtKind Arm Stmt (λ e. e.0) (λ e. e.0) (λ e. e.0) y))
stmt_step vars y =
    rw (resolved_stmt vars (map-Stmt (Kinds vars) Arms (Stmts vars) StmtKind Arm Stmt (λ e. e.0) (λ e. e.0) (λ e. e.0) y), names_stmt (map-Stmt (Kinds vars) Arms (Stmts vars) StmtKind Arm Stmt (λ e. e.0) (λ e. e.0) (λ e. e.0) y))
    (keeps_unlabelled y.label (kind_leaves vars y.kind.0 y.name.0) (y.name.0 ∷ kind_names y.kind.0) (y.kind.1 y.name.0))

pub keeps_stmt : (vars : Texts) (s : Stmt) → StmtKeeps vars s
keeps_stmt vars = ind-Stmt (KindKeeps vars) ArmKeeps (StmtKeeps vars)
    (λ x y is. subst (λ z. KindKeeps vars (roll-StmtKind z)) is (kind_step vars y))
    (λ x y is. tt)
    (λ x y is. subst (λ z. StmtKeeps vars (roll-Stmt z)) is (stmt_step vars y))
