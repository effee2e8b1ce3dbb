-- The labels of a statement and of all in it, gathered in turn.
use Rattle.std.proofs.Common.{◌≡◌, ◌<◌, ◌≤◌, ℕ, ◌+◌, Bool, List, [], ◌∷◌, ◌++◌, length, map, drop, get_or, Option, Some, None, ap, refl, sym, ◌∙◌, append_assoc, append-nil}
use Rattle.dice_base.specs.declared.name.Name.{Name}
use Rattle.pascal_tree.specs.declared.expr.Expr.{Expr}
use Rattle.pascal_tree.specs.declared.expr.Access.{Access}
use Rattle.pascal_tree.specs.declared.expr.Arg.{Arg}
use Rattle.pascal_tree.specs.declared.stmt.Stmt.{Stmt, out-Stmt}
use Rattle.pascal_tree.specs.declared.stmt.StmtKind.{StmtKind, StmtKind-F, out-StmtKind}
use Rattle.pascal_tree.specs.declared.stmt.StmtKind.TheVariants as s
use Rattle.pascal_tree.specs.declared.stmt.Arm.{Arm, out-Arm}
use Rattle.check_rules.specs.Typing.{Text}
use Rattle.core_tree.specs.declared.program.CoreLabel.{CoreLabel}
use Rattle.core_tree.specs.Control.{Label, entry_of, label_list, labels_of, labels_in}
use Rattle.core_tree.specs.Plain.{Heading, Statement}
use Rattle.core_tree.specs.Shapes.{ShapeTree}
use Rattle.core_tree.specs.Views.{label_row}
use Rattle.resolve_expr.specs.declared.context.Context.{Context}
use Rattle.resolve_statements.specs.Forms.{context_in_for, context_with}
use Rattle.resolve_statements.specs.Statements.{access_node}
use Rattle.resolve_statements.specs.Bodies.{KindBody, ArmBody, in_kind, inner_of, kind_body, statement_of}
use Rattle.resolve_statements.specs.Tables.{BeginsAt, LabelsOver, AreLabels, own_labels, stmt_labels, arm_labels, labels_over, stmts_in, arms_in, inner_in}
use Rattle.resolve_statements.proofs.Layers.{over, kind_layer, arm_layer, stmt_layer}
use Rattle.resolve_statements.proofs.Over.{drop_turn, drop_end}

abbrev Same : LabelsOver → LabelsOver → Type 0
Same xs ys = (t : List ShapeTree) (h : ℕ → Heading) (c : Context) → xs c t h ≡ ys c t h

labelled : (old : List CoreLabel) (l : CoreLabel) → map label_row (old ++ l ∷ []) ≡ map label_row old ++ label_row l ∷ []
labelled [] l = refl
labelled (k ∷ ks) l = ap (λ ls. label_row k ∷ ls) (labelled ks l)

-- ---- pieces

pub labels_none : (old : List CoreLabel) (xs : LabelsOver) → Same xs (λ c t h. []) → AreLabels old old xs
labels_none old xs none = record {
  over = λ t h c. sym (ap (λ ls. map label_row old ++ ls) (none t h c) ∙ append-nil (map label_row old));
}

pub labels_same : (old new : List CoreLabel) (xs ys : LabelsOver) (f : Context → Context)
    → ((t : List ShapeTree) (h : ℕ → Heading) (c : Context) → ys c t h ≡ xs (f c) t h) → AreLabels old new xs → AreLabels old new ys
labels_same old new xs ys f same are = record {
  over = λ t h c. are.over t h (f c) ∙ ap (λ ls. map label_row old ++ ls) (sym (same t h c));
}

pub labels_both : (old middle new : List CoreLabel) (xs ys whole : LabelsOver) → Same whole (λ c t h. xs c t h ++ ys c t h)
    → AreLabels old middle xs → AreLabels middle new ys → AreLabels old new whole
labels_both old middle new xs ys whole same before more = record {
  over = λ t h c.
      more.over t h c
      ∙ (ap (λ ls. ls ++ ys c t h) (before.over t h c)
      ∙ (append_assoc (map label_row old) (xs c t h) (ys c t h) ∙ ap (λ ls. map label_row old ++ ls) (sym (same t h c))));
}

-- ---- a statement by itself, and with all in it

pub own_none : (x : Stmt) (old : List CoreLabel) → (out-Stmt x).label ≡ None → AreLabels old old (own_labels x)
own_none x old none =
    labels_none old (own_labels x) (λ t h c. ap (λ l. label_list l (entry_of (statement_of t h x c))) none)

pub own_some : (x : Stmt) (old new : List CoreLabel) (l : ℕ) (n : Name) → (out-Stmt x).label ≡ Some l → BeginsAt x n
    → new ≡ old ++ record { label = l; entry = n } ∷ [] → AreLabels old new (own_labels x)
own_some x old new l n some begins is = record {
  over = λ t h c.
      ap (map label_row) is
      ∙ (labelled old (record { label = l; entry = n })
      ∙ ap (λ ls. map label_row old ++ ls)
      (sym (ap (λ o. label_list o (entry_of (statement_of t h x c))) some ∙ ap (λ k. label_list (Some l) k) (begins.over t h c))));
}

stmt_is : (x : Stmt) → Same (stmt_labels x) (λ c t h. own_labels x c t h ++ labels_over (inner_in (out-Stmt x).kind) c t h)
stmt_is x t h c =
    ap labels_of (stmt_layer t h x c)
    ∙ ap (λ k. label_list (out-Stmt x).label k ++ labels_in (inner_in (out-Stmt x).kind c t h)) (sym (ap entry_of (stmt_layer t h x c)))

pub stmt_whole : (x : Stmt) (old middle new : List CoreLabel) → AreLabels old middle (own_labels x)
    → AreLabels middle new (labels_over (inner_in (out-Stmt x).kind)) → AreLabels old new (stmt_labels x)
stmt_whole x old middle new before more =
    labels_both old middle new (own_labels x) (labels_over (inner_in (out-Stmt x).kind)) (stmt_labels x) (stmt_is x) before more

pub arm_whole : (a : Arm) (old new : List CoreLabel) → AreLabels old new (stmt_labels (out-Arm a).body) → AreLabels old new (arm_labels a)
arm_whole a old new are =
    labels_same old new (stmt_labels (out-Arm a).body) (arm_labels a) (λ c. c)
    (λ t h c. ap (λ (y : ArmBody). labels_of (y.body c)) (arm_layer t h a)) are

-- ---- in turn

pub record AreLeft (old now : List CoreLabel) (rest whole : LabelsOver) : Type 0 where
  pub over : (t : List ShapeTree) (h : ℕ → Heading) (c : Context)
      → map label_row old ++ whole c t h ≡ map label_row now ++ rest c t h

pub all_left : (old : List CoreLabel) (whole : LabelsOver) → AreLeft old old whole whole
all_left old whole = record { over = λ t h c. refl }

none_left : (old now : List CoreLabel) (rest whole : LabelsOver) → AreLeft old now rest whole → Same rest (λ c t h. []) → AreLabels old now whole
none_left old now rest whole left none = record {
  over = λ t h c. sym (left.over t h c ∙ (ap (λ ls. map label_row now ++ ls) (none t h c) ∙ append-nil (map label_row now)));
}

one_left : (old now next : List CoreLabel) (rest one later whole : LabelsOver) → Same rest (λ c t h. one c t h ++ later c t h)
    → AreLeft old now rest whole → AreLabels now next one → AreLeft old next later whole
one_left old now next rest one later whole same left more = record {
  over = λ t h c.
      left.over t h c
      ∙ (ap (λ ls. map label_row now ++ ls) (same t h c)
      ∙ (sym (append_assoc (map label_row now) (one c t h) (later c t h)) ∙ ap (λ ls. ls ++ later c t h) (sym (more.over t h c))));
}

pub stmts_left : (old now next : List CoreLabel) (xs : List Stmt) (i : ℕ) (x : Stmt) → i < length xs → x ≡ get_or xs i x
    → AreLeft old now (labels_over (stmts_in (drop i xs))) (labels_over (stmts_in xs)) → AreLabels now next (stmt_labels x)
    → AreLeft old next (labels_over (stmts_in (drop (i + 1) xs))) (labels_over (stmts_in xs))
stmts_left old now next xs i x inside is =
    one_left old now next (labels_over (stmts_in (drop i xs))) (stmt_labels x) (labels_over (stmts_in (drop (i + 1) xs))) (labels_over (stmts_in xs))
    (λ t h c. ap (λ ys. labels_in (stmts_in ys c t h)) (drop_turn xs i x inside is))

pub arms_left : (old now next : List CoreLabel) (xs : List Arm) (i : ℕ) (x : Arm) → i < length xs → x ≡ get_or xs i x
    → AreLeft old now (labels_over (arms_in (drop i xs))) (labels_over (arms_in xs)) → AreLabels now next (arm_labels x)
    → AreLeft old next (labels_over (arms_in (drop (i + 1) xs))) (labels_over (arms_in xs))
arms_left old now next xs i x inside is =
    one_left old now next (labels_over (arms_in (drop i xs))) (arm_labels x) (labels_over (arms_in (drop (i + 1) xs))) (labels_over (arms_in xs))
    (λ t h c. ap (λ ys. labels_in (arms_in ys c t h)) (drop_turn xs i x inside is))

pub stmts_all : (old now : List CoreLabel) (xs : List Stmt) (i : ℕ) → length xs ≤ i
    → AreLeft old now (labels_over (stmts_in (drop i xs))) (labels_over (stmts_in xs)) → AreLabels old now (labels_over (stmts_in xs))
stmts_all old now xs i past left =
    none_left old now (labels_over (stmts_in (drop i xs))) (labels_over (stmts_in xs)) left
    (λ t h c. ap (λ ys. labels_in (stmts_in ys c t h)) (drop_end xs i past))

pub arms_all : (old now : List CoreLabel) (xs : List Arm) (i : ℕ) → length xs ≤ i
    → AreLeft old now (labels_over (arms_in (drop i xs))) (labels_over (arms_in xs)) → AreLabels old now (labels_over (arms_in xs))
arms_all old now xs i past left =
    none_left old now (labels_over (arms_in (drop i xs))) (labels_over (arms_in xs)) left
    (λ t h c. ap (λ ys. labels_in (arms_in ys c t h)) (drop_end xs i past))

-- ---- by kinds

inner_by : (t : List ShapeTree) (h : ℕ → Heading) (k : StmtKind) (x : StmtKind-F StmtKind Arm Stmt) → out-StmtKind k ≡ x → (c : Context)
    → labels_in (inner_in k c t h) ≡ labels_in (inner_of (over t h x) c)
inner_by t h k x is c = ap (λ (b : KindBody). labels_in (b.inner c)) (kind_layer t h k ∙ ap (λ y. in_kind (over t h y)) is)

pub empty_labels : (k : StmtKind) (old : List CoreLabel) → k ≡ s.Empty → AreLabels old old (labels_over (inner_in k))
empty_labels k old is = labels_none old (labels_over (inner_in k)) (λ t h c. inner_by t h k StmtKind-F.Empty (ap out-StmtKind is ∙ s.outs-Empty) c)

pub assign_labels : (k : StmtKind) (old : List CoreLabel) (a : Access) (e : Expr) → k ≡ s.Assign a e → AreLabels old old (labels_over (inner_in k))
assign_labels k old a e is = labels_none old (labels_over (inner_in k)) (λ t h c. inner_by t h k (StmtKind-F.Assign a e) (ap out-StmtKind is ∙ s.outs-Assign a e) c)

pub call_labels : (k : StmtKind) (old : List CoreLabel) (x : Text) (args : List Arg) → k ≡ s.Call x args → AreLabels old old (labels_over (inner_in k))
call_labels k old x args is = labels_none old (labels_over (inner_in k)) (λ t h c. inner_by t h k (StmtKind-F.Call x args) (ap out-StmtKind is ∙ s.outs-Call x args) c)

pub goto_labels : (k : StmtKind) (old : List CoreLabel) (l : ℕ) → k ≡ s.Goto l → AreLabels old old (labels_over (inner_in k))
goto_labels k old l is = labels_none old (labels_over (inner_in k)) (λ t h c. inner_by t h k (StmtKind-F.Goto l) (ap out-StmtKind is ∙ s.outs-Goto l) c)

pub compound_labels : (k : StmtKind) (old new : List CoreLabel) (ss zs : List Stmt) → k ≡ s.Compound ss → zs ≡ ss
    → AreLabels old new (labels_over (stmts_in zs)) → AreLabels old new (labels_over (inner_in k))
compound_labels k old new ss zs is same are =
    labels_same old new (labels_over (stmts_in zs)) (labels_over (inner_in k)) (λ c. c)
    (λ t h c. inner_by t h k (StmtKind-F.Compound ss) (ap out-StmtKind is ∙ s.outs-Compound ss) c ∙ ap (λ ys. labels_in (stmts_in ys c t h)) (sym same)) are

pub repeat_labels : (k : StmtKind) (old new : List CoreLabel) (ss zs : List Stmt) (e : Expr) → k ≡ s.Repeat ss e → zs ≡ ss
    → AreLabels old new (labels_over (stmts_in zs)) → AreLabels old new (labels_over (inner_in k))
repeat_labels k old new ss zs e is same are =
    labels_same old new (labels_over (stmts_in zs)) (labels_over (inner_in k)) (λ c. c)
    (λ t h c. inner_by t h k (StmtKind-F.Repeat ss e) (ap out-StmtKind is ∙ s.outs-Repeat ss e) c ∙ ap (λ ys. labels_in (stmts_in ys c t h)) (sym same)) are

pub case_labels : (k : StmtKind) (old new : List CoreLabel) (e : Expr) (arms zs : List Arm) → k ≡ s.Case e arms → zs ≡ arms
    → AreLabels old new (labels_over (arms_in zs)) → AreLabels old new (labels_over (inner_in k))
case_labels k old new e arms zs is same are =
    labels_same old new (labels_over (arms_in zs)) (labels_over (inner_in k)) (λ c. c)
    (λ t h c. inner_by t h k (StmtKind-F.Case e arms) (ap out-StmtKind is ∙ s.outs-Case e arms) c ∙ ap (λ ys. labels_in (arms_in ys c t h)) (sym same)) are

-- one statement, in another context
alone : (old new : List CoreLabel) (k : StmtKind) (x y : Stmt) (f : Context → Context) → y ≡ x
    → Same (labels_over (inner_in k)) (λ c t h. stmt_labels x (f c) t h ++ []) → AreLabels old new (stmt_labels y) → AreLabels old new (labels_over (inner_in k))
alone old new k x y f same are_in are =
    labels_same old new (stmt_labels y) (labels_over (inner_in k)) f
    (λ t h c. are_in t h c ∙ (append-nil (stmt_labels x (f c) t h) ∙ ap (λ z. stmt_labels z (f c) t h) (sym same))) are

pub while_labels : (k : StmtKind) (old new : List CoreLabel) (e : Expr) (x y : Stmt) → k ≡ s.While e x → y ≡ x
    → AreLabels old new (stmt_labels y) → AreLabels old new (labels_over (inner_in k))
while_labels k old new e x y is same =
    alone old new k x y (λ c. c) same (λ t h c. inner_by t h k (StmtKind-F.While e x) (ap out-StmtKind is ∙ s.outs-While e x) c)

pub for_labels : (k : StmtKind) (old new : List CoreLabel) (i : Text) (a : Expr) (down : Bool) (b : Expr) (x y : Stmt) → k ≡ s.For i a down b x → y ≡ x
    → AreLabels old new (stmt_labels y) → AreLabels old new (labels_over (inner_in k))
for_labels k old new i a down b x y is same =
    alone old new k x y context_in_for same (λ t h c. inner_by t h k (StmtKind-F.For i a down b x) (ap out-StmtKind is ∙ s.outs-For i a down b x) c)

pub with_labels : (k : StmtKind) (old new : List CoreLabel) (rs : List Access) (x y : Stmt) → k ≡ s.With rs x → y ≡ x
    → AreLabels old new (stmt_labels y) → AreLabels old new (labels_over (inner_in k))
with_labels k old new rs x y is same =
    alone old new k x y (λ c. context_with c (map access_node rs)) same
    (λ t h c. inner_by t h k (StmtKind-F.With rs x) (ap out-StmtKind is ∙ s.outs-With rs x) c)

pub if_labels : (k : StmtKind) (old new : List CoreLabel) (e : Expr) (x y : Stmt) (o : Option Stmt) → k ≡ s.If e x o → o ≡ None → y ≡ x
    → AreLabels old new (stmt_labels y) → AreLabels old new (labels_over (inner_in k))
if_labels k old new e x y o is none same =
    alone old new k x y (λ c. c) same
    (λ t h c. inner_by t h k (StmtKind-F.If e x None) (ap out-StmtKind (is ∙ ap (s.If e x) none) ∙ s.outs-If e x None) c)

pub else_labels : (k : StmtKind) (old middle new : List CoreLabel) (e : Expr) (x y v w : Stmt) (o : Option Stmt) → k ≡ s.If e x o → o ≡ Some y → v ≡ x → w ≡ y
    → AreLabels old middle (stmt_labels v) → AreLabels middle new (stmt_labels w) → AreLabels old new (labels_over (inner_in k))
else_labels k old middle new e x y v w o is some first second =
    labels_both old middle new (stmt_labels v) (stmt_labels w) (labels_over (inner_in k))
    (λ t h c.
    inner_by t h k (StmtKind-F.If e x (Some y)) (ap out-StmtKind (is ∙ ap (s.If e x) some) ∙ s.outs-If e x (Some y)) c
    ∙ (ap (λ ls. stmt_labels x c t h ++ ls) (append-nil (stmt_labels y c t h))
    ∙ (ap (λ z. stmt_labels z c t h ++ stmt_labels y c t h) (sym first) ∙ ap (λ z. stmt_labels v c t h ++ stmt_labels z c t h) (sym second))))
