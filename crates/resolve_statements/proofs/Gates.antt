-- Where the statements directly in one begin, gathered in turn.
use Rattle.std.proofs.Common.{◌≡◌, ◌<◌, ◌≤◌, OnOk, Result, Ok, Err, ℕ, ◌+◌, Bool, List, [], ◌∷◌, ◌++◌, length, map, drop, get_or, Option, Some, None, refl, ap, sym, ◌∙◌, append_assoc, append-nil}
use Rattle.dice_base.specs.declared.name.Name.{Name}
use Rattle.pascal_tree.specs.declared.expr.Expr.{Expr}
use Rattle.pascal_tree.specs.declared.expr.Access.{Access}
use Rattle.pascal_tree.specs.declared.expr.Arg.{Arg}
use Rattle.pascal_tree.specs.declared.stmt.Stmt.{Stmt}
use Rattle.pascal_tree.specs.declared.stmt.StmtKind.{StmtKind, StmtKind-F, out-StmtKind}
use Rattle.pascal_tree.specs.declared.stmt.StmtKind.TheVariants as s
use Rattle.pascal_tree.specs.declared.stmt.Arm.{Arm, out-Arm}
use Rattle.check_rules.specs.Typing.{Text}
use Rattle.core_tree.specs.Control.{entry_of, entries_of}
use Rattle.core_tree.specs.Plain.{Heading}
use Rattle.core_tree.specs.Shapes.{ShapeTree}
use Rattle.resolve_expr.specs.declared.context.Context.{Context}
use Rattle.resolve_statements.specs.Forms.{context_in_for, context_with}
use Rattle.resolve_statements.specs.Statements.{access_node}
use Rattle.resolve_statements.specs.Bodies.{KindBody, ArmBody, in_kind, inner_of}
use Rattle.resolve_statements.specs.Tables.{InnerOver, BeginsAt, AreEntries, stmts_in, arms_in, inner_in}
use Rattle.resolve_statements.proofs.Layers.{over, kind_layer, arm_layer}
use Rattle.resolve_statements.proofs.Over.{drop_turn, drop_end}

numbered : (old : List Name) (n : Name) → map (λ m. m.0) (old ++ n ∷ []) ≡ map (λ m. m.0) old ++ n.0 ∷ []
numbered [] n = refl
numbered (m ∷ ms) n = ap (λ ks. m.0 ∷ ks) (numbered ms n)

-- ---- one statement

pub arm_entry : (a : Arm) (old new : List Name) (n : Name) → BeginsAt (out-Arm a).body n → new ≡ old ++ n ∷ [] → AreEntries old new (arms_in (a ∷ []))
arm_entry a old new n begins is = record {
  over = λ t h c.
      ap (map (λ m. m.0)) is
      ∙ (numbered old n
      ∙ ap (λ k. map (λ m. m.0) old ++ k ∷ []) (sym (ap (λ (y : ArmBody). entry_of (y.body c)) (arm_layer t h a) ∙ begins.over t h c)));
}

-- ---- in turn

pub record AreLeft (old now : List Name) (rest whole : InnerOver) : Type 0 where
  pub over : (t : List ShapeTree) (h : ℕ → Heading) (c : Context)
      → map (λ m. m.0) old ++ entries_of (whole c t h) ≡ map (λ m. m.0) now ++ entries_of (rest c t h)

pub all_left : (old : List Name) (whole : InnerOver) → AreLeft old old whole whole
all_left old whole = record { over = λ t h c. refl }

pub none_left : (old now : List Name) (rest whole : InnerOver) → AreLeft old now rest whole
    → ((t : List ShapeTree) (h : ℕ → Heading) (c : Context) → entries_of (rest c t h) ≡ []) → AreEntries old now whole
none_left old now rest whole left none = record {
  over = λ t h c. sym (left.over t h c ∙ (ap (λ es. map (λ m. m.0) now ++ es) (none t h c) ∙ append-nil (map (λ m. m.0) now)));
}

pub stmts_left : (old now next : List Name) (xs : List Stmt) (i : ℕ) (x : Stmt) → i < length xs → x ≡ get_or xs i x
    → AreLeft old now (stmts_in (drop i xs)) (stmts_in xs) → AreEntries now next (stmts_in (x ∷ [])) → AreLeft old next (stmts_in (drop (i + 1) xs)) (stmts_in xs)
stmts_left old now next xs i x inside is left more = record {
  over = λ t h c.
      left.over t h c
      ∙ (ap (λ ys. map (λ m. m.0) now ++ entries_of (stmts_in ys c t h)) (drop_turn xs i x inside is)
      ∙ (sym (append_assoc (map (λ m. m.0) now) (entries_of (stmts_in (x ∷ []) c t h)) (entries_of (stmts_in (drop (i + 1) xs) c t h)))
      ∙ ap (λ ks. ks ++ entries_of (stmts_in (drop (i + 1) xs) c t h)) (sym (more.over t h c))));
}

pub arms_left : (old now next : List Name) (xs : List Arm) (i : ℕ) (x : Arm) → i < length xs → x ≡ get_or xs i x
    → AreLeft old now (arms_in (drop i xs)) (arms_in xs) → AreEntries now next (arms_in (x ∷ [])) → AreLeft old next (arms_in (drop (i + 1) xs)) (arms_in xs)
arms_left old now next xs i x inside is left more = record {
  over = λ t h c.
      left.over t h c
      ∙ (ap (λ ys. map (λ m. m.0) now ++ entries_of (arms_in ys c t h)) (drop_turn xs i x inside is)
      ∙ (sym (append_assoc (map (λ m. m.0) now) (entries_of (arms_in (x ∷ []) c t h)) (entries_of (arms_in (drop (i + 1) xs) c t h)))
      ∙ ap (λ ks. ks ++ entries_of (arms_in (drop (i + 1) xs) c t h)) (sym (more.over t h c))));
}

pub stmts_gone : (xs : List Stmt) (i : ℕ) → length xs ≤ i → (t : List ShapeTree) (h : ℕ → Heading) (c : Context) → entries_of (stmts_in (drop i xs) c t h) ≡ []
stmts_gone xs i past t h c = ap (λ ys. entries_of (stmts_in ys c t h)) (drop_end xs i past)

pub arms_gone : (xs : List Arm) (i : ℕ) → length xs ≤ i → (t : List ShapeTree) (h : ℕ → Heading) (c : Context) → entries_of (arms_in (drop i xs) c t h) ≡ []
arms_gone xs i past t h c = ap (λ ys. entries_of (arms_in ys c t h)) (drop_end xs i past)

-- ---- by kinds

inner_by : (t : List ShapeTree) (h : ℕ → Heading) (k : StmtKind) (x : StmtKind-F StmtKind Arm Stmt) → out-StmtKind k ≡ x → (c : Context)
    → entries_of (inner_in k c t h) ≡ entries_of (inner_of (over t h x) c)
inner_by t h k x is c = ap (λ (b : KindBody). entries_of (b.inner c)) (kind_layer t h k ∙ ap (λ y. in_kind (over t h y)) is)

-- in another context, which changes no entry
entries_same : (old new : List Name) (xs ys : InnerOver) (f : Context → Context)
    → ((t : List ShapeTree) (h : ℕ → Heading) (c : Context) → entries_of (ys c t h) ≡ entries_of (xs (f c) t h)) → AreEntries old new xs → AreEntries old new ys
entries_same old new xs ys f same are = record {
  over = λ t h c. are.over t h (f c) ∙ ap (λ es. map (λ m. m.0) old ++ es) (sym (same t h c));
}

none_in : (k : StmtKind) (old : List Name) → ((t : List ShapeTree) (h : ℕ → Heading) (c : Context) → entries_of (inner_in k c t h) ≡ []) → AreEntries old old (inner_in k)
none_in k old none = record {
  over = λ t h c. sym (ap (λ es. map (λ m. m.0) old ++ es) (none t h c) ∙ append-nil (map (λ m. m.0) old));
}

pub empty_entries : (k : StmtKind) (old : List Name) → k ≡ s.Empty → AreEntries old old (inner_in k)
empty_entries k old is = none_in k old (λ t h c. inner_by t h k StmtKind-F.Empty (ap out-StmtKind is ∙ s.outs-Empty) c)

pub assign_entries : (k : StmtKind) (old : List Name) (a : Access) (e : Expr) → k ≡ s.Assign a e → AreEntries old old (inner_in k)
assign_entries k old a e is = none_in k old (λ t h c. inner_by t h k (StmtKind-F.Assign a e) (ap out-StmtKind is ∙ s.outs-Assign a e) c)

pub call_entries : (k : StmtKind) (old : List Name) (x : Text) (args : List Arg) → k ≡ s.Call x args → AreEntries old old (inner_in k)
call_entries k old x args is = none_in k old (λ t h c. inner_by t h k (StmtKind-F.Call x args) (ap out-StmtKind is ∙ s.outs-Call x args) c)

pub goto_entries : (k : StmtKind) (old : List Name) (l : ℕ) → k ≡ s.Goto l → AreEntries old old (inner_in k)
goto_entries k old l is = none_in k old (λ t h c. inner_by t h k (StmtKind-F.Goto l) (ap out-StmtKind is ∙ s.outs-Goto l) c)

pub compound_entries : (k : StmtKind) (old new : List Name) (ss zs : List Stmt) → k ≡ s.Compound ss → zs ≡ ss → AreEntries old new (stmts_in zs) → AreEntries old new (inner_in k)
compound_entries k old new ss zs is same are =
    entries_same old new (stmts_in zs) (inner_in k) (λ c. c)
    (λ t h c. inner_by t h k (StmtKind-F.Compound ss) (ap out-StmtKind is ∙ s.outs-Compound ss) c ∙ ap (λ ys. entries_of (stmts_in ys c t h)) (sym same)) are

pub repeat_entries : (k : StmtKind) (old new : List Name) (ss zs : List Stmt) (e : Expr) → k ≡ s.Repeat ss e → zs ≡ ss → AreEntries old new (stmts_in zs) → AreEntries old new (inner_in k)
repeat_entries k old new ss zs e is same are =
    entries_same old new (stmts_in zs) (inner_in k) (λ c. c)
    (λ t h c. inner_by t h k (StmtKind-F.Repeat ss e) (ap out-StmtKind is ∙ s.outs-Repeat ss e) c ∙ ap (λ ys. entries_of (stmts_in ys c t h)) (sym same)) are

pub case_entries : (k : StmtKind) (old new : List Name) (e : Expr) (arms zs : List Arm) → k ≡ s.Case e arms → zs ≡ arms → AreEntries old new (arms_in zs) → AreEntries old new (inner_in k)
case_entries k old new e arms zs is same are =
    entries_same old new (arms_in zs) (inner_in k) (λ c. c)
    (λ t h c. inner_by t h k (StmtKind-F.Case e arms) (ap out-StmtKind is ∙ s.outs-Case e arms) c ∙ ap (λ ys. entries_of (arms_in ys c t h)) (sym same)) are

pub while_entries : (k : StmtKind) (old new : List Name) (e : Expr) (x y : Stmt) → k ≡ s.While e x → y ≡ x → AreEntries old new (stmts_in (y ∷ [])) → AreEntries old new (inner_in k)
while_entries k old new e x y is same are =
    entries_same old new (stmts_in (y ∷ [])) (inner_in k) (λ c. c)
    (λ t h c. inner_by t h k (StmtKind-F.While e x) (ap out-StmtKind is ∙ s.outs-While e x) c ∙ ap (λ z. entries_of (stmts_in (z ∷ []) c t h)) (sym same)) are

pub for_entries : (k : StmtKind) (old new : List Name) (i : Text) (a : Expr) (down : Bool) (b : Expr) (x y : Stmt) → k ≡ s.For i a down b x → y ≡ x
    → AreEntries old new (stmts_in (y ∷ [])) → AreEntries old new (inner_in k)
for_entries k old new i a down b x y is same are =
    entries_same old new (stmts_in (y ∷ [])) (inner_in k) context_in_for
    (λ t h c. inner_by t h k (StmtKind-F.For i a down b x) (ap out-StmtKind is ∙ s.outs-For i a down b x) c
    ∙ ap (λ z. entries_of (stmts_in (z ∷ []) (context_in_for c) t h)) (sym same)) are

pub with_entries : (k : StmtKind) (old new : List Name) (rs : List Access) (x y : Stmt) → k ≡ s.With rs x → y ≡ x → AreEntries old new (stmts_in (y ∷ [])) → AreEntries old new (inner_in k)
with_entries k old new rs x y is same are =
    entries_same old new (stmts_in (y ∷ [])) (inner_in k) (λ c. context_with c (map access_node rs))
    (λ t h c. inner_by t h k (StmtKind-F.With rs x) (ap out-StmtKind is ∙ s.outs-With rs x) c
    ∙ ap (λ z. entries_of (stmts_in (z ∷ []) (context_with c (map access_node rs)) t h)) (sym same)) are

pub if_entries : (k : StmtKind) (old new : List Name) (e : Expr) (x y : Stmt) (o : Option Stmt) → k ≡ s.If e x o → o ≡ None → y ≡ x
    → AreEntries old new (stmts_in (y ∷ [])) → AreEntries old new (inner_in k)
if_entries k old new e x y o is none same are =
    entries_same old new (stmts_in (y ∷ [])) (inner_in k) (λ c. c)
    (λ t h c. inner_by t h k (StmtKind-F.If e x None) (ap out-StmtKind (is ∙ ap (s.If e x) none) ∙ s.outs-If e x None) c
    ∙ ap (λ z. entries_of (stmts_in (z ∷ []) c t h)) (sym same)) are

pub else_entries : (k : StmtKind) (old middle new : List Name) (e : Expr) (x y v w : Stmt) (o : Option Stmt) → k ≡ s.If e x o → o ≡ Some y → v ≡ x → w ≡ y
    → AreEntries old middle (stmts_in (v ∷ [])) → AreEntries middle new (stmts_in (w ∷ [])) → AreEntries old new (inner_in k)
else_entries k old middle new e x y v w o is some first second before more = record {
  over = λ t h c.
      more.over t h c
      ∙ (ap (λ ks. ks ++ entries_of (stmts_in (w ∷ []) c t h)) (before.over t h c)
      ∙ (append_assoc (map (λ m. m.0) old) (entries_of (stmts_in (v ∷ []) c t h)) (entries_of (stmts_in (w ∷ []) c t h))
      ∙ (ap (λ z. map (λ m. m.0) old ++ entries_of (stmts_in (z ∷ (w ∷ [])) c t h)) first
      ∙ (ap (λ z. map (λ m. m.0) old ++ entries_of (stmts_in (x ∷ (z ∷ [])) c t h)) second
      ∙ ap (λ es. map (λ m. m.0) old ++ es)
      (sym (inner_by t h k (StmtKind-F.If e x (Some y)) (ap out-StmtKind (is ∙ ap (s.If e x) some) ∙ s.outs-If e x (Some y)) c))))));
}

pub on_ok : {A E : Type 0} (r : Result A E) (P Q : Type 0) → (P → Q) → OnOk r P → OnOk r Q
on_ok (Ok x) P Q f p = f p
on_ok (Err e) P Q f p = p
