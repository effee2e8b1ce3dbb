-- The rows of a statement by its kind.
use Rattle.std.proofs.Common.{◌≡◌, ◌<◌, ◌≤◌, ℕ, ◌+◌, Bool, List, [], ◌++◌, ◌-◌, length, map, take, drop, get_or, Option, Some, None, option_map, refl, ap, sym, ◌∙◌, append-nil}
use Rattle.dice_base.specs.declared.name.Name.{Name}
use Rattle.pascal_tree.specs.declared.expr.Expr.{Expr}
use Rattle.pascal_tree.specs.declared.expr.Access.{Access}
use Rattle.pascal_tree.specs.declared.expr.Arg.{Arg}
use Rattle.pascal_tree.specs.declared.stmt.Stmt.{Stmt, out-Stmt}
use Rattle.pascal_tree.specs.declared.stmt.StmtKind.{StmtKind, StmtKind-F, out-StmtKind}
use Rattle.pascal_tree.specs.declared.stmt.StmtKind.TheVariants as s
use Rattle.pascal_tree.specs.declared.stmt.Arm.{Arm, out-Arm}
use Rattle.check_rules.specs.Typing.{Text}
use Rattle.check_rules.specs.declared.entity.Entity.{Entity}
use Rattle.check_rules.specs.declared.entity.Entity.TheVariants.{ConstantOf, TypeOf, VariableOf, FileOf, FieldOf, RoutineOf, StandardOf}
use Rattle.core_tree.specs.declared.form.ForLoop.{ForLoop}
use Rattle.core_tree.specs.declared.form.StatementOp.TheVariants as stmt
use Rattle.core_tree.specs.declared.program.LinkEnd.{LinkEnd}
use Rattle.core_tree.specs.Control.{CoreRow, link_flow, statement_rows, inner_rows, next_in, in_sequence, after_inner, around_inner, first_entry}
use Rattle.core_tree.specs.Plain.{Form, Heading, Statement, Statements, Last, Then}
use Rattle.core_tree.specs.Shapes.{ShapeTree}
use Rattle.check_rules.specs.Typing.{bounds_of}
use Rattle.expression_rules.specs.Accesses.{entity_at}
use Rattle.resolve_expr.specs.declared.context.Context.{Context}
use Rattle.resolve_expr.specs.Nodes.{Node}
use Rattle.resolve_expr.specs.Expressions.{node_of}
use Rattle.resolve_statements.specs.declared.place.Place.{Place}
use Rattle.resolve_statements.specs.Forms.{loop_over, lost_loop, for_form, for_form_of, context_in_for, context_with}
use Rattle.resolve_statements.specs.Statements.{form_in, access_node}
use Rattle.resolve_statements.specs.Bodies.{KindBody, ArmBody, in_kind, inner_of, plain_form, statement_of}
use Rattle.resolve_statements.specs.Tables.{around_of, sequence_rows, branch_rows, rows_inside, stmts_in, arms_in, stmt_rows, stmts_rows, arm_rows, arms_rows, head_rows, kind_rows, place_before, turn_place, step_place, end_place, IsBefore}
use Rattle.resolve_statements.proofs.Layers.{over, kind_layer, arm_layer, stmt_layer}
use Rattle.resolve_statements.proofs.Over.{rest_whole, drop_turn, drop_end}

-- ---- what stands directly in a statement

in_line : (ss : Statements) (p : Place) → inner_rows LinkEnd (Option ℕ) link_flow ss None p.routine.0 p.after (around_of p) ≡ sequence_rows ss p
in_line Last p = refl
in_line (Then x ss) p =
    ap (λ xs. statement_rows LinkEnd (Option ℕ) link_flow x p.routine.0 (next_in LinkEnd (Option ℕ) link_flow ss p.after) (around_of p) ++ xs) (in_line ss p)

in_turns : (f : Form) → f.op ≡ stmt.Repeat → (ss : Statements) (p : Place)
    → inner_rows LinkEnd (Option ℕ) link_flow ss (Some f) p.routine.0 p.after (around_of p) ≡ sequence_rows ss p
in_turns f is Last p = refl
in_turns f is (Then x ss) p =
    ap (λ o. statement_rows LinkEnd (Option ℕ) link_flow x p.routine.0 (in_sequence LinkEnd (Option ℕ) link_flow (Some f) o ss p.after) (around_of p)
    ++ inner_rows LinkEnd (Option ℕ) link_flow ss (Some f) p.routine.0 p.after (around_of p)) is
    ∙ ap (λ xs. statement_rows LinkEnd (Option ℕ) link_flow x p.routine.0 (next_in LinkEnd (Option ℕ) link_flow ss p.after) (around_of p) ++ xs) (in_turns f is ss p)

in_branches : (f : Form) → ((ss : Statements) (a : LinkEnd) → in_sequence LinkEnd (Option ℕ) link_flow (Some f) f.op ss a ≡ a) → (ss : Statements) (p : Place)
    → inner_rows LinkEnd (Option ℕ) link_flow ss (Some f) p.routine.0 p.after (around_of p) ≡ branch_rows ss p
in_branches f apart Last p = refl
in_branches f apart (Then x ss) p =
    ap (λ a. statement_rows LinkEnd (Option ℕ) link_flow x p.routine.0 a (around_of p)
    ++ inner_rows LinkEnd (Option ℕ) link_flow ss (Some f) p.routine.0 p.after (around_of p)) (apart ss p.after)
    ∙ ap (λ xs. statement_rows LinkEnd (Option ℕ) link_flow x p.routine.0 p.after (around_of p) ++ xs) (in_branches f apart ss p)

in_for : (f : Form) (l : ForLoop) → f.op ≡ stmt.For l → (x : Statement) (n : Name) (p : Place)
    → rows_inside (Some f) (Then x Last) n p ≡ statement_rows LinkEnd (Option ℕ) link_flow x p.routine.0 (step_place n p).after (around_of (step_place n p)) ++ []
in_for f l is x n p =
    ap (λ o. statement_rows LinkEnd (Option ℕ) link_flow x p.routine.0
    (in_sequence LinkEnd (Option ℕ) link_flow (Some f) o Last (after_inner LinkEnd (Option ℕ) link_flow f o n.0 (first_entry (Then x Last)) p.after))
    (around_inner LinkEnd (Option ℕ) link_flow f o n.0 (around_of p)) ++ []) is

abbrev loop_for : Context → Bool → Option Entity → ForLoop
loop_for c down (Some (VariableOf v)) = loop_over c v down (bounds_of c.env.table v.typing)
loop_for c down e = lost_loop down

pub for_op : (c : Context) (down : Bool) (a b : Node) (e : Option Entity) → (for_form_of c down a b e).op ≡ stmt.For (loop_for c down e)
for_op c down a b None = refl
for_op c down a b (Some (ConstantOf k t)) = refl
for_op c down a b (Some (TypeOf t n)) = refl
for_op c down a b (Some (VariableOf v)) = refl
for_op c down a b (Some (FileOf f)) = refl
for_op c down a b (Some (FieldOf f)) = refl
for_op c down a b (Some (RoutineOf f)) = refl
for_op c down a b (Some (StandardOf f)) = refl

module _ (trees : List ShapeTree) (headings : ℕ → Heading) where
  -- ---- a statement: its own row before those in it

  pub stmt_split : (x : Stmt) (c : Context) (p : Place)
      → stmt_rows x c p trees headings ≡ head_rows (out-Stmt x).kind c (out-Stmt x).name p trees headings ++ kind_rows (out-Stmt x).kind c (out-Stmt x).name p trees headings
  stmt_split x c p = ap (λ y. statement_rows LinkEnd (Option ℕ) link_flow y p.routine.0 p.after (around_of p)) (stmt_layer trees headings x c)

  pub arm_is : (a : Arm) (c : Context) (p : Place) → arm_rows a c p trees headings ≡ stmt_rows (out-Arm a).body c p trees headings
  arm_is a c p = ap (λ (y : ArmBody). statement_rows LinkEnd (Option ℕ) link_flow (y.body c) p.routine.0 p.after (around_of p)) (arm_layer trees headings a)

  rows_by : (k : StmtKind) (x : StmtKind-F StmtKind Arm Stmt) → out-StmtKind k ≡ x → (c : Context) (n : Name) (p : Place)
      → kind_rows k c n p trees headings
      ≡ rows_inside (option_map (plain_form trees headings) (form_in (λ (a : ArmBody). a.constants) (over trees headings x) c)) (inner_of (over trees headings x) c) n p
  rows_by k x is c n p =
      ap (λ (b : KindBody). rows_inside (option_map (plain_form trees headings) (b.form c)) (b.inner c) n p)
      (kind_layer trees headings k ∙ ap (λ y. in_kind (over trees headings y)) is)

  -- ---- by kinds

  pub empty_rows : (k : StmtKind) → k ≡ s.Empty → (c : Context) (n : Name) (p : Place) → kind_rows k c n p trees headings ≡ []
  empty_rows k is c n p = rows_by k StmtKind-F.Empty (ap out-StmtKind is ∙ s.outs-Empty) c n p

  pub assign_rows : (k : StmtKind) (a : Access) (e : Expr) → k ≡ s.Assign a e → (c : Context) (n : Name) (p : Place) → kind_rows k c n p trees headings ≡ []
  assign_rows k a e is c n p = rows_by k (StmtKind-F.Assign a e) (ap out-StmtKind is ∙ s.outs-Assign a e) c n p

  pub call_rows : (k : StmtKind) (x : Text) (args : List Arg) → k ≡ s.Call x args → (c : Context) (n : Name) (p : Place) → kind_rows k c n p trees headings ≡ []
  call_rows k x args is c n p = rows_by k (StmtKind-F.Call x args) (ap out-StmtKind is ∙ s.outs-Call x args) c n p

  pub goto_rows : (k : StmtKind) (l : ℕ) → k ≡ s.Goto l → (c : Context) (n : Name) (p : Place) → kind_rows k c n p trees headings ≡ []
  goto_rows k l is c n p = rows_by k (StmtKind-F.Goto l) (ap out-StmtKind is ∙ s.outs-Goto l) c n p

  pub compound_rows : (k : StmtKind) (ss : List Stmt) → k ≡ s.Compound ss → (c : Context) (n : Name) (p : Place)
      → kind_rows k c n p trees headings ≡ stmts_rows ss c p trees headings
  compound_rows k ss is c n p =
      rows_by k (StmtKind-F.Compound ss) (ap out-StmtKind is ∙ s.outs-Compound ss) c n p ∙ in_line (stmts_in ss c trees headings) p

  pub repeat_rows : (k : StmtKind) (ss : List Stmt) (e : Expr) → k ≡ s.Repeat ss e → (c : Context) (n : Name) (p : Place)
      → kind_rows k c n p trees headings ≡ stmts_rows ss c (turn_place n p) trees headings
  repeat_rows k ss e is c n p =
      rows_by k (StmtKind-F.Repeat ss e) (ap out-StmtKind is ∙ s.outs-Repeat ss e) c n p
      ∙ in_turns _ refl (stmts_in ss c trees headings) (turn_place n p)

  pub while_rows : (k : StmtKind) (e : Expr) (x : Stmt) → k ≡ s.While e x → (c : Context) (n : Name) (p : Place)
      → kind_rows k c n p trees headings ≡ stmt_rows x c (turn_place n p) trees headings
  while_rows k e x is c n p =
      rows_by k (StmtKind-F.While e x) (ap out-StmtKind is ∙ s.outs-While e x) c n p
      ∙ append-nil (stmt_rows x c (turn_place n p) trees headings)

  -- what stands behind `else`
  abbrev pub other_rows : Option Stmt → Context → Place → List CoreRow
  other_rows None c p = []
  other_rows (Some y) c p = stmt_rows y c p trees headings

  if_by : (e : Expr) (x : Stmt) (o : Option Stmt) (c : Context) (n : Name) (p : Place)
      → rows_inside (option_map (plain_form trees headings) (form_in (λ (a : ArmBody). a.constants) (over trees headings (StmtKind-F.If e x o)) c)) (inner_of (over trees headings (StmtKind-F.If e x o)) c) n p
      ≡ stmt_rows x c p trees headings ++ other_rows o c p
  if_by e x None c n p = refl
  if_by e x (Some y) c n p = ap (λ zs. stmt_rows x c p trees headings ++ zs) (append-nil (stmt_rows y c p trees headings))

  pub if_rows : (k : StmtKind) (e : Expr) (x : Stmt) (o : Option Stmt) → k ≡ s.If e x o → (c : Context) (n : Name) (p : Place)
      → kind_rows k c n p trees headings ≡ stmt_rows x c p trees headings ++ other_rows o c p
  if_rows k e x o is c n p = rows_by k (StmtKind-F.If e x o) (ap out-StmtKind is ∙ s.outs-If e x o) c n p ∙ if_by e x o c n p

  pub if_alone : (k : StmtKind) (e : Expr) (x : Stmt) (o : Option Stmt) → k ≡ s.If e x o → o ≡ None → (c : Context) (n : Name) (p : Place)
      → kind_rows k c n p trees headings ≡ stmt_rows x c p trees headings
  if_alone k e x o is none c n p =
      if_rows k e x o is c n p ∙ (ap (λ z. stmt_rows x c p trees headings ++ other_rows z c p) none ∙ append-nil (stmt_rows x c p trees headings))

  pub if_else : (k : StmtKind) (e : Expr) (x y : Stmt) (o : Option Stmt) → k ≡ s.If e x o → o ≡ Some y → (c : Context) (n : Name) (p : Place)
      → kind_rows k c n p trees headings ≡ stmt_rows x c p trees headings ++ stmt_rows y c p trees headings
  if_else k e x y o is some c n p = if_rows k e x o is c n p ∙ ap (λ z. stmt_rows x c p trees headings ++ other_rows z c p) some

  pub case_rows : (k : StmtKind) (e : Expr) (arms : List Arm) → k ≡ s.Case e arms → (c : Context) (n : Name) (p : Place)
      → kind_rows k c n p trees headings ≡ arms_rows arms c p trees headings
  case_rows k e arms is c n p =
      rows_by k (StmtKind-F.Case e arms) (ap out-StmtKind is ∙ s.outs-Case e arms) c n p
      ∙ in_branches _ (λ ss a. refl) (arms_in arms c trees headings) p

  pub for_rows : (k : StmtKind) (x : Text) (a : Expr) (down : Bool) (b : Expr) (y : Stmt) → k ≡ s.For x a down b y → (c : Context) (n : Name) (p : Place)
      → kind_rows k c n p trees headings ≡ stmt_rows y (context_in_for c) (step_place n p) trees headings
  for_rows k x a down b y is c n p =
      rows_by k (StmtKind-F.For x a down b y) (ap out-StmtKind is ∙ s.outs-For x a down b y) c n p
      ∙ (in_for (plain_form trees headings (for_form c x down (node_of c a) (node_of c b))) (loop_for c down (entity_at c.env x))
      (for_op c down (node_of c a) (node_of c b) (entity_at c.env x)) (statement_of trees headings y (context_in_for c)) n p
      ∙ append-nil (stmt_rows y (context_in_for c) (step_place n p) trees headings))

  pub with_rows : (k : StmtKind) (records : List Access) (y : Stmt) → k ≡ s.With records y → (c : Context) (n : Name) (p : Place)
      → kind_rows k c n p trees headings ≡ stmt_rows y (context_with c (map access_node records)) (end_place n p) trees headings
  with_rows k records y is c n p =
      rows_by k (StmtKind-F.With records y) (ap out-StmtKind is ∙ s.outs-With records y) c n p
      ∙ append-nil (stmt_rows y (context_with c (map access_node records)) (end_place n p) trees headings)

  -- ---- turns over a sequence and over arms

  pub stmts_turn : (xs : List Stmt) (i : ℕ) (x : Stmt) → i < length xs → x ≡ get_or xs i x → (c : Context) (p q : Place) → IsBefore (take (length xs - (i + 1)) (drop (i + 1) xs)) p q
      → stmts_rows (drop i xs) c p trees headings ≡ stmt_rows x c q trees headings ++ stmts_rows (drop (i + 1) xs) c p trees headings
  stmts_turn xs i x inside is c p q before =
      ap (λ ys. stmts_rows ys c p trees headings) (drop_turn xs i x inside is)
      ∙ ap (λ r. stmt_rows x c r trees headings ++ stmts_rows (drop (i + 1) xs) c p trees headings) (sym (before.over trees headings c ∙ ap (λ ys. place_before (stmts_in ys c trees headings) p) (rest_whole xs (i + 1))))

  pub arms_turn : (xs : List Arm) (i : ℕ) (x : Arm) → i < length xs → x ≡ get_or xs i x → (c : Context) (p : Place)
      → arms_rows (drop i xs) c p trees headings ≡ arm_rows x c p trees headings ++ arms_rows (drop (i + 1) xs) c p trees headings
  arms_turn xs i x inside is c p = ap (λ ys. arms_rows ys c p trees headings) (drop_turn xs i x inside is)

  pub stmts_end : (xs : List Stmt) (i : ℕ) → length xs ≤ i → (c : Context) (p : Place) → stmts_rows (drop i xs) c p trees headings ≡ []
  stmts_end xs i past c p = ap (λ ys. stmts_rows ys c p trees headings) (drop_end xs i past)

  pub arms_end : (xs : List Arm) (i : ℕ) → length xs ≤ i → (c : Context) (p : Place) → arms_rows (drop i xs) c p trees headings ≡ []
  arms_end xs i past c p = ap (λ ys. arms_rows ys c p trees headings) (drop_end xs i past)
