-- The plain statements of a resolved program, over the tree: each statement with its own form, in what stands around it. A
-- compound has no form.
use Rattle.std.specs.Prelude.{ℕ, List, [], ◌∷◌, ◌++◌, map, Some, None, option_map, option_to_list}
use Rattle.pascal_tree.specs.declared.stmt.Constant.{Constant as WrittenConstant}
use Rattle.pascal_tree.specs.declared.stmt.Stmt.{Stmt as Tree, Stmt-F, fold-Stmt}
use Rattle.pascal_tree.specs.declared.stmt.StmtKind.{StmtKind, StmtKind-F, fold-StmtKind}
use Rattle.pascal_tree.specs.declared.stmt.Arm.{Arm, Arm-F, fold-Arm}
use Rattle.core_tree.specs.declared.form.StatementForm.{StatementForm}
use Rattle.core_tree.specs.Plain.{Form, Heading, Statement, Stmt, Statements, Last, Then}
use Rattle.core_tree.specs.Shapes.{ShapeTree, tree_of}
use Rattle.core_tree.specs.Views.{callees_in, joined_shapes, parts_in, shapes_of}
use Rattle.resolve_expr.specs.declared.context.Context.{Context}
use Rattle.resolve_statements.specs.Forms.{context_in_for, context_with}
use Rattle.resolve_statements.specs.Statements.{FormRule, access_node, form_in}

-- a statement, in what stands around it
abbrev pub Body : Type 0
Body = Context → Statement

-- a statement without its name and label: its form, and the statements directly in it
pub record KindBody : Type 0 where
  pub form : FormRule
  pub inner : Context → Statements

pub record ArmBody : Type 0 where
  pub constants : List WrittenConstant
  pub body : Body

abbrev pub statements_in : List Body → Context → Statements
statements_in [] c = Last
statements_in (s ∷ ss) c = Then (s c) (statements_in ss c)

-- ---- what stands in a statement: the body of a `for` in one hold more, that of a `with` in its records

abbrev pub inner_of : StmtKind-F KindBody ArmBody Body → Context → Statements
inner_of StmtKind-F.Empty c = Last
inner_of (StmtKind-F.Assign a e) c = Last
inner_of (StmtKind-F.Call x args) c = Last
inner_of (StmtKind-F.Goto label) c = Last
inner_of (StmtKind-F.Compound ss) c = statements_in ss c
inner_of (StmtKind-F.If e s None) c = Then (s c) Last
inner_of (StmtKind-F.If e s (Some t)) c = Then (s c) (Then (t c) Last)
inner_of (StmtKind-F.Case e arms) c = statements_in (map (λ a. a.body) arms) c
inner_of (StmtKind-F.While e s) c = Then (s c) Last
inner_of (StmtKind-F.Repeat ss e) c = statements_in ss c
inner_of (StmtKind-F.For x first down last s) c = Then (s (context_in_for c)) Last
inner_of (StmtKind-F.With records s) c = Then (s (context_with c (map access_node records))) Last

abbrev pub in_kind : StmtKind-F KindBody ArmBody Body → KindBody
in_kind k = record { form = form_in (λ a. a.constants) k; inner = inner_of k }

abbrev pub in_arm : Arm-F KindBody ArmBody Body → ArmBody
in_arm a = record { constants = a.constants; body = a.body }

-- with these shapes as the table of types, and these headings of routines
module _ (trees : List ShapeTree) (headings : ℕ → Heading) where
  abbrev pub plain_form : StatementForm → Form
  plain_form f = record {
    level = f.level;
    holds = f.holds;
    op = f.op;
    parts = parts_in f;
    shapes = map (tree_of trees) (option_to_list f.shape ++ joined_shapes (map shapes_of f.parts));
    headings = map headings (callees_in (parts_in f));
  }

  abbrev pub in_stmt : Stmt-F KindBody ArmBody Body → Body
  in_stmt s c = Stmt s.name.0 s.label (option_map plain_form (s.kind.form c)) (s.kind.inner c)

  unfoldable pub statement_of : Tree → Body
  statement_of = fold-Stmt KindBody ArmBody Body in_kind in_arm in_stmt

  unfoldable pub kind_body : StmtKind → KindBody
  kind_body = fold-StmtKind KindBody ArmBody Body in_kind in_arm in_stmt

  unfoldable pub arm_body : Arm → ArmBody
  arm_body = fold-Arm KindBody ArmBody Body in_kind in_arm in_stmt
