-- Where statements begin, by their kinds.
use Rattle.std.proofs.Common.{◌≡◌, ℕ, Bool, true, false, List, [], ◌∷◌, map, Option, Some, None, option_map, refl, ap, sym, ◌∙◌}
use Rattle.dice_base.specs.declared.name.Name.{Name}
use Rattle.pascal_tree.specs.declared.expr.Expr.{Expr}
use Rattle.pascal_tree.specs.declared.expr.Arg.{Arg}
use Rattle.pascal_tree.specs.declared.stmt.Stmt.{Stmt, out-Stmt}
use Rattle.pascal_tree.specs.declared.stmt.StmtKind.{StmtKind, StmtKind-F, out-StmtKind, roll-StmtKind, roll-out-StmtKind}
use Rattle.pascal_tree.specs.declared.stmt.StmtKind.TheVariants as s
use Rattle.pascal_tree.specs.declared.stmt.Arm.{Arm}
use Rattle.check_rules.specs.Typing.{domain_of}
use Rattle.check_rules.specs.declared.typing.Domain.{Domain}
use Rattle.check_rules.specs.declared.entity.Entity.{Entity}
use Rattle.check_rules.specs.declared.entity.Entity.TheVariants.{ConstantOf, TypeOf, VariableOf, FileOf, FieldOf, RoutineOf, StandardOf}
use Rattle.check_rules.specs.declared.entity.Standard.{Standard}
use Rattle.check_rules.specs.declared.entity.Standard.TheVariants as standard
use Rattle.core_tree.specs.declared.form.StatementOp.{StatementOp}
use Rattle.core_tree.specs.Control.{entry_by, op_in, first_entry, entry_of}
use Rattle.core_tree.specs.Plain.{Form, Heading, Statements}
use Rattle.core_tree.specs.Shapes.{ShapeTree}
use Rattle.expression_rules.specs.Accesses.{entity_at}
use Rattle.resolve_expr.specs.declared.context.Context.{Context}
use Rattle.resolve_expr.specs.Nodes.{Node, Argument, place_or_lost}
use Rattle.resolve_expr.specs.Expressions.{node_of, argument_of}
use Rattle.resolve_statements.specs.Forms.{heap_form_of, new_form, dispose_form, for_form}
use Rattle.resolve_statements.specs.Statements.{form_in, standard_form, call_form_of, call_form}
use Rattle.resolve_statements.specs.Bodies.{KindBody, ArmBody, in_kind, inner_of, plain_form, statement_of}
use Rattle.resolve_statements.specs.Tables.{BeginsAt, FirstBeginsAt, stmts_in}
use Rattle.resolve_statements.proofs.Layers.{over, kind_layer, stmt_layer}
use Rattle.resolve_statements.proofs.Rows.{for_op}

-- a statement of this operation begins at its own gate
abbrev OwnGate : StatementOp → Type 0
OwnGate o = (f : Form) (n inner : ℕ) → entry_by (Some f) o n inner ≡ n

heap_gate : (c : Context) (new : Bool) (p : Node) (d : Option Domain) → OwnGate (heap_form_of c new p d).op
heap_gate c new p None f n inner = refl
heap_gate c true p (Some d) f n inner = refl
heap_gate c false p (Some d) f n inner = refl

new_gate : (c : Context) (args : List Argument) → OwnGate (new_form c args).op
new_gate c [] f n inner = refl
new_gate c (a ∷ args) f n inner =
    heap_gate c true (place_or_lost a.value.access) (domain_of c.env.table (place_or_lost a.value.access).typing) f n inner

dispose_gate : (c : Context) (args : List Argument) → OwnGate (dispose_form c args).op
dispose_gate c [] f n inner = refl
dispose_gate c (a ∷ args) f n inner = heap_gate c false a.value.node (domain_of c.env.table a.value.node.typing) f n inner

standard_gate : (c : Context) (x : Standard) (args : List Arg) → OwnGate (standard_form c x args).op
standard_gate c standard.Abs args f n inner = refl
standard_gate c standard.Sqr args f n inner = refl
standard_gate c standard.Odd args f n inner = refl
standard_gate c standard.Ord args f n inner = refl
standard_gate c standard.Chr args f n inner = refl
standard_gate c standard.Succ args f n inner = refl
standard_gate c standard.Pred args f n inner = refl
standard_gate c standard.Eof args f n inner = refl
standard_gate c standard.Eoln args f n inner = refl
standard_gate c standard.New args f n inner = new_gate c (map (argument_of c) args) f n inner
standard_gate c standard.Dispose args f n inner = dispose_gate c (map (argument_of c) args) f n inner
standard_gate c standard.Read args f n inner = refl
standard_gate c standard.Readln args f n inner = refl
standard_gate c standard.Write args f n inner = refl
standard_gate c standard.Writeln args f n inner = refl

call_gate : (c : Context) (args : List Arg) (e : Option Entity) → OwnGate (call_form_of c args e).op
call_gate c args None f n inner = refl
call_gate c args (Some (ConstantOf k t)) f n inner = refl
call_gate c args (Some (TypeOf t x)) f n inner = refl
call_gate c args (Some (VariableOf v)) f n inner = refl
call_gate c args (Some (FileOf b)) f n inner = refl
call_gate c args (Some (FieldOf x)) f n inner = refl
call_gate c args (Some (RoutineOf r)) f n inner = refl
call_gate c args (Some (StandardOf x)) f n inner = standard_gate c x args f n inner

abbrev entry_in : Option Form → ℕ → Statements → ℕ
entry_in f n inner = entry_by f (op_in f) n (first_entry inner)

module _ (trees : List ShapeTree) (headings : ℕ → Heading) where
  begins_by : (x : Stmt) (k : StmtKind-F StmtKind Arm Stmt) → out-StmtKind (out-Stmt x).kind ≡ k → (c : Context)
      → entry_of (statement_of trees headings x c)
      ≡ entry_in (option_map (plain_form trees headings) (form_in (λ (a : ArmBody). a.constants) (over trees headings k) c)) (out-Stmt x).name.0 (inner_of (over trees headings k) c)
  begins_by x k is c =
      ap entry_of (stmt_layer trees headings x c)
      ∙ ap (λ (b : KindBody). entry_in (option_map (plain_form trees headings) (b.form c)) (out-Stmt x).name.0 (b.inner c))
      (kind_layer trees headings (out-Stmt x).kind ∙ ap (λ y. in_kind (over trees headings y)) is)

  own_gate : (x : Stmt) (k : StmtKind-F StmtKind Arm Stmt) → out-StmtKind (out-Stmt x).kind ≡ k
      → ((ss : List Stmt) → (out-Stmt x).kind ≡ s.Compound ss → ⊥) → ((ss : List Stmt) (e : Expr) → (out-Stmt x).kind ≡ s.Repeat ss e → ⊥)
      → (c : Context) → entry_of (statement_of trees headings x c) ≡ (out-Stmt x).name.0
  own_gate x (StmtKind-F.Compound ss) is other another c =
      absurd (other ss (sym (roll-out-StmtKind (out-Stmt x).kind) ∙ (ap roll-StmtKind is ∙ s.rolls-Compound ss)))
  own_gate x (StmtKind-F.Repeat ss e) is other another c =
      absurd (another ss e (sym (roll-out-StmtKind (out-Stmt x).kind) ∙ (ap roll-StmtKind is ∙ s.rolls-Repeat ss e)))
  own_gate x (StmtKind-F.Empty) is other another c = begins_by x _ is c
  own_gate x (StmtKind-F.Assign a e) is other another c = begins_by x _ is c
  own_gate x (StmtKind-F.Call y args) is other another c =
      begins_by x _ is c
      ∙ call_gate c args (entity_at c.env y) (plain_form trees headings (call_form c y args)) (out-Stmt x).name.0 0
  own_gate x (StmtKind-F.Goto label) is other another c = begins_by x _ is c
  own_gate x (StmtKind-F.If e y None) is other another c = begins_by x _ is c
  own_gate x (StmtKind-F.If e y (Some z)) is other another c = begins_by x _ is c
  own_gate x (StmtKind-F.Case e arms) is other another c = begins_by x _ is c
  own_gate x (StmtKind-F.While e y) is other another c = begins_by x _ is c
  own_gate x (StmtKind-F.For y first down last z) is other another c =
      begins_by x _ is c
      ∙ ap (λ o. entry_by (Some (plain_form trees headings (for_form c y down (node_of c first) (node_of c last)))) o (out-Stmt x).name.0
      (first_entry (inner_of (over trees headings (StmtKind-F.For y first down last z)) c)))
      (for_op c down (node_of c first) (node_of c last) (entity_at c.env y))
  own_gate x (StmtKind-F.With records y) is other another c = begins_by x _ is c

pub begins_own : (x : Stmt) → ((ss : List Stmt) → (out-Stmt x).kind ≡ s.Compound ss → ⊥) → ((ss : List Stmt) (e : Expr) → (out-Stmt x).kind ≡ s.Repeat ss e → ⊥)
    → BeginsAt x (out-Stmt x).name
begins_own x other another = record { over = λ t h c. own_gate t h x (out-StmtKind (out-Stmt x).kind) refl other another c }

pub begins_compound : (x : Stmt) (ss zs : List Stmt) (n : Name) → (out-Stmt x).kind ≡ s.Compound ss → zs ≡ ss → FirstBeginsAt zs n → BeginsAt x n
begins_compound x ss zs n is same first = record {
  over = λ t h c.
      begins_by t h x (StmtKind-F.Compound ss) (ap out-StmtKind is ∙ s.outs-Compound ss) c
      ∙ (ap (λ ys. first_entry (stmts_in ys c t h)) (sym same) ∙ first.over t h c);
}

pub begins_repeat : (x : Stmt) (ss zs : List Stmt) (e : Expr) (n : Name) → (out-Stmt x).kind ≡ s.Repeat ss e → zs ≡ ss → FirstBeginsAt zs n → BeginsAt x n
begins_repeat x ss zs e n is same first = record {
  over = λ t h c.
      begins_by t h x (StmtKind-F.Repeat ss e) (ap out-StmtKind is ∙ s.outs-Repeat ss e) c
      ∙ (ap (λ ys. first_entry (stmts_in ys c t h)) (sym same) ∙ first.over t h c);
}
