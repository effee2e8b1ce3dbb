-- The rows of the table of blocks that statements of a body give, in what stands around them.
use Rattle.std.specs.Prelude.{ℕ, ◌≡◌, List, [], ◌++◌, map, Option, Some, None, option_map, Result, Ok, Err}
use Rattle.dice_base.specs.declared.name.Name.{Name}
use Rattle.pascal_tree.specs.declared.stmt.Stmt.{Stmt, out-Stmt}
use Rattle.pascal_tree.specs.declared.stmt.StmtKind.{StmtKind}
use Rattle.pascal_tree.specs.declared.stmt.Arm.{Arm}
use Rattle.check_rules.specs.declared.fault.CheckEnd.{CheckEnd}
use Rattle.check_rules.specs.declared.fault.CheckEnd.TheVariants as the_end
use Rattle.core_tree.specs.declared.form.CoreForm.{CoreForm}
use Rattle.core_tree.specs.declared.form.CoreForm.TheVariants as block
use Rattle.core_tree.specs.declared.form.StatementForm.{StatementForm}
use Rattle.core_tree.specs.declared.program.CoreBlock.{CoreBlock}
use Rattle.core_tree.specs.declared.program.CoreLabel.{CoreLabel}
use Rattle.core_tree.specs.declared.program.LinkEnd.{LinkEnd}
use Rattle.core_tree.specs.declared.program.LinkEnd.TheVariants as link
use Rattle.core_tree.specs.Control.{CoreRow, link_flow, own_row, statement_rows, inner_rows, next_in, first_entry, entry_of, entries_of, after_in, around_in, Label, label_list, labels_of, labels_in}
use Rattle.core_tree.specs.Plain.{Form, Heading, Statements, Last, Then}
use Rattle.core_tree.specs.Shapes.{ShapeTree}
use Rattle.core_tree.specs.Views.{bare_form, form_over, label_row}
use Rattle.resolve_expr.specs.declared.context.Context.{Context}
use Rattle.resolve_statements.specs.declared.place.Place.{Place}
use Rattle.resolve_statements.specs.Bodies.{statements_in, plain_form, statement_of, kind_body, arm_body}
use Rattle.resolve_statements.specs.Sizes.{form_fault, Pushed}

-- what is made of an own form for a block of this name, or the first of its limits that it passes
abbrev pub Formed : Result CoreForm CheckEnd → Name → StatementForm → Type 0
Formed (Ok g) n f = (g ≡ block.Statement f) × (form_fault n (bare_form (block.Statement f)) ≡ None)
Formed (Err (the_end.Size s)) n f = form_fault n (bare_form (block.Statement f)) ≡ Some s
Formed (Err (the_end.Fault e)) n f = ⊥
Formed (Err the_end.NoMemory) n f = Unit {0}

abbrev pub around_of : Place → Option ℕ
around_of p = option_map (λ n. n.0) p.around

-- a sequence, after whose last statement control goes on there
abbrev pub sequence_rows : Statements → Place → List CoreRow
sequence_rows Last p = []
sequence_rows (Then s ss) p =
    statement_rows LinkEnd (Option ℕ) link_flow s p.routine.0 (next_in LinkEnd (Option ℕ) link_flow ss p.after) (around_of p)
    ++ sequence_rows ss p

-- branches, after each of which control goes on there
abbrev pub branch_rows : Statements → Place → List CoreRow
branch_rows Last p = []
branch_rows (Then s ss) p =
    statement_rows LinkEnd (Option ℕ) link_flow s p.routine.0 p.after (around_of p) ++ branch_rows ss p

-- the rows of blocks, over the shapes of the table of types and the headings of routines
abbrev pub RowsOver : Type 0
RowsOver = List ShapeTree → (ℕ → Heading) → List CoreRow

abbrev pub row_over : List ShapeTree → (ℕ → Heading) → CoreBlock → CoreRow
row_over trees headings b = record {
  name = b.name.0;
  routine = b.routine.0;
  around = option_map (λ n. n.0) b.around;
  next = b.next;
  entries = map (λ n. n.0) b.entries;
  form = form_over trees headings b.form;
}

abbrev pub rows_of : List CoreBlock → RowsOver
rows_of blocks trees headings = map (row_over trees headings) blocks

-- such rows are pushed, whatever the shapes and the headings are
pub record PushedOver {U : Type 0} (result : Result U CheckEnd) (old new : List CoreBlock) (rows : RowsOver) : Type 0 where
  pub over : (trees : List ShapeTree) (headings : ℕ → Heading)
      → Pushed result (rows_of old trees headings) (rows_of new trees headings) (rows trees headings)

-- the row of a statement by itself, at which the statements directly in it begin; a compound has none
abbrev pub own_rows : Name → Place → List Name → Option StatementForm → RowsOver
own_rows n p entries f trees headings =
    own_row LinkEnd (Option ℕ) link_flow (option_map (plain_form trees headings) f) n.0 p.routine.0 (map (λ m. m.0) entries) p.after (around_of p)

-- that of a statement of this kind and name
abbrev pub head_rows : StmtKind → Context → Name → Place → RowsOver
head_rows k c n p trees headings =
    own_row LinkEnd (Option ℕ) link_flow (option_map (plain_form trees headings) ((kind_body trees headings k).form c)) n.0 p.routine.0
    (entries_of ((kind_body trees headings k).inner c)) p.after (around_of p)

-- a statement, with all in it
abbrev pub stmt_rows : Stmt → Context → Place → RowsOver
stmt_rows s c p trees headings =
    statement_rows LinkEnd (Option ℕ) link_flow (statement_of trees headings s c) p.routine.0 p.after (around_of p)

-- what stands in a statement of this name, form and place
abbrev pub rows_inside : Option Form → Statements → Name → Place → List CoreRow
rows_inside f inner n p =
    inner_rows LinkEnd (Option ℕ) link_flow inner f p.routine.0
    (after_in LinkEnd (Option ℕ) link_flow f n.0 (first_entry inner) p.after)
    (around_in LinkEnd (Option ℕ) link_flow f n.0 (around_of p))

abbrev pub kind_rows : StmtKind → Context → Name → Place → RowsOver
kind_rows k c n p trees headings =
    rows_inside (option_map (plain_form trees headings) ((kind_body trees headings k).form c)) ((kind_body trees headings k).inner c) n p

-- statements in what stands around them
abbrev pub InnerOver : Type 0
InnerOver = Context → List ShapeTree → (ℕ → Heading) → Statements

abbrev pub stmts_in : List Stmt → InnerOver
stmts_in ss c trees headings = statements_in (map (statement_of trees headings) ss) c

abbrev pub arms_in : List Arm → InnerOver
arms_in arms c trees headings = statements_in (map (λ a. a.body) (map (arm_body trees headings) arms)) c

abbrev pub stmts_rows : List Stmt → Context → Place → RowsOver
stmts_rows ss c p trees headings = sequence_rows (stmts_in ss c trees headings) p

-- the statement of an arm
abbrev pub arm_rows : Arm → Context → Place → RowsOver
arm_rows a c p trees headings =
    statement_rows LinkEnd (Option ℕ) link_flow ((arm_body trees headings a).body c) p.routine.0 p.after (around_of p)

abbrev pub arms_rows : List Arm → Context → Place → RowsOver
arms_rows arms c p trees headings = branch_rows (arms_in arms c trees headings) p

-- ---- places in a statement

-- before these statements of a sequence
abbrev pub place_before : Statements → Place → Place
place_before ss p = record p { after = next_in LinkEnd (Option ℕ) link_flow ss p.after }

-- in a `while` or a `repeat` of this name
abbrev pub turn_place : Name → Place → Place
turn_place n p = record p { after = link.Gate n }

-- in a `for`, and in a `with`
abbrev pub step_place : Name → Place → Place
step_place n p = record p { after = link.Step n; around = Some n }

abbrev pub end_place : Name → Place → Place
end_place n p = record p { after = link.End n; around = Some n }

-- ---- where statements begin, whatever stands around them

pub record BeginsAt (s : Stmt) (n : Name) : Type 0 where
  pub over : (trees : List ShapeTree) (headings : ℕ → Heading) (c : Context) → entry_of (statement_of trees headings s c) ≡ n.0

pub record FirstBeginsAt (ss : List Stmt) (n : Name) : Type 0 where
  pub over : (trees : List ShapeTree) (headings : ℕ → Heading) (c : Context) → first_entry (stmts_in ss c trees headings) ≡ n.0

pub record IsBefore (ss : List Stmt) (p q : Place) : Type 0 where
  pub over : (trees : List ShapeTree) (headings : ℕ → Heading) (c : Context) → q ≡ place_before (stmts_in ss c trees headings) p

-- the numbers of these are added to those
pub record AreEntries (old new : List Name) (inner : InnerOver) : Type 0 where
  pub over : (trees : List ShapeTree) (headings : ℕ → Heading) (c : Context)
      → map (λ m. m.0) new ≡ map (λ m. m.0) old ++ entries_of (inner c trees headings)

abbrev pub inner_in : StmtKind → InnerOver
inner_in k c trees headings = (kind_body trees headings k).inner c

-- ---- labels, and where their statements begin, whatever stands around them

abbrev pub LabelsOver : Type 0
LabelsOver = Context → List ShapeTree → (ℕ → Heading) → List Label

-- these are added to those
pub record AreLabels (old new : List CoreLabel) (labels : LabelsOver) : Type 0 where
  pub over : (trees : List ShapeTree) (headings : ℕ → Heading) (c : Context)
      → map label_row new ≡ map label_row old ++ labels c trees headings

-- a statement's own
abbrev pub own_labels : Stmt → LabelsOver
own_labels s c trees headings = label_list (out-Stmt s).label (entry_of (statement_of trees headings s c))

-- those of a statement and of all in it
abbrev pub stmt_labels : Stmt → LabelsOver
stmt_labels s c trees headings = labels_of (statement_of trees headings s c)

abbrev pub arm_labels : Arm → LabelsOver
arm_labels a c trees headings = labels_of ((arm_body trees headings a).body c)

abbrev pub labels_over : InnerOver → LabelsOver
labels_over inner c trees headings = labels_in (inner c trees headings)
