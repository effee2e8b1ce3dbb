-- The plain tree of each type of src/ (`Plain`).
use Rattle.std.specs.Prelude.{◌≡◌, ℕ, List, [], ◌∷◌, ◌++◌, map, Option, Some, None, option_map, option_to_list}
use Rattle.dice_base.specs.declared.link.LinkTo.{LinkTo}
use Rattle.core_tree.specs.declared.program.LinkEnd.{LinkEnd}
use Rattle.core_tree.specs.declared.op.Op.{Op}
use Rattle.core_tree.specs.declared.op.Op.TheVariants as op
use Rattle.core_tree.specs.declared.op.CoreExpr.{CoreExpr, CoreExpr-F, fold-CoreExpr}
use Rattle.core_tree.specs.declared.program.CoreBlock.{CoreBlock}
use Rattle.core_tree.specs.declared.program.CoreHeading.{CoreHeading}
use Rattle.core_tree.specs.declared.program.CoreLabel.{CoreLabel}
use Rattle.core_tree.specs.declared.program.CoreRoutine.{CoreRoutine}
use Rattle.core_tree.specs.declared.shape.Shape.{Shape}
use Rattle.core_tree.specs.declared.shape.ShapeEntry.{ShapeEntry}
use Rattle.core_tree.specs.Control.{CoreRow, Label, RoutineRow, core_routines, core_rows, end_of}
use Rattle.core_tree.specs.Lookups.{routine_of}
use Rattle.core_tree.specs.declared.form.StatementForm.{StatementForm}
use Rattle.core_tree.specs.declared.form.CoreForm.{CoreForm}
use Rattle.core_tree.specs.declared.form.CoreForm.TheVariants as block
use Rattle.core_tree.specs.Shapes.{ShapeTree, tree_of, trees_of}
use Rattle.core_tree.specs.Plain.{Expr, Operation, Exprs, NoMore, And, exprs_of, Heading, Head, Routine, BlockForm, ProgramBlock, RoutineBlock, StatementBlock}

-- ---- expressions

-- one operation, whose parts are plain trees already
abbrev pub in_expr : CoreExpr-F Expr → Expr
in_expr x = Operation x.op (exprs_of x.parts)

unfoldable pub expr_of : CoreExpr → Expr
expr_of = fold-CoreExpr Expr in_expr

abbrev pub joined_shapes : List (List Shape) → List Shape
joined_shapes [] = []
joined_shapes (xs ∷ xss) = xs ++ joined_shapes xss

-- the shapes of its nodes, in the order of evaluation
abbrev pub shapes_in : CoreExpr-F (List Shape) → List Shape
shapes_in x = joined_shapes x.parts ++ option_to_list x.shape

unfoldable pub shapes_of : CoreExpr → List Shape
shapes_of = fold-CoreExpr (List Shape) shapes_in

-- the routines that are called, in the order of evaluation
abbrev pub callee_of : Op → List ℕ
callee_of (op.Call c) = c.routine.0 ∷ []
callee_of o = []

abbrev mutual
  pub callees_of : Expr → List ℕ
  callees_of (Operation o ps) = callees_in ps ++ callee_of o

  pub callees_in : Exprs → List ℕ
  callees_in NoMore = []
  callees_in (And e es) = callees_of e ++ callees_in es

-- ---- forms

abbrev pub parts_in : StatementForm → Exprs
parts_in f = exprs_of (map expr_of f.parts)

-- with these shapes as the table of types, and these headings of routines
abbrev pub form_over : List ShapeTree → (ℕ → Heading) → CoreForm → BlockForm
form_over trees headings block.Program = ProgramBlock
form_over trees headings (block.Routine r) = RoutineBlock r
form_over trees headings (block.Statement f) = StatementBlock (record {
  level = f.level;
  holds = f.holds;
  op = f.op;
  parts = parts_in f;
  shapes = map (tree_of trees) (option_to_list f.shape ++ joined_shapes (map shapes_of f.parts));
  headings = map headings (callees_in (parts_in f));
})

-- a form by itself, without shapes and headings. Sums need none
abbrev pub bare_form : CoreForm → BlockForm
bare_form block.Program = ProgramBlock
bare_form (block.Routine r) = RoutineBlock r
bare_form (block.Statement f) = StatementBlock (record {
  level = f.level;
  holds = f.holds;
  op = f.op;
  parts = parts_in f;
  shapes = [];
  headings = [];
})

-- ---- a core as the table of a program

abbrev pub heading_over : List ShapeTree → CoreHeading → Heading
heading_over trees h = record {
  parameters = map (λ p. record { ident = p.ident; by_place = p.by_place; shape = tree_of trees p.shape }) h.parameters;
  result = option_map (tree_of trees) h.result;
}

-- a routine that is not there has the heading of a procedure without parameters, and does not come
abbrev pub heading_by : List ShapeTree → Option CoreRoutine → Heading
heading_by trees None = record { parameters = []; result = None }
heading_by trees (Some r) = heading_over trees r.heading

abbrev pub head_over : List ShapeTree → CoreRoutine → Head
head_over trees r = record {
  name = r.name.0;
  ident = r.ident;
  level = r.level;
  heading = heading_over trees r.heading;
  locals = map (λ v. record { ident = v.ident; shape = tree_of trees v.shape }) r.variables;
}

abbrev pub label_row : CoreLabel → Label
label_row l = record { label = l.label; entry = l.entry.0 }

abbrev pub routine_row : List ShapeTree → CoreRoutine → RoutineRow
routine_row trees r = record { owner = r.owner.0; head = head_over trees r; labels = map label_row r.labels }

abbrev pub block_row : List ShapeTree → List CoreRoutine → CoreBlock → CoreRow
block_row trees routines b = record {
  name = b.name.0;
  routine = b.routine.0;
  around = option_map (λ n. n.0) b.around;
  next = b.next;
  entries = map (λ n. n.0) b.entries;
  form = form_over trees (λ n. heading_by trees (routine_of routines n)) b.form;
}

-- the table of a core, and its routines
abbrev pub block_rows : List ShapeEntry → List CoreRoutine → List CoreBlock → List CoreRow
block_rows entries routines blocks = map (block_row (trees_of entries) routines) blocks

abbrev pub listed_routines : List ShapeEntry → List CoreRoutine → List RoutineRow
listed_routines entries routines = map (routine_row (trees_of entries)) routines

-- where a link leads in a core
abbrev pub core_end : List ShapeEntry → List CoreRoutine → List CoreBlock → ℕ → LinkTo → Option LinkEnd
core_end entries routines blocks n way =
    end_of (block_rows entries routines blocks) (listed_routines entries routines) n way

-- these types, routines and blocks are those of a program: the table of its blocks, and the list of its routines. Then a link
-- leads where `program_end` says
pub record IsTableOf (program : Routine) (entries : List ShapeEntry) (routines : List CoreRoutine) (blocks : List CoreBlock) :
    Type 0 where
  pub blocks_are : block_rows entries routines blocks ≡ core_rows program
  pub routines_are : listed_routines entries routines ≡ core_routines program

-- where a link leads in a program
abbrev pub program_end : Routine → ℕ → LinkTo → Option LinkEnd
program_end program n way = end_of (core_rows program) (core_routines program) n way
