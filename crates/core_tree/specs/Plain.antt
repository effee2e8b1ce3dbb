-- The plain trees of resolved programs, over which their meaning, their sums and their order of control are defined. The
-- declared types of src/ that lead back to themselves do not compute; these do.
use Rattle.std.specs.Prelude.{ℕ, zero, suc, ◌+◌, Bool, true, false, if◌then◌else◌, List, [], ◌∷◌, map, Option, Some, None}
use Rattle.core_tree.specs.declared.op.Op.{Op}
use Rattle.core_tree.specs.declared.form.StatementOp.{StatementOp}
use Rattle.core_tree.specs.declared.form.RoutineForm.{RoutineForm}
use Rattle.core_tree.specs.declared.form.Parameter.{Parameter}
use Rattle.core_tree.specs.declared.form.Parameter.TheVariants as parameter
use Rattle.core_tree.specs.Shapes.{ShapeTree, SetOf, ArrayOf, RecordOf, counted_words, words_of}

-- an operation and its parts, which are evaluated from the first on
mutual
  pub data Expr : Type 0 where
    Operation : (op : Op) → (parts : Exprs) → Expr

  pub data Exprs : Type 0 where
    NoMore : Exprs
    And : (part : Expr) → (others : Exprs) → Exprs

-- a parameter of a heading
pub record Formal : Type 0 where
  pub ident : List ℕ
  pub by_place : Bool
  pub shape : ShapeTree

-- a heading, without the routine's own identifier
pub record Heading : Type 0 where
  pub parameters : List Formal
  pub result : Option ShapeTree

-- the own form of a statement: its routine's level, the holds around it, its kind and its parts, and what tells it apart
-- besides: the shapes of its nodes and the headings of its calls, in the order of evaluation. A compound statement has no
-- own form
pub record Form : Type 0 where
  pub level : ℕ
  pub holds : ℕ
  pub op : StatementOp
  pub parts : Exprs
  pub shapes : List ShapeTree
  pub headings : List Heading

-- the own form of what has a block. That of the program is constant
pub data BlockForm : Type 0 where
  ProgramBlock : BlockForm
  RoutineBlock : (form : RoutineForm) → BlockForm
  StatementBlock : (form : Form) → BlockForm

-- a statement with its name and label, and the statements directly in it; a compound has no form
mutual
  pub data Statement : Type 0 where
    Stmt : (name : ℕ) → (label : Option ℕ) → (form : Option Form) → (inner : Statements) → Statement

  pub data Statements : Type 0 where
    Last : Statements
    Then : (statement : Statement) → (others : Statements) → Statements

-- a variable that a block declares
pub record Local : Type 0 where
  pub ident : List ℕ
  pub shape : ShapeTree

-- what is said of a routine, or of the program, but for its statements
pub record Head : Type 0 where
  pub name : ℕ
  pub ident : List ℕ
  pub level : ℕ
  pub heading : Heading
  pub locals : List Local

-- the program or a routine: its head, the routines in it, and its body
mutual
  pub data Routine : Type 0 where
    Block : (head : Head) → (inner : Routines) → (body : Statement) → Routine

  pub data Routines : Type 0 where
    NoRoutine : Routines
    Also : (routine : Routine) → (others : Routines) → Routines

abbrev pub op_of : Expr → Op
op_of (Operation o ps) = o

abbrev pub parts_of : Expr → Exprs
parts_of (Operation o ps) = ps

-- the part of a number, counted from 0
abbrev pub part_at : Exprs → ℕ → Option Expr
part_at NoMore k = None
part_at (And e es) zero = Some e
part_at (And e es) (suc k) = part_at es k

abbrev pub exprs_of : List Expr → Exprs
exprs_of [] = NoMore
exprs_of (e ∷ es) = And e (exprs_of es)

-- ---- the own form of a routine

-- how a value parameter of this type is taken
abbrev pub value_parameter : ShapeTree → Parameter
value_parameter (SetOf base) = parameter.Set
value_parameter (ArrayOf index component) = parameter.Structure (counted_words (words_of (ArrayOf index component)))
value_parameter (RecordOf fields) = parameter.Structure (counted_words (words_of (RecordOf fields)))
value_parameter tree = parameter.Scalar

abbrev pub parameter_of : Formal → Parameter
parameter_of p = if p.by_place then parameter.ByPlace else value_parameter p.shape

abbrev pub locals_words : List Local → ℕ
locals_words [] = 0
locals_words (l ∷ ls) = words_of l.shape + locals_words ls

abbrev pub has_result : Option ShapeTree → Bool
has_result None = false
has_result (Some tree) = true

-- its level, its parameters, whether it has a result, and the words of its variables
abbrev pub routine_form : Head → RoutineForm
routine_form h = record {
  level = h.level;
  parameters = map parameter_of h.heading.parameters;
  function = has_result h.heading.result;
  local_words = counted_words (locals_words h.locals);
}

-- the program alone has level 0
abbrev pub form_at : ℕ → Head → BlockForm
form_at zero h = ProgramBlock
form_at (suc n) h = RoutineBlock (routine_form h)

abbrev pub head_form : Head → BlockForm
head_form h = form_at h.level h
