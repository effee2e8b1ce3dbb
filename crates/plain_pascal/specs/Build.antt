-- Short spellings of resolved programs, for worked runs.
use Rattle.std.specs.Prelude.{ℕ, ℤ, pos, negsuc, Bool, true, false, List, [], ◌∷◌, Option, Some, None}
use Rattle.core_tree.specs.declared.op.Op.{Op}
use Rattle.core_tree.specs.declared.op.Op.TheVariants as op
use Rattle.core_tree.specs.declared.op.PlaceOp.TheVariants as place
use Rattle.core_tree.specs.declared.op.Scope.TheVariants as scope
use Rattle.core_tree.specs.declared.op.Storage.{Storage}
use Rattle.core_tree.specs.declared.op.Storage.TheVariants as storage
use Rattle.core_tree.specs.declared.op.WordOp.{WordOp}
use Rattle.core_tree.specs.declared.op.WordOp.TheVariants as word
use Rattle.core_tree.specs.declared.form.StatementOp.{StatementOp}
use Rattle.core_tree.specs.Plain.{Expr, Operation, And, NoMore, exprs_of, Formal, Local, Statement, Stmt, Statements, Last, Then, Routine, Block, Routines, NoRoutine, Also}
use Rattle.core_tree.specs.Shapes.{ShapeTree}
use Rattle.plain_pascal.specs.Run.{Marks}
use Rattle.plain_pascal.specs.State.{State, empty_data, loaded_state}

-- ---- expressions

abbrev pub node : Op → List Expr → Expr
node o es = Operation o (exprs_of es)

abbrev pub two : WordOp → Expr → Expr → Expr
two o a b = Operation (op.Word o) (And a (And b NoMore))

abbrev pub integers : Storage
integers = storage.Ordinal (negsuc 32766) (pos 32767)

-- the place of a variable of the program
abbrev pub global : ℕ → Expr
global n = Operation (op.Place (place.Variable (record { scope = scope.Program; offset = n; by_place = false; frame_words = 0 }))) NoMore

-- that of a variable of the routine so many links up, at this offset among so many words; of what a variable parameter names
abbrev pub local : ℕ → ℕ → ℕ → Expr
local up n words = Operation (op.Place (place.Variable (record { scope = scope.Routine up; offset = n; by_place = false; frame_words = words }))) NoMore

abbrev pub reference : ℕ → ℕ → ℕ → Expr
reference up n words = Operation (op.Place (place.Variable (record { scope = scope.Routine up; offset = n; by_place = true; frame_words = words }))) NoMore

abbrev pub value : Expr → Expr
value e = Operation (op.Word word.Load) (And e NoMore)

abbrev pub number : ℤ → Expr
number z = Operation (op.Word (word.Constant z)) NoMore

-- ---- statements and routines

abbrev pub statements : List Statement → Statements
statements [] = Last
statements (s ∷ ss) = Then s (statements ss)

abbrev pub compound : ℕ → Option ℕ → List Statement → Statement
compound n label inner = Stmt n label None (statements inner)

-- a statement with its name, its label, its level and the holds around it
abbrev pub statement : ℕ → Option ℕ → ℕ → ℕ → StatementOp → List Expr → List Statement → Statement
statement n label level holds o parts inner =
    Stmt n label (Some (record { level = level; holds = holds; op = o; parts = exprs_of parts; shapes = []; headings = [] })) (statements inner)

abbrev pub formal : Bool → ShapeTree → Formal
formal by_place shape = record { ident = []; by_place = by_place; shape = shape }

abbrev pub variable : ShapeTree → Local
variable shape = record { ident = []; shape = shape }

abbrev pub routines : List Routine → Routines
routines [] = NoRoutine
routines (r ∷ rs) = Also r (routines rs)

-- the program or a routine: its name and level, its parameters and result, its variables, the routines in it, and its body
abbrev pub routine : ℕ → ℕ → List Formal → Option ShapeTree → List Local → List Routine → Statement → Routine
routine n level parameters result locals inner body =
    Block (record { name = n; ident = []; level = level; heading = record { parameters = parameters; result = result }; locals = locals }) (routines inner) body

-- ---- runs

abbrev pub no_marks : Marks
no_marks = record { breaks = λ n. false; traces = λ n. false }

-- a program that was loaded, with this input
abbrev pub with_input : List ℕ → State
with_input text = record loaded_state { data_now = record empty_data { input = text } }
