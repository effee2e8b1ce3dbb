-- How many words of code the block of a form is given (`charge`), how many words of temporaries it takes at most (`need`),
-- and how many holds (`holds`). Each row of the table of charges is one line here. `d` is the number of static links from
-- a statement's routine to the owner of a variable or a routine, and 0 where the owner is the program.
use Rattle.std.specs.Prelude.{ℕ, ◌+◌, ◌*◌, max, min, List, [], ◌∷◌, length, if◌then◌else◌}
use Rattle.core_tree.specs.declared.op.Op.{Op}
use Rattle.core_tree.specs.declared.op.Op.TheVariants as op
use Rattle.core_tree.specs.declared.op.PlaceOp.{PlaceOp}
use Rattle.core_tree.specs.declared.op.PlaceOp.TheVariants as place
use Rattle.core_tree.specs.declared.op.WordOp.{WordOp}
use Rattle.core_tree.specs.declared.op.WordOp.TheVariants as word
use Rattle.core_tree.specs.declared.op.SetOp.{SetOp}
use Rattle.core_tree.specs.declared.op.SetOp.TheVariants as set
use Rattle.core_tree.specs.declared.op.EffectOp.{EffectOp}
use Rattle.core_tree.specs.declared.op.EffectOp.TheVariants as effect
use Rattle.core_tree.specs.declared.op.Storage.{Storage}
use Rattle.core_tree.specs.declared.op.Storage.TheVariants as storage
use Rattle.core_tree.specs.declared.op.Scope.{Scope}
use Rattle.core_tree.specs.declared.op.Scope.TheVariants as scope
use Rattle.core_tree.specs.declared.op.Variable.{Variable}
use Rattle.core_tree.specs.declared.form.StatementOp.{StatementOp}
use Rattle.core_tree.specs.declared.form.StatementOp.TheVariants as stmt
use Rattle.core_tree.specs.declared.form.Parameter.{Parameter}
use Rattle.core_tree.specs.declared.form.Parameter.TheVariants as parameter
use Rattle.core_tree.specs.declared.limits.TheConstants.{MAX_COUNTED_CHARGE}
use Rattle.core_tree.specs.Plain.{Expr, Operation, Exprs, NoMore, And, BlockForm, ProgramBlock, RoutineBlock, StatementBlock}

-- sums count up to this and no further
abbrev pub counted_charge : ℕ → ℕ
counted_charge n = min MAX_COUNTED_CHARGE n

-- ---- charges

-- two words for each static link
abbrev pub link_charge : Scope → ℕ
link_charge scope.Program = 0
link_charge (scope.Routine d) = 2 * d

-- variable or function result (its place): 8 + 2d; a variable parameter 4 more
abbrev pub variable_charge : Variable → ℕ
variable_charge v = 8 + link_charge v.scope + (if v.by_place then 4 else 0)

abbrev pub place_charge : PlaceOp → ℕ
place_charge (place.Variable v) = variable_charge v
place_charge (place.Held hold offset) = 8  -- a field by `with`
place_charge (place.Field offset) = 4
place_charge (place.Index first last size) = 24
place_charge (place.Dereference words) = 12

abbrev pub word_charge : WordOp → ℕ
word_charge (word.Constant z) = 4  -- number, constant that is no string, char
word_charge word.Nil = 4
word_charge word.Load = 4  -- value of a scalar place
word_charge word.Negate = 16
word_charge word.Plus = 0
word_charge word.Add = 16
word_charge word.Subtract = 16
word_charge word.Multiply = 20
word_charge word.Divide = 28
word_charge word.Modulo = 32
word_charge word.Not = 8
word_charge word.And = 16
word_charge word.Or = 16
word_charge (word.Compare r) = 16
word_charge (word.CompareSets r) = 48
word_charge (word.CompareStrings r n) = 48
word_charge word.In = 40
word_charge word.Abs = 16
word_charge word.Sqr = 20
word_charge word.Odd = 8
word_charge word.Ord = 0
word_charge word.Chr = 16
word_charge (word.Succ first last) = 20
word_charge (word.Pred first last) = 20
word_charge word.Eof = 8
word_charge word.Eoln = 8

abbrev pub set_charge : SetOp → ℕ
set_charge set.Load = 16  -- value of a set place
set_charge set.Union = 40
set_charge set.Difference = 40
set_charge set.Intersection = 40
set_charge set.Empty = 16  -- set brackets
set_charge set.Include = 40  -- each single member
set_charge set.IncludeRange = 64  -- each range

-- each argument, and its nodes
abbrev pub argument_charge : Storage → ℕ
argument_charge (storage.Ordinal first last) = 16
argument_charge storage.Pointer = 16
argument_charge (storage.Set first last) = 72
argument_charge (storage.Structure n) = 8

abbrev pub effect_charge : EffectOp → ℕ
effect_charge (effect.Hold number words) = 16  -- per record variable of a `with`
effect_charge (effect.ReadInteger first last) = 24  -- per parameter
effect_charge (effect.ReadChar first last) = 24
effect_charge (effect.Write value width) = 24

abbrev pub op_charge : Op → ℕ
op_charge (op.Place p) = place_charge p
op_charge (op.Word w) = word_charge w
op_charge (op.Set x) = set_charge x
op_charge (op.Literal text) = 8 + length text
op_charge op.Structure = 0  -- value of an array or record place
op_charge (op.Argument to) = argument_charge to
op_charge op.ActualVariable = 8
op_charge (op.Call c) = 24 + link_charge c.scope
op_charge (op.Effect e) = effect_charge e

-- an expression: the rows of all its nodes
abbrev mutual
  pub expr_charge : Expr → ℕ
  expr_charge (Operation o ps) = op_charge o + exprs_charge ps

  pub exprs_charge : Exprs → ℕ
  exprs_charge NoMore = 0
  exprs_charge (And e es) = expr_charge e + exprs_charge es

abbrev pub assign_charge : Storage → ℕ
assign_charge (storage.Ordinal first last) = 24
assign_charge storage.Pointer = 24
assign_charge (storage.Set first last) = 72
assign_charge (storage.Structure n) = 32

abbrev pub statement_charge : StatementOp → ℕ
statement_charge stmt.Empty = 8
statement_charge (stmt.Goto label) = 8
statement_charge (stmt.Assign to) = assign_charge to
statement_charge stmt.Call = 8
statement_charge (stmt.If has_else) = 16
statement_charge stmt.While = 16
statement_charge stmt.Repeat = 16
statement_charge (stmt.Case labels) = 16 + 8 * length labels
statement_charge (stmt.For loop) = 64 + variable_charge loop.variable
statement_charge stmt.With = 0
statement_charge (stmt.Read line) = 16
statement_charge (stmt.Write line) = 16
statement_charge (stmt.New words) = 24
statement_charge (stmt.Dispose words) = 16

abbrev pub parameter_charge : Parameter → ℕ
parameter_charge parameter.Scalar = 8
parameter_charge parameter.ByPlace = 8
parameter_charge parameter.Set = 16
parameter_charge (parameter.Structure n) = 16

abbrev pub parameters_charge : List Parameter → ℕ
parameters_charge [] = 0
parameters_charge (p ∷ ps) = parameter_charge p + parameters_charge ps

-- the words of a block. A statement's are its row and the charges of all nodes of its own text
abbrev pub charge_of : BlockForm → ℕ
charge_of ProgramBlock = 32
charge_of (RoutineBlock r) = 64 + parameters_charge r.parameters
charge_of (StatementBlock f) = statement_charge f.op + exprs_charge f.parts

-- ---- needs

-- the words of a value: 8 for a set, none where there is no value, else 1
abbrev pub op_width : Op → ℕ
op_width (op.Set x) = 8
op_width (op.Argument (storage.Set first last)) = 8
op_width (op.Effect e) = 0
op_width _ = 1

abbrev pub width : Expr → ℕ
width (Operation o ps) = op_width o

abbrev pub widths : Exprs → ℕ
widths NoMore = 0
widths (And e es) = width e + widths es

-- what an operation takes itself, whose parts have these widths: its value; and a call the return address below its arguments
abbrev pub op_need : Op → ℕ → ℕ
op_need (op.Set x) below = 8
op_need (op.Call c) below = 1 + below
op_need _ below = 1

-- each part is evaluated below the values of those before it
abbrev mutual
  pub expr_need : Expr → ℕ
  expr_need (Operation o ps) = max (op_need o (widths ps)) (exprs_need ps 0)

  pub exprs_need : Exprs → ℕ → ℕ
  exprs_need NoMore below = 0
  exprs_need (And e es) below = max (below + expr_need e) (exprs_need es (below + width e))

-- the temporaries of a block
abbrev pub need_of : BlockForm → ℕ
need_of ProgramBlock = 0
need_of (RoutineBlock r) = 0
need_of (StatementBlock f) = exprs_need f.parts 0

-- ---- holds

abbrev pub part_count : Exprs → ℕ
part_count NoMore = 0
part_count (And e es) = 1 + part_count es

-- one for a `for`, and one for each record variable of a `with`, which are its parts
abbrev pub own_holds : StatementOp → ℕ → ℕ
own_holds (stmt.For loop) parts = 1
own_holds stmt.With parts = parts
own_holds _ parts = 0

-- those of the statements around it, and its own
abbrev pub holds_of : BlockForm → ℕ
holds_of ProgramBlock = 0
holds_of (RoutineBlock r) = 0
holds_of (StatementBlock f) = f.holds + own_holds f.op (part_count f.parts)
