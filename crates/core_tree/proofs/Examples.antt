-- Worked examples: charges, needs and holds of small statements, and where control goes in two small programs.
use Rattle.std.specs.Prelude.{◌≡◌, refl, ℕ, pos, negsuc, false, true, List, [], ◌∷◌, Some, None, map}
use Rattle.dice_base.specs.declared.link.LinkTo.TheVariants as to
use Rattle.core_tree.specs.declared.op.Op.{Op}
use Rattle.core_tree.specs.declared.op.Op.TheVariants as op
use Rattle.core_tree.specs.declared.op.PlaceOp.TheVariants as place
use Rattle.core_tree.specs.declared.op.WordOp.TheVariants as word
use Rattle.core_tree.specs.declared.op.SetOp.TheVariants as set
use Rattle.core_tree.specs.declared.op.EffectOp.TheVariants as effect
use Rattle.core_tree.specs.declared.op.Written.TheVariants as written
use Rattle.core_tree.specs.declared.op.Relation.TheVariants as relation
use Rattle.core_tree.specs.declared.op.Scope.TheVariants as scope
use Rattle.core_tree.specs.declared.op.Storage.{Storage}
use Rattle.core_tree.specs.declared.op.Storage.TheVariants as storage
use Rattle.core_tree.specs.declared.op.Variable.{Variable}
use Rattle.core_tree.specs.declared.form.ForLoop.{ForLoop}
use Rattle.core_tree.specs.declared.form.Parameter.TheVariants as parameter
use Rattle.core_tree.specs.declared.form.StatementOp.{StatementOp}
use Rattle.core_tree.specs.declared.form.StatementOp.TheVariants as stmt
use Rattle.core_tree.specs.declared.program.LinkEnd.TheVariants as link
use Rattle.core_tree.specs.declared.shape.Shape.TheVariants as shape
use Rattle.core_tree.specs.declared.shape.ShapeEntry.{ShapeEntry}
use Rattle.core_tree.specs.declared.shape.WrittenShape.TheVariants as entry
use Rattle.core_tree.specs.Charge.{charge_of, expr_need, holds_of, need_of}
use Rattle.core_tree.specs.Control.{core_rows, name_of}
use Rattle.core_tree.specs.Plain.{head_form, Expr, Operation, NoMore, And, exprs_of, Form, ProgramBlock, RoutineBlock, StatementBlock, Statement, Stmt, Statements, Last, Then, Head, Routine, Block, NoRoutine, Also}
use Rattle.core_tree.specs.Shapes.{Integer, Subrange, ArrayOf, trees_of, words_of}
use Rattle.core_tree.specs.Views.{program_end}

-- ---- expressions and statements

abbrev leaf : Op → Expr
leaf o = Operation o NoMore

abbrev one : Op → Expr → Expr
one o e = Operation o (And e NoMore)

abbrev two : Op → Expr → Expr → Expr
two o e f = Operation o (And e (And f NoMore))

abbrev global : ℕ → Variable
global n = record { scope = scope.Program; offset = n; by_place = false; frame_words = 0 }

-- the place and the value of a global variable, and a number
abbrev at : ℕ → Expr
at n = leaf (op.Place (place.Variable (global n)))

abbrev value : ℕ → Expr
value n = one (op.Word word.Load) (at n)

abbrev number : ℕ → Expr
number n = leaf (op.Word (word.Constant (pos n)))

abbrev sum : Expr → Expr → Expr
sum = two (op.Word word.Add)

abbrev integers : Storage
integers = storage.Ordinal (negsuc 32766) (pos 32767)

abbrev form : StatementOp → List Expr → Form
form o es = record { level = 0; holds = 0; op = o; parts = exprs_of es; shapes = []; headings = [] }

abbrev assign : Expr → Expr → Form
assign e f = form (stmt.Assign integers) (e ∷ f ∷ [])

-- ---- charges and needs

-- i := 0
first_charge : charge_of (StatementBlock (assign (at 0) (number 0))) ≡ 36
first_charge = refl

-- s := s + i
sum_charge : charge_of (StatementBlock (assign (at 1) (sum (value 1) (value 0)))) ≡ 72
sum_charge = refl

-- i := i + 1
count_charge : charge_of (StatementBlock (assign (at 0) (sum (value 0) (number 1)))) ≡ 64
count_charge = refl

-- while i < 5
while_charge : charge_of (StatementBlock (form stmt.While (two (op.Word (word.Compare relation.Less)) (value 0) (number 5) ∷ []))) ≡ 48
while_charge = refl

abbrev write_form : Form
write_form = form (stmt.Write true) (two (op.Effect (effect.Write written.Integer true)) (value 1) (number 1) ∷ [])

-- writeln(s:1)
write_charge : charge_of (StatementBlock write_form) ≡ 56
write_charge = refl

program_charge : charge_of ProgramBlock ≡ 32
program_charge = refl

-- a procedure with a scalar and a set parameter
routine_charge : charge_of (RoutineBlock (record { level = 1; parameters = parameter.Scalar ∷ parameter.Set ∷ []; function = false; local_words = 3 })) ≡ 88
routine_charge = refl

-- s := s + i: the place of s lies below its value, and the value of s below that of i
sum_need : need_of (StatementBlock (assign (at 1) (sum (value 1) (value 0)))) ≡ 3
sum_need = refl

-- [1, 2..3]: the set so far, eight words, and the two bounds
range_need : expr_need (Operation (op.Set set.IncludeRange) (exprs_of (two (op.Set set.Include) (leaf (op.Set set.Empty)) (number 1) ∷ number 2 ∷ number 3 ∷ []))) ≡ 10
range_need = refl

-- p(1, 2): the return address below two arguments
call_need : need_of (StatementBlock (form stmt.Call (Operation (op.Call (record { routine = name_of 2; scope = scope.Program; function = false })) (exprs_of (one (op.Argument integers) (number 1) ∷ one (op.Argument integers) (number 2) ∷ [])) ∷ []))) ≡ 3
call_need = refl

abbrev hold : ℕ → Expr → Expr
hold n e = one (op.Effect (effect.Hold n 2)) e

-- with a, b in a `for`
with_holds : holds_of (StatementBlock (record { level = 0; holds = 1; op = stmt.With; parts = exprs_of (hold 2 (at 0) ∷ hold 3 (at 2) ∷ []); shapes = []; headings = [] })) ≡ 3
with_holds = refl

-- ---- types

-- array [1..10] of integer, of two entries: the subrange, and the array over it
abbrev table : List ShapeEntry
table = record { shape = entry.Subrange shape.Integer (pos 1) (pos 10); words = 1 } ∷ record { shape = entry.ArrayOf (shape.Written 0) shape.Integer; words = 10 } ∷ []

table_trees : trees_of table ≡ Subrange Integer (pos 1) (pos 10) ∷ ArrayOf (Subrange Integer (pos 1) (pos 10)) Integer ∷ []
table_trees = refl

array_words : map words_of (trees_of table) ≡ 1 ∷ 10 ∷ []
array_words = refl

-- ---- where control goes

abbrev single : ℕ → Form → Statement
single n f = Stmt n None (Some f) Last

abbrev statements_of : List Statement → Statements
statements_of [] = Last
statements_of (s ∷ ss) = Then s (statements_of ss)

abbrev compound : ℕ → List Statement → Statement
compound n ss = Stmt n None None (statements_of ss)

abbrev around : ℕ → Form → List Statement → Statement
around n f ss = Stmt n None (Some f) (statements_of ss)

abbrev head : ℕ → ℕ → Head
head n level = record { name = n; ident = []; level = level; heading = record { parameters = []; result = None }; locals = [] }

-- begin 4: i := 0; 5: s := 0; 6: while i < 5 do 7: begin 8: s := s + i; 9: i := i + 1 end; 10: writeln(s:1) end
abbrev loop_program : Routine
loop_program = Block (head 1 0) NoRoutine (compound 3 (
    single 4 (assign (at 0) (number 0)) ∷
    single 5 (assign (at 1) (number 0)) ∷
    around 6 (form stmt.While (two (op.Word (word.Compare relation.Less)) (value 0) (number 5) ∷ [])) (
    compound 7 (single 8 (assign (at 1) (sum (value 1) (value 0))) ∷ single 9 (assign (at 0) (sum (value 0) (number 1))) ∷ []) ∷ []) ∷
    single 10 write_form ∷ []))

loop_order : map (λ r. r.name) (core_rows loop_program) ≡ 1 ∷ 4 ∷ 5 ∷ 6 ∷ 8 ∷ 9 ∷ 10 ∷ []
loop_order = refl

-- after the last statement of the body comes the `while`, after the last of the program its end
loop_next : map (λ r. r.next) (core_rows loop_program) ≡
    None ∷ Some (link.Gate (name_of 5)) ∷ Some (link.Gate (name_of 6)) ∷ Some (link.Gate (name_of 10)) ∷ Some (link.Gate (name_of 9)) ∷ Some (link.Gate (name_of 6)) ∷ Some link.Finish ∷ []
loop_next = refl

loop_begin : program_end loop_program 1 (to.Child 0) ≡ Some (link.Gate (name_of 4))
loop_begin = refl

loop_body : program_end loop_program 6 (to.Child 0) ≡ Some (link.Gate (name_of 8))
loop_body = refl

abbrev turns : ForLoop
turns = record { variable = global 0; first = negsuc 32766; last = pos 32767; down = false }

abbrev test : Form
test = form (stmt.If true) (number 1 ∷ [])

-- procedure 2: begin 4: for i := 1 to 2 do 5: with a do 6: if 1 then 7: goto 9 else 8: repeat 9: (label 9) ; 10: (empty) until 1 end;
-- the program 11: begin 12: call of 2 end
abbrev nested_program : Routine
nested_program = Block (head 1 0)
    (Also (Block (head 2 1) NoRoutine (compound 3 (
    around 4 (form (stmt.For turns) (number 1 ∷ number 2 ∷ [])) (
    around 5 (form stmt.With (hold 2 (at 0) ∷ [])) (
    around 6 test (
    single 7 (form (stmt.Goto 9) []) ∷
    around 8 (form stmt.Repeat (number 1 ∷ [])) (Stmt 9 (Some 9) (Some (form stmt.Empty [])) Last ∷ single 10 (form stmt.Empty []) ∷ []) ∷ []) ∷ []) ∷ []) ∷ []))) NoRoutine)
    (compound 11 (single 12 (form stmt.Call (leaf (op.Call (record { routine = name_of 2; scope = scope.Program; function = false })) ∷ [])) ∷ []))

-- the routine's block stands before the statements of the program
nested_order : map (λ r. r.name) (core_rows nested_program) ≡ 1 ∷ 2 ∷ 4 ∷ 5 ∷ 6 ∷ 7 ∷ 8 ∷ 9 ∷ 10 ∷ 12 ∷ []
nested_order = refl

-- after a `for` the routine is left; after its body comes its step, after that of a `with` its end, after each branch what
-- comes after the `if`, and after the last statement of a `repeat` the `repeat`
nested_next : map (λ r. r.next) (core_rows nested_program) ≡
    None ∷ None ∷ Some (link.Leave (name_of 2)) ∷ Some (link.Step (name_of 4)) ∷ Some (link.End (name_of 5)) ∷ Some (link.End (name_of 5)) ∷ Some (link.End (name_of 5))
    ∷ Some (link.Gate (name_of 10)) ∷ Some (link.Gate (name_of 8)) ∷ Some link.Finish ∷ []
nested_next = refl

nested_around : map (λ r. r.around) (core_rows nested_program) ≡
    None ∷ None ∷ None ∷ Some 4 ∷ Some 5 ∷ Some 5 ∷ Some 5 ∷ Some 5 ∷ Some 5 ∷ None ∷ []
nested_around = refl

-- a `repeat` begins at its first statement
nested_else : program_end nested_program 6 (to.Child 1) ≡ Some (link.Gate (name_of 9))
nested_else = refl

nested_goto : program_end nested_program 7 (to.Label 9) ≡ Some (link.Gate (name_of 9))
nested_goto = refl

nested_call : program_end nested_program 12 (to.Routine (name_of 2)) ≡ Some (link.Block (name_of 2))
nested_call = refl

no_call : program_end nested_program 12 (to.Routine (name_of 1)) ≡ None
no_call = refl

-- function f(n: integer; var k: t): integer with a variable of type t, an array of ten integers
function_form : head_form (record {
  name = 2;
  ident = [];
  level = 1;
  heading = record { parameters = record { ident = []; by_place = false; shape = Integer } ∷ record { ident = []; by_place = true; shape = ArrayOf (Subrange Integer (pos 1) (pos 10)) Integer } ∷ []; result = Some Integer };
  locals = record { ident = []; shape = ArrayOf (Subrange Integer (pos 1) (pos 10)) Integer } ∷ [];
}) ≡ RoutineBlock (record { level = 1; parameters = parameter.Scalar ∷ parameter.ByPlace ∷ []; function = true; local_words = 10 })
function_form = refl
