-- What the check of a program gives: the statements that an operation needs are there, the program has the name 1, names
-- differ, a label of a goto stands in its routine (ISO 7185:1990, 6.8.1), and what is called is a routine (6.8.2.3).
use Rattle.std.specs.Prelude.{◌≡◌, ◌⊎◌, ℕ, suc, ◌+◌, ◌<◌, ◌≤◌, ◌==◌, Bool, true, false, Option, Some, None, find}
use Rattle.std.specs.List.{AllByRecursion}
use Rattle.dice_base.specs.declared.name.Name.{Name}
use Rattle.dice_base.specs.declared.link.LinkTo.TheVariants.{Child, Label}
use Rattle.core_tree.specs.declared.form.RoutineForm.{RoutineForm}
use Rattle.core_tree.specs.declared.form.StatementOp.{StatementOp}
use Rattle.core_tree.specs.declared.form.StatementOp.TheVariants as stmt
use Rattle.core_tree.specs.Plain.{Form, Statement, Stmt, Statements, Last, Then, Routine, Block, Routines, NoRoutine, Also}
use Rattle.core_tree.specs.Control.{Continuation, ToGate, ToStep, ToEnd, ToLeave, ToFinish, MachineRow, RoutineRow as ListedRoutine, core_routines, machine_rows, op_in}
use Rattle.plain_pascal.specs.Program.{Program, Row, RoutineRow, program_of, row_of, routine_of}
use Rattle.plain_pascal.specs.Step.{label_gate, labels_in}
use Rattle.plain_pascal.specs.Run.{steps_limit}
use Rattle.plain_pascal.specs.Evaluation.{part_ticks}
use Rattle.plain_pascal.specs.Blocks.{has_way, parts_call}
use Rattle.plain_pascal.specs.Valid.{HasGate}

-- a compound statement and a `repeat` begin at the first statement in them, and a branch is there
abbrev pub begins_within : Option Form → StatementOp → Bool
begins_within None o = true
begins_within (Some f) stmt.Repeat = true
begins_within (Some f) o = false

abbrev pub count : Statements → ℕ
count Last = 0
count (Then s ss) = suc (count ss)

abbrev mutual
  pub IsWhole : Statement → Type 0
  IsWhole (Stmt n l f ss) = (begins_within f (op_in f) ≡ true → 0 < count ss) × (((k : ℕ) → has_way (op_in f) (Child k) ≡ true → k < count ss) × AreWhole ss)

  pub AreWhole : Statements → Type 0
  AreWhole Last = Unit {0}
  AreWhole (Then s ss) = IsWhole s × AreWhole ss

abbrev mutual
  pub IsWholeRoutine : Routine → Type 0
  IsWholeRoutine (Block head inner body) = IsWhole body × AreWholeRoutines inner

  pub AreWholeRoutines : Routines → Type 0
  AreWholeRoutines NoRoutine = Unit {0}
  AreWholeRoutines (Also x xs) = IsWholeRoutine x × AreWholeRoutines xs

module _ (P : Program) where
  -- a block is found by its name
  abbrev pub IsFound : MachineRow → Type 0
  IsFound x = find (λ r. r.name == x.name) P.rows ≡ Some x

  -- a routine of the list is found by its name
  abbrev pub IsListed : ListedRoutine → Type 0
  IsListed x = find (λ r. r.head.name == x.head.name) P.routines ≡ Some x

  -- the program has a block, and is no statement
  pub record HasProgram : Type 0 where
    pub row : RoutineRow
    pub found : routine_of P 1 ≡ Some row
    pub form : row.form ≡ None
    pub no_statement : row_of P 1 ≡ None

  -- a routine has a block
  pub record HasRoutine (n : ℕ) : Type 0 where
    pub row : RoutineRow
    pub found : routine_of P n ≡ Some row
    pub name : row.name ≡ n
    pub form : RoutineForm
    pub is_form : row.form ≡ Some form
    pub no_statement : row_of P n ≡ None

  -- a statement of a routine
  pub record HasRow (n r : ℕ) : Type 0 where
    pub row : Row
    pub found : row_of P n ≡ Some row
    pub inside : row.routine ≡ r

  -- a gate of a routine: that of a statement in it, or its own
  abbrev pub IsGateOf : ℕ → ℕ → Type 0
  IsGateOf n r = HasRow n r ⊎ ((n ≡ r) × HasRoutine r)

  -- each label of a goto stands in its routine, in no other `for` and `with` statements than the goto does (6.8.2.4), and
  -- what is called is a routine: this is for the resolver to know
  abbrev pub AreLabelled : Type 0
  AreLabelled = (n : ℕ) (row : Row) (l : ℕ) → row_of P n ≡ Some row → has_way row.form.op (Label l) ≡ true → HasGate P row.routine row.around (label_gate (labels_in (routine_of P row.routine)) l)

  abbrev pub AreDeclared : Type 0
  AreDeclared = (n : ℕ) (row : Row) (c : Name) → row_of P n ≡ Some row → parts_call row.form.parts c.0 ≡ true → HasRoutine c.0

-- the stretches behind a statement on the way to a gate
abbrev pub depth : Continuation → ℕ
depth (ToGate n) = 0
depth (ToLeave n) = 0
depth ToFinish = 1
depth (ToStep n form body otherwise) = 1 + depth otherwise
depth (ToEnd n otherwise) = 1 + depth otherwise

-- no statement takes more steps than are counted, and behind none are more than so many stretches to the next gate
abbrev pub AreSmall : Program → ℕ → Type 0
AreSmall P m = (n : ℕ) (row : Row) → row_of P n ≡ Some row → (part_ticks row.form.parts + 1 ≤ steps_limit) × (depth row.continuation + 1 ≤ m)

pub record IsResolved (x : Routine) (m : ℕ) : Type 0 where
  pub whole : IsWholeRoutine x
  pub program : HasProgram (program_of x)
  pub blocks_found : AllByRecursion (IsFound (program_of x)) (machine_rows x)
  pub routines_found : AllByRecursion (IsListed (program_of x)) (core_routines x)
  pub labels : AreLabelled (program_of x)
  pub declared : AreDeclared (program_of x)
  pub small : AreSmall (program_of x) m
