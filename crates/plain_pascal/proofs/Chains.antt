-- In the table of a program whose names differ, each link has its end: the steps and ends on the way after a statement are
-- those of the statements around it.
use Rattle.std.proofs.Common.{◌≡◌, ℕ, List, [], Option, Some, None, refl, ap}
use Rattle.std.specs.Prelude.{slice_index}
use Rattle.std.specs.List.{AllByRecursion}
use Rattle.core_tree.specs.declared.form.StatementOp.{StatementOp}
use Rattle.core_tree.specs.declared.form.StatementOp.TheVariants as stmt
use Rattle.core_tree.specs.Plain.{Form, BlockForm, ProgramBlock, RoutineBlock, StatementBlock, Statement, Stmt, Statements, Last, Then, head_form, Routine, Block, Routines, NoRoutine, Also}
use Rattle.core_tree.specs.Control.{Continuation, Enclosing, MachineRow, machine_flow, after_body, after_in, after_inner, around_in, entries_of, first_entry, head_row, in_sequence, inner_rows, next_in, op_in, own_row, routine_rows, routines_rows, statement_rows}
use Rattle.plain_pascal.specs.Resolved.{IsFound}
use Rattle.plain_pascal.specs.Program.{Program as Table, Row, held_around, row_in, row_of}
use Rattle.plain_pascal.proofs.Named.{every_front, every_back, every_join, OfStatements}
use Rattle.plain_pascal.proofs.Stage.{IsChain}

-- ---- the table of the plain machine

abbrev C : Type 0
C = Continuation

abbrev E : Type 0
E = List Enclosing

abbrev pub rows_of : Statement → ℕ → C → E → List MachineRow
rows_of s r after around = statement_rows C E machine_flow s r after around

abbrev pub inner_of : Statements → Option Form → ℕ → C → E → List MachineRow
inner_of ss f r after around = inner_rows C E machine_flow ss f r after around

abbrev pub own_of : Option Form → ℕ → ℕ → List ℕ → C → E → List MachineRow
own_of f n r entries after around = own_row C E machine_flow f n r entries after around

abbrev pub behind_of : Option Form → ℕ → ℕ → C → C
behind_of f n body after = after_in C E machine_flow f n body after

abbrev pub behind_by : Form → StatementOp → ℕ → ℕ → C → C
behind_by f o n body after = after_inner C E machine_flow f o n body after

abbrev pub around_of : Option Form → ℕ → E → E
around_of f n around = around_in C E machine_flow f n around

abbrev pub next_of : Statements → C → C
next_of ss after = next_in C E machine_flow ss after

abbrev pub sequence_of : Option Form → StatementOp → Statements → C → C
sequence_of f o ss after = in_sequence C E machine_flow f o ss after

abbrev pub leaving : BlockForm → ℕ → C
leaving form n = after_body C E machine_flow form n

abbrev pub head_of : ℕ → BlockForm → Statement → MachineRow
head_of n form body = head_row C E machine_flow n form body

abbrev pub blocks_in : Routine → List MachineRow
blocks_in x = routine_rows C E machine_flow x

abbrev pub blocks_inside : Routines → List MachineRow
blocks_inside xs = routines_rows C E machine_flow xs

-- the row of a statement
abbrev pub row_at : Form → ℕ → ℕ → List ℕ → C → E → Row
row_at f n r entries after around = record { name = n; routine = r; form = f; continuation = after; branches = entries; around = held_around around }

module _ (P : Table) where
  abbrev pub IsChainedRow : Row → Type 0
  IsChainedRow x = IsChain P x.continuation

  abbrev pub IsChained : MachineRow → Type 0
  IsChained = OfStatements IsChainedRow

  pub first_of : (ss : Statements) → slice_index (entries_of ss) 0 ≡ first_entry ss
  first_of Last = refl
  first_of (Then s ss) = refl

  -- what comes behind the statements in one of this kind
  inner_chain : (o : StatementOp) (f : Form) → f.op ≡ o → (n r : ℕ) (ss : Statements) (behind : Continuation) (around : List Enclosing)
      → row_of P n ≡ Some (row_at f n r (entries_of ss) behind around) → IsChain P behind → IsChain P (behind_by f o n (first_entry ss) behind)
  inner_chain (stmt.For loop) f e n r ss behind around found h = (record { row = row_at f n r (entries_of ss) behind around; found = found; form_is = refl; loop = loop; op = e; body_is = first_of ss; otherwise_is = refl }, h)
  inner_chain stmt.With f e n r ss behind around found h = (record { row = row_at f n r (entries_of ss) behind around; found = found; op = e; otherwise_is = refl }, h)
  inner_chain stmt.While f e n r ss behind around found h = tt
  inner_chain stmt.Repeat f e n r ss behind around found h = tt
  inner_chain o f e n r ss behind around found h = h

  next_chain : (ss : Statements) (behind : Continuation) → IsChain P behind → IsChain P (next_of ss behind)
  next_chain Last behind h = h
  next_chain (Then s ss) behind h = tt

  sequence_chain : (f : Option Form) (o : StatementOp) (ss : Statements) (behind : Continuation) → IsChain P behind → IsChain P (sequence_of f o ss behind)
  sequence_chain None o ss behind h = next_chain ss behind h
  sequence_chain (Some f) stmt.Repeat ss behind h = next_chain ss behind h
  sequence_chain (Some f) o ss behind h = h

  behind_chain : (f : Option Form) (n r : ℕ) (ss : Statements) (behind : Continuation) (around : List Enclosing) → AllByRecursion (IsFound P) (own_of f n r (entries_of ss) behind around) → IsChain P behind → IsChain P (behind_of f n (first_entry ss) behind)
  behind_chain None n r ss behind around found h = h
  behind_chain (Some f) n r ss behind around found h = inner_chain f.op f refl n r ss behind around (ap row_in found.0) h

  own_chain : (f : Option Form) (n r : ℕ) (branches : List ℕ) (behind : Continuation) (around : List Enclosing) → IsChain P behind → AllByRecursion IsChained (own_of f n r branches behind around)
  own_chain None n r branches behind around h = tt
  own_chain (Some f) n r branches behind around h = (h, tt)

  mutual
    pub statement_chains : (s : Statement) (r : ℕ) (behind : Continuation) (around : List Enclosing) → AllByRecursion (IsFound P) (rows_of s r behind around) → IsChain P behind → AllByRecursion IsChained (rows_of s r behind around)
    statement_chains (Stmt n l f ss) r behind around found h =
        every_join IsChained (own_of f n r (entries_of ss) behind around) (inner_of ss f r (behind_of f n (first_entry ss) behind) (around_of f n around))
        (own_chain f n r (entries_of ss) behind around h)
        (inner_chains ss f r (behind_of f n (first_entry ss) behind) (around_of f n around)
        (every_back (IsFound P) (own_of f n r (entries_of ss) behind around) (inner_of ss f r (behind_of f n (first_entry ss) behind) (around_of f n around)) found)
        (behind_chain f n r ss behind around (every_front (IsFound P) (own_of f n r (entries_of ss) behind around) (inner_of ss f r (behind_of f n (first_entry ss) behind) (around_of f n around)) found) h))

    pub inner_chains : (ss : Statements) (f : Option Form) (r : ℕ) (behind : Continuation) (around : List Enclosing) → AllByRecursion (IsFound P) (inner_of ss f r behind around) → IsChain P behind → AllByRecursion IsChained (inner_of ss f r behind around)
    inner_chains Last f r behind around found h = tt
    inner_chains (Then s ss) f r behind around found h =
        every_join IsChained (rows_of s r (sequence_of f (op_in f) ss behind) around) (inner_of ss f r behind around)
        (statement_chains s r (sequence_of f (op_in f) ss behind) around (every_front (IsFound P) (rows_of s r (sequence_of f (op_in f) ss behind) around) (inner_of ss f r behind around) found) (sequence_chain f (op_in f) ss behind h))
        (inner_chains ss f r behind around (every_back (IsFound P) (rows_of s r (sequence_of f (op_in f) ss behind) around) (inner_of ss f r behind around) found) h)

  leaving_chain : (form : BlockForm) (n : ℕ) → IsChain P (leaving form n)
  leaving_chain ProgramBlock n = tt
  leaving_chain (RoutineBlock f) n = tt
  leaving_chain (StatementBlock f) n = tt

  -- the program and a routine are no statements
  pub no_row : (T : Row → Type 0) (n : ℕ) (form : BlockForm) (body : Statement) → OfStatements T (head_of n form body)
  no_row T n ProgramBlock body = tt
  no_row T n (RoutineBlock f) body = tt
  no_row T n (StatementBlock f) body = tt

  mutual
    pub program_chains : (x : Routine) → AllByRecursion (IsFound P) (blocks_in x) → AllByRecursion IsChained (blocks_in x)
    program_chains (Block head inner body) found = (
      no_row IsChainedRow head.name (head_form head) body,
      every_join IsChained (blocks_inside inner) (rows_of body head.name (leaving (head_form head) head.name) [])
          (routines_chains inner (every_front (IsFound P) (blocks_inside inner) (rows_of body head.name (leaving (head_form head) head.name) []) found.1))
          (statement_chains body head.name (leaving (head_form head) head.name) [] (every_back (IsFound P) (blocks_inside inner) (rows_of body head.name (leaving (head_form head) head.name) []) found.1) (leaving_chain (head_form head) head.name)),
    )

    pub routines_chains : (xs : Routines) → AllByRecursion (IsFound P) (blocks_inside xs) → AllByRecursion IsChained (blocks_inside xs)
    routines_chains NoRoutine found = tt
    routines_chains (Also x xs) found =
        every_join IsChained (blocks_in x) (blocks_inside xs)
        (program_chains x (every_front (IsFound P) (blocks_in x) (blocks_inside xs) found))
        (routines_chains xs (every_back (IsFound P) (blocks_in x) (blocks_inside xs) found))
