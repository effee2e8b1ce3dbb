-- A program as the plain machine walks it: its statements and its routines, found by name, from the one table of its blocks
-- (`machine_rows`), which says where control goes after each.
use Rattle.std.specs.Prelude.{ℕ, ◌==◌, List, [], ◌∷◌, ◌++◌, Option, Some, None, option_map, find, if◌then◌else◌, slice_index}
use Rattle.core_tree.specs.declared.op.Op.{Op}
use Rattle.core_tree.specs.declared.op.Op.TheVariants as op
use Rattle.core_tree.specs.declared.op.EffectOp.TheVariants as effect
use Rattle.core_tree.specs.declared.form.StatementOp.{StatementOp}
use Rattle.core_tree.specs.declared.form.StatementOp.TheVariants as stmt
use Rattle.core_tree.specs.declared.form.RoutineForm.{RoutineForm}
use Rattle.core_tree.specs.Shapes.{counted_words, words_of}
use Rattle.core_tree.specs.Plain.{Operation, Exprs, NoMore, And, Form, Formal, Routine, BlockForm, RoutineBlock, StatementBlock, head_form}
use Rattle.core_tree.specs.Control.{Continuation, Enclosing, Label, MachineRow, RoutineRow as ListedRoutine, machine_rows, core_routines}

-- a kind of value: none, a word, a set, or the place of so many words
pub data Kind : Type 0 where
  NoKind : Kind
  WordKind : Kind
  SetKind : Kind
  PlaceKind : (words : ℕ) → Kind

-- a statement with a block: its routine, its form, what comes after it, where the statements directly in it begin, and what
-- the `for` and `with` statements around it hold, the outermost first
pub record Row : Type 0 where
  pub name : ℕ
  pub routine : ℕ
  pub form : Form
  pub continuation : Continuation
  pub branches : List ℕ
  pub around : List Kind

-- the program or a routine: the one that declares it, 0 for the program; its form, which the program has not; the words of
-- the actual variables of its variable parameters; where its body begins, and where its labels stand
pub record RoutineRow : Type 0 where
  pub name : ℕ
  pub owner : ℕ
  pub form : Option RoutineForm
  pub references : List ℕ
  pub entry : ℕ
  pub labels : List Label

-- the table of all blocks, and the list of routines
pub record Program : Type 0 where
  pub rows : List MachineRow
  pub routines : List ListedRoutine

abbrev pub program_of : Routine → Program
program_of p = record { rows = machine_rows p; routines = core_routines p }

-- ---- what a `for` and a `with` hold

abbrev pub held_by : Op → List Kind
held_by (op.Effect (effect.Hold number words)) = PlaceKind words ∷ []
held_by _ = []

abbrev pub held_by_parts : Exprs → List Kind
held_by_parts NoMore = []
held_by_parts (And (Operation o ps) es) = held_by o ++ held_by_parts es

-- the limit of a `for`; the places of the records of a `with`, which are its parts
abbrev pub held_inside : StatementOp → Exprs → List Kind
held_inside (stmt.For loop) ps = WordKind ∷ []
held_inside stmt.With ps = held_by_parts ps
held_inside _ ps = []

abbrev pub held_around : List Enclosing → List Kind
held_around [] = []
held_around (x ∷ xs) = held_inside x.form.op x.form.parts ++ held_around xs

-- ---- a statement of the table

abbrev pub statement_in : MachineRow → Option Continuation → BlockForm → Option Row
statement_in r (Some next) (StatementBlock f) =
    Some (record { name = r.name; routine = r.routine; form = f; continuation = next; branches = r.entries; around = held_around r.around })
statement_in r next form = None

abbrev pub row_in : Option MachineRow → Option Row
row_in None = None
row_in (Some r) = statement_in r r.next r.form

abbrev pub row_of : Program → ℕ → Option Row
row_of P n = row_in (find (λ r. r.name == n) P.rows)

-- ---- a routine of the list

abbrev pub owner_in : BlockForm → ℕ → ℕ
owner_in (RoutineBlock f) owner = owner
owner_in form owner = 0

abbrev pub form_in : BlockForm → Option RoutineForm
form_in (RoutineBlock f) = Some f
form_in form = None

abbrev pub references_of : List Formal → List ℕ
references_of [] = []
references_of (p ∷ ps) = (if p.by_place then counted_words (words_of p.shape) ∷ [] else []) ++ references_of ps

-- where the body of a block begins
abbrev pub body_entry : Option MachineRow → ℕ
body_entry None = 0
body_entry (Some r) = slice_index r.entries 0

abbrev pub routine_in : List MachineRow → ListedRoutine → RoutineRow
routine_in rows r = record {
  name = r.head.name;
  owner = owner_in (head_form r.head) r.owner;
  form = form_in (head_form r.head);
  references = references_of r.head.heading.parameters;
  entry = body_entry (find (λ x. x.name == r.head.name) rows);
  labels = r.labels;
}

abbrev pub routine_of : Program → ℕ → Option RoutineRow
routine_of P n = option_map (routine_in P.rows) (find (λ r. r.head.name == n) P.routines)
