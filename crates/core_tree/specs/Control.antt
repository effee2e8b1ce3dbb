-- Where control goes in a program, and the table of its blocks (ISO 7185:1990, 6.8.3: a sequence is carried out in textual
-- order, a conditional statement by one branch, a repetitive one by its turns; 6.8.2.4: a `goto` by its label).
use Rattle.std.specs.Prelude.{ℕ, ◌==◌, List, [], ◌∷◌, ◌++◌, find, slice_get, Option, Some, None, option_map}
use Rattle.dice_base.specs.declared.name.Name.{Name}
use Rattle.dice_base.specs.declared.link.LinkTo.{LinkTo}
use Rattle.dice_base.specs.declared.link.LinkTo.TheVariants as to
use Rattle.core_tree.specs.declared.form.StatementOp.{StatementOp}
use Rattle.core_tree.specs.declared.form.StatementOp.TheVariants as stmt
use Rattle.core_tree.specs.declared.program.LinkEnd.{LinkEnd}
use Rattle.core_tree.specs.declared.program.LinkEnd.TheVariants as link
use Rattle.core_tree.specs.Plain.{Form, BlockForm, RoutineBlock, StatementBlock, Statement, Stmt, Statements, Last, Then, Head, head_form, Routine, Block, Routines, NoRoutine, Also}

-- ---- where a statement begins

-- at its own gate, but a compound and a `repeat` at that of their first statement
abbrev pub entry_by : Option Form → StatementOp → ℕ → ℕ → ℕ
entry_by None o n inner = inner
entry_by (Some f) stmt.Repeat n inner = inner
entry_by (Some f) o n inner = n

abbrev pub op_in : Option Form → StatementOp
op_in None = stmt.Empty
op_in (Some f) = f.op

-- no sequence is empty, so 0 does not come
abbrev mutual
  pub entry_of : Statement → ℕ
  entry_of (Stmt n l f ss) = entry_by f (op_in f) n (first_entry ss)

  pub first_entry : Statements → ℕ
  first_entry Last = 0
  first_entry (Then s ss) = entry_of s

abbrev pub entries_of : Statements → List ℕ
entries_of Last = []
entries_of (Then s ss) = entry_of s ∷ entries_of ss

-- ---- what a statement hands to those in it

-- an A says where control goes after a statement, and a B what stands around it
pub record ControlFlow (A B : Type 0) : Type 0 where
  -- to the gate of this statement
  pub gate : ℕ → A
  -- to the step of the `for` of this name: its body begins at that statement, and after its last turn control goes on
  pub step : ℕ → Form → ℕ → A → A
  -- to the end of the `with` of this name, and on
  pub end_with : ℕ → A → A
  -- to the gate of this routine
  pub leave : ℕ → A
  -- to the end of the program
  pub finish : A
  -- nothing stands around the body of a routine
  pub outermost : B
  -- a `for` or a `with` of this name and form stands around
  pub inside : ℕ → Form → B → B

-- a block in the table: its name, its routine, what stands around it, where control goes after it, if it is a statement's,
-- where the statements directly in it begin, and its form
pub record Row (A B : Type 0) : Type 0 where
  pub name : ℕ
  pub routine : ℕ
  pub around : B
  pub next : Option A
  pub entries : List ℕ
  pub form : BlockForm

module _ (A B : Type 0) (flow : ControlFlow A B) where
  -- after a statement of a sequence comes the next one
  abbrev pub next_in : Statements → A → A
  next_in Last after = after
  next_in (Then s ss) after = flow.gate (entry_of s)

  -- the statements in this one are a sequence, or branches
  abbrev pub in_sequence : Option Form → StatementOp → Statements → A → A
  in_sequence None o ss after = next_in ss after
  in_sequence (Some f) stmt.Repeat ss after = next_in ss after
  in_sequence (Some f) o ss after = after

  -- what comes after the last statement in this one, or after each branch
  abbrev pub after_inner : Form → StatementOp → ℕ → ℕ → A → A
  after_inner f (stmt.For loop) n body after = flow.step n f body after
  after_inner f stmt.With n body after = flow.end_with n after
  after_inner f stmt.While n body after = flow.gate n
  after_inner f stmt.Repeat n body after = flow.gate n
  after_inner f o n body after = after

  abbrev pub after_in : Option Form → ℕ → ℕ → A → A
  after_in None n body after = after
  after_in (Some f) n body after = after_inner f f.op n body after

  abbrev pub around_inner : Form → StatementOp → ℕ → B → B
  around_inner f (stmt.For loop) n around = flow.inside n f around
  around_inner f stmt.With n around = flow.inside n f around
  around_inner f o n around = around

  abbrev pub around_in : Option Form → ℕ → B → B
  around_in None n around = around
  around_in (Some f) n around = around_inner f f.op n around

  abbrev pub own_row : Option Form → ℕ → ℕ → List ℕ → A → B → List (Row A B)
  own_row None n r entries after around = []
  own_row (Some f) n r entries after around = record {
    name = n;
    routine = r;
    around = around;
    next = Some after;
    entries = entries;
    form = StatementBlock f;
  } ∷ []

  -- the blocks of a statement of a routine, in the order of the text
  abbrev mutual
    pub statement_rows : Statement → ℕ → A → B → List (Row A B)
    statement_rows (Stmt n l f ss) r after around =
        own_row f n r (entries_of ss) after around
        ++ inner_rows ss f r (after_in f n (first_entry ss) after) (around_in f n around)

    pub inner_rows : Statements → Option Form → ℕ → A → B → List (Row A B)
    inner_rows Last f r after around = []
    inner_rows (Then s ss) f r after around =
        statement_rows s r (in_sequence f (op_in f) ss after) around ++ inner_rows ss f r after around

  -- after the body of a routine comes the routine's gate
  abbrev pub after_body : BlockForm → ℕ → A
  after_body (RoutineBlock f) n = flow.leave n
  after_body form n = flow.finish

  abbrev pub head_row : ℕ → BlockForm → Statement → Row A B
  head_row n form body = record {
    name = n;
    routine = n;
    around = flow.outermost;
    next = None;
    entries = entry_of body ∷ [];
    form = form;
  }

  -- the blocks of the program or of a routine, in the order of the text: its own, those of the routines in it, and those of
  -- its body
  abbrev mutual
    pub routine_rows : Routine → List (Row A B)
    routine_rows (Block head inner body) =
        head_row head.name (head_form head) body
        ∷ (routines_rows inner ++ statement_rows body head.name (after_body (head_form head) head.name) flow.outermost)

    pub routines_rows : Routines → List (Row A B)
    routines_rows NoRoutine = []
    routines_rows (Also r rs) = routine_rows r ++ routines_rows rs

-- ---- the table of a core

abbrev pub name_of : ℕ → Name
name_of n = record { 0 = n }

-- the nearest `for` or `with` around, and the end of a link
abbrev pub link_flow : ControlFlow LinkEnd (Option ℕ)
link_flow = record {
  gate = λ n. link.Gate (name_of n);
  step = λ n f body after. link.Step (name_of n);
  end_with = λ n after. link.End (name_of n);
  leave = λ n. link.Leave (name_of n);
  finish = link.Finish;
  outermost = None;
  inside = λ n f around. Some n;
}

abbrev pub CoreRow : Type 0
CoreRow = Row LinkEnd (Option ℕ)

abbrev pub core_rows : Routine → List CoreRow
core_rows program = routine_rows LinkEnd (Option ℕ) link_flow program

-- ---- the table of the plain machine

-- where control goes after a statement, and on from there without passing a gate: to a gate; to the step of a `for`, with its
-- hold and the first statement of its body; to the end of a `with`; to the gate of a routine; to the end of the program
pub data Continuation : Type 0 where
  ToGate : (name : ℕ) → Continuation
  ToStep : (name : ℕ) → (form : Form) → (body : ℕ) → (otherwise : Continuation) → Continuation
  ToEnd : (name : ℕ) → (otherwise : Continuation) → Continuation
  ToLeave : (name : ℕ) → Continuation
  ToFinish : Continuation

-- a `for` or a `with` that stands around a statement
pub record Enclosing : Type 0 where
  pub name : ℕ
  pub form : Form

-- the outermost stands first
abbrev pub machine_flow : ControlFlow Continuation (List Enclosing)
machine_flow = record {
  gate = ToGate;
  step = ToStep;
  end_with = ToEnd;
  leave = ToLeave;
  finish = ToFinish;
  outermost = [];
  inside = λ n f around. around ++ record { name = n; form = f } ∷ [];
}

abbrev pub MachineRow : Type 0
MachineRow = Row Continuation (List Enclosing)

abbrev pub machine_rows : Routine → List MachineRow
machine_rows program = routine_rows Continuation (List Enclosing) machine_flow program

-- what a core keeps of it: the first that comes, and the nearest around
abbrev pub link_to : Continuation → LinkEnd
link_to (ToGate n) = link.Gate (name_of n)
link_to (ToStep n f body otherwise) = link.Step (name_of n)
link_to (ToEnd n otherwise) = link.End (name_of n)
link_to (ToLeave n) = link.Leave (name_of n)
link_to ToFinish = link.Finish

abbrev pub nearest_name : List Enclosing → Option ℕ
nearest_name [] = None
nearest_name (x ∷ []) = Some x.name
nearest_name (x ∷ (y ∷ ys)) = nearest_name (y ∷ ys)

abbrev pub core_row : MachineRow → CoreRow
core_row r = record {
  name = r.name;
  routine = r.routine;
  around = nearest_name r.around;
  next = option_map link_to r.next;
  entries = r.entries;
  form = r.form;
}

-- ---- labels

-- a label, and where its statement begins
pub record Label : Type 0 where
  pub label : ℕ
  pub entry : ℕ

abbrev pub label_list : Option ℕ → ℕ → List Label
label_list None entry = []
label_list (Some l) entry = record { label = l; entry = entry } ∷ []

abbrev mutual
  pub labels_of : Statement → List Label
  labels_of (Stmt n l f ss) = label_list l (entry_by f (op_in f) n (first_entry ss)) ++ labels_in ss

  pub labels_in : Statements → List Label
  labels_in Last = []
  labels_in (Then s ss) = labels_of s ++ labels_in ss

-- ---- routines

-- the program or a routine, in the table: which one declares it, what is said of it, and where its labels stand
pub record RoutineRow : Type 0 where
  pub owner : ℕ
  pub head : Head
  pub labels : List Label

abbrev mutual
  pub routine_list : ℕ → Routine → List RoutineRow
  routine_list owner (Block head inner body) =
      record { owner = owner; head = head; labels = labels_of body } ∷ routines_list head.name inner

  pub routines_list : ℕ → Routines → List RoutineRow
  routines_list owner NoRoutine = []
  routines_list owner (Also r rs) = routine_list owner r ++ routines_list owner rs

-- the program declares itself
abbrev pub core_routines : Routine → List RoutineRow
core_routines (Block head inner body) = routine_list head.name (Block head inner body)

-- ---- ends of links

abbrev pub row_of : List CoreRow → ℕ → Option CoreRow
row_of rows n = find (λ r. r.name == n) rows

abbrev pub routine_row_of : List RoutineRow → ℕ → Option RoutineRow
routine_row_of routines n = find (λ r. r.head.name == n) routines

-- where a statement with a label begins
abbrev pub label_end : List Label → ℕ → Option LinkEnd
label_end labels l = option_map (λ x. link.Gate (name_of x.entry)) (find (λ x. x.label == l) labels)

abbrev pub labels_by : Option RoutineRow → List Label
labels_by None = []
labels_by (Some r) = r.labels

-- a routine is called, the program and a statement are not
abbrev pub form_end : ℕ → BlockForm → Option LinkEnd
form_end n (RoutineBlock f) = Some (link.Block (name_of n))
form_end n form = None

abbrev pub call_end : ℕ → Option CoreRow → Option LinkEnd
call_end n None = None
call_end n (Some row) = form_end n row.form

abbrev pub end_by : List CoreRow → List RoutineRow → Option CoreRow → LinkTo → Option LinkEnd
end_by rows routines None way = None
end_by rows routines (Some row) to.Next = row.next
end_by rows routines (Some row) (to.Child k) = option_map (λ n. link.Gate (name_of n)) (slice_get row.entries k)
end_by rows routines (Some row) (to.Label l) = label_end (labels_by (routine_row_of routines row.routine)) l
end_by rows routines (Some row) (to.Routine r) = call_end r.0 (row_of rows r.0)

-- where such a link word of the block of this name leads
abbrev pub end_of : List CoreRow → List RoutineRow → ℕ → LinkTo → Option LinkEnd
end_of rows routines n way = end_by rows routines (row_of rows n) way
