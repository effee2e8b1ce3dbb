-- The table of a core is that of the plain machine, of which it keeps the first place that control comes to and the nearest
-- statement around.
use Rattle.std.proofs.Common.{◌≡◌, ℕ, List, [], ◌∷◌, ◌++◌, map, Option, Some, None, refl, ap, ◌∙◌}
use Rattle.std.proofs.lemmas.List.{map-append}
use Rattle.core_tree.specs.declared.form.StatementOp.{StatementOp}
use Rattle.core_tree.specs.declared.form.StatementOp.TheVariants as stmt
use Rattle.core_tree.specs.declared.program.LinkEnd.{LinkEnd}
use Rattle.core_tree.specs.Control.{Continuation, Enclosing, after_body, after_in, after_inner, around_in, around_inner, core_row, core_rows, entries_of, first_entry, head_row, in_sequence, inner_rows, link_flow, link_to, machine_flow, machine_rows, nearest_name, next_in, op_in, own_row, routine_rows, routines_rows, statement_rows}
use Rattle.core_tree.specs.Plain.{Form, BlockForm, ProgramBlock, RoutineBlock, StatementBlock, Statement, Stmt, Statements, Last, Then, head_form, Routine, Block, Routines, NoRoutine, Also}

nearest-append : (xs : List Enclosing) (x : Enclosing) → nearest_name (xs ++ x ∷ []) ≡ Some x.name
nearest-append [] x = refl
nearest-append (y ∷ []) x = refl
nearest-append (y ∷ (z ∷ zs)) x = nearest-append (z ∷ zs) x

abbrev C : Type 0
C = Continuation

abbrev E : Type 0
E = List Enclosing

abbrev L : Type 0
L = LinkEnd

abbrev N : Type 0
N = Option ℕ

next_agrees : (ss : Statements) (a : C) → link_to (next_in C E machine_flow ss a) ≡ next_in L N link_flow ss (link_to a)
next_agrees Last a = refl
next_agrees (Then s ss) a = refl

sequence_by : (f : Form) (o : StatementOp) (ss : Statements) (a : C) → link_to (in_sequence C E machine_flow (Some f) o ss a) ≡ in_sequence L N link_flow (Some f) o ss (link_to a)
sequence_by f stmt.Repeat ss a = next_agrees ss a
sequence_by f stmt.Empty ss a = refl
sequence_by f (stmt.Goto l) ss a = refl
sequence_by f (stmt.Assign to) ss a = refl
sequence_by f stmt.Call ss a = refl
sequence_by f (stmt.If e) ss a = refl
sequence_by f (stmt.Case ls) ss a = refl
sequence_by f stmt.While ss a = refl
sequence_by f (stmt.For loop) ss a = refl
sequence_by f stmt.With ss a = refl
sequence_by f (stmt.Read line) ss a = refl
sequence_by f (stmt.Write line) ss a = refl
sequence_by f (stmt.New n) ss a = refl
sequence_by f (stmt.Dispose n) ss a = refl

sequence_agrees : (f : Option Form) (ss : Statements) (a : C) → link_to (in_sequence C E machine_flow f (op_in f) ss a) ≡ in_sequence L N link_flow f (op_in f) ss (link_to a)
sequence_agrees None ss a = next_agrees ss a
sequence_agrees (Some f) ss a = sequence_by f f.op ss a

after_by : (f : Form) (o : StatementOp) (n body : ℕ) (a : C) → link_to (after_inner C E machine_flow f o n body a) ≡ after_inner L N link_flow f o n body (link_to a)
after_by f stmt.Repeat n body a = refl
after_by f stmt.Empty n body a = refl
after_by f (stmt.Goto l) n body a = refl
after_by f (stmt.Assign to) n body a = refl
after_by f stmt.Call n body a = refl
after_by f (stmt.If e) n body a = refl
after_by f (stmt.Case ls) n body a = refl
after_by f stmt.While n body a = refl
after_by f (stmt.For loop) n body a = refl
after_by f stmt.With n body a = refl
after_by f (stmt.Read line) n body a = refl
after_by f (stmt.Write line) n body a = refl
after_by f (stmt.New w) n body a = refl
after_by f (stmt.Dispose w) n body a = refl

after_agrees : (f : Option Form) (n body : ℕ) (a : C) → link_to (after_in C E machine_flow f n body a) ≡ after_in L N link_flow f n body (link_to a)
after_agrees None n body a = refl
after_agrees (Some f) n body a = after_by f f.op n body a

around_by : (f : Form) (o : StatementOp) (n : ℕ) (b : E) → nearest_name (around_inner C E machine_flow f o n b) ≡ around_inner L N link_flow f o n (nearest_name b)
around_by f (stmt.For loop) n b = nearest-append b (record { name = n; form = f })
around_by f stmt.With n b = nearest-append b (record { name = n; form = f })
around_by f stmt.Repeat n b = refl
around_by f stmt.Empty n b = refl
around_by f (stmt.Goto l) n b = refl
around_by f (stmt.Assign to) n b = refl
around_by f stmt.Call n b = refl
around_by f (stmt.If e) n b = refl
around_by f (stmt.Case ls) n b = refl
around_by f stmt.While n b = refl
around_by f (stmt.Read line) n b = refl
around_by f (stmt.Write line) n b = refl
around_by f (stmt.New w) n b = refl
around_by f (stmt.Dispose w) n b = refl

around_agrees : (f : Option Form) (n : ℕ) (b : E) → nearest_name (around_in C E machine_flow f n b) ≡ around_in L N link_flow f n (nearest_name b)
around_agrees None n b = refl
around_agrees (Some f) n b = around_by f f.op n b

own_agrees : (f : Option Form) (n r : ℕ) (entries : List ℕ) (a : C) (b : E) → map core_row (own_row C E machine_flow f n r entries a b) ≡ own_row L N link_flow f n r entries (link_to a) (nearest_name b)
own_agrees None n r entries a b = refl
own_agrees (Some f) n r entries a b = refl

mutual
  statement_agrees : (s : Statement) (r : ℕ) (a : C) (b : E) → map core_row (statement_rows C E machine_flow s r a b) ≡ statement_rows L N link_flow s r (link_to a) (nearest_name b)
  statement_agrees (Stmt n l f ss) r a b =
      map-append core_row (own_row C E machine_flow f n r (entries_of ss) a b) (inner_rows C E machine_flow ss f r (after_in C E machine_flow f n (first_entry ss) a) (around_in C E machine_flow f n b))
      ∙ (ap (λ xs. xs ++ map core_row (inner_rows C E machine_flow ss f r (after_in C E machine_flow f n (first_entry ss) a) (around_in C E machine_flow f n b))) (own_agrees f n r (entries_of ss) a b)
      ∙ ap (λ xs. own_row L N link_flow f n r (entries_of ss) (link_to a) (nearest_name b) ++ xs)
      (inner_agrees ss f r (after_in C E machine_flow f n (first_entry ss) a) (around_in C E machine_flow f n b)
      ∙ (ap (λ x. inner_rows L N link_flow ss f r x (nearest_name (around_in C E machine_flow f n b))) (after_agrees f n (first_entry ss) a)
      ∙ ap (λ y. inner_rows L N link_flow ss f r (after_in L N link_flow f n (first_entry ss) (link_to a)) y) (around_agrees f n b))))

  inner_agrees : (ss : Statements) (f : Option Form) (r : ℕ) (a : C) (b : E) → map core_row (inner_rows C E machine_flow ss f r a b) ≡ inner_rows L N link_flow ss f r (link_to a) (nearest_name b)
  inner_agrees Last f r a b = refl
  inner_agrees (Then s ss) f r a b =
      map-append core_row (statement_rows C E machine_flow s r (in_sequence C E machine_flow f (op_in f) ss a) b) (inner_rows C E machine_flow ss f r a b)
      ∙ (ap (λ xs. xs ++ map core_row (inner_rows C E machine_flow ss f r a b))
      (statement_agrees s r (in_sequence C E machine_flow f (op_in f) ss a) b ∙ ap (λ x. statement_rows L N link_flow s r x (nearest_name b)) (sequence_agrees f ss a))
      ∙ ap (λ xs. statement_rows L N link_flow s r (in_sequence L N link_flow f (op_in f) ss (link_to a)) (nearest_name b) ++ xs) (inner_agrees ss f r a b))

body_agrees : (form : BlockForm) (n : ℕ) → link_to (after_body C E machine_flow form n) ≡ after_body L N link_flow form n
body_agrees ProgramBlock n = refl
body_agrees (RoutineBlock f) n = refl
body_agrees (StatementBlock f) n = refl

mutual
  routine_agrees : (p : Routine) → map core_row (routine_rows C E machine_flow p) ≡ routine_rows L N link_flow p
  routine_agrees (Block head inner body) =
      ap (λ xs. head_row L N link_flow head.name (head_form head) body ∷ xs)
      (map-append core_row (routines_rows C E machine_flow inner) (statement_rows C E machine_flow body head.name (after_body C E machine_flow (head_form head) head.name) [])
      ∙ (ap (λ xs. xs ++ map core_row (statement_rows C E machine_flow body head.name (after_body C E machine_flow (head_form head) head.name) [])) (routines_agree inner)
      ∙ ap (λ xs. routines_rows L N link_flow inner ++ xs)
      (statement_agrees body head.name (after_body C E machine_flow (head_form head) head.name) [] ∙ ap (λ x. statement_rows L N link_flow body head.name x None) (body_agrees (head_form head) head.name))))

  routines_agree : (rs : Routines) → map core_row (routines_rows C E machine_flow rs) ≡ routines_rows L N link_flow rs
  routines_agree NoRoutine = refl
  routines_agree (Also r rs) =
      map-append core_row (routine_rows C E machine_flow r) (routines_rows C E machine_flow rs)
      ∙ (ap (λ xs. xs ++ map core_row (routines_rows C E machine_flow rs)) (routine_agrees r) ∙ ap (λ xs. routine_rows L N link_flow r ++ xs) (routines_agree rs))

pub rows_agree : (program : Routine) → map core_row (machine_rows program) ≡ core_rows program
rows_agree program = routine_agrees program
