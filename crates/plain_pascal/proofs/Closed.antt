-- The program of a table is closed: each link that a block has leads to a part that its end has.
use Rattle.std.proofs.Common.{◌≡◌, ℕ, zero, suc, ◌<◌, true, List, [], Option, Some, None, option_map, refl, sym, ap, ◌∙◌, subst, arith, inl, inr}
use Rattle.std.specs.Prelude.{slice_index}
use Rattle.std.specs.List.{AllByRecursion}
use Rattle.dice_base.specs.declared.link.LinkTo.{LinkTo}
use Rattle.dice_base.specs.declared.link.LinkTo.TheVariants.{Next, Child, Label, Routine as ToRoutine}
use Rattle.core_tree.specs.declared.form.StatementOp.{StatementOp}
use Rattle.core_tree.specs.declared.form.StatementOp.TheVariants as stmt
use Rattle.core_tree.specs.declared.form.RoutineForm.{RoutineForm}
use Rattle.core_tree.specs.Plain.{Form, BlockForm, ProgramBlock, RoutineBlock, StatementBlock, Statement, Stmt, Statements, Last, Then, Head, head_form, Routine, Block, Routines, NoRoutine, Also}
use Rattle.core_tree.specs.Control.{Continuation, Enclosing, MachineRow, ToGate, ToStep, ToEnd, ToLeave, ToFinish, RoutineRow as ListedRoutine, entry_by, entries_of, entry_of, first_entry, labels_of, op_in, routine_list, routines_list}
use Rattle.plain_machine.specs.Links.{Part, First, Gate, Step as StepPart, End as EndPart, Spot}
use Rattle.plain_machine.specs.Meaning.{HasEnd, IsClosed}
use Rattle.plain_pascal.specs.Resolved.{IsWhole, AreWhole, begins_within, count, IsWholeRoutine, AreWholeRoutines, HasProgram, HasRoutine, IsFound, IsListed, HasRow, IsGateOf, AreLabelled, AreDeclared}
use Rattle.plain_pascal.specs.Program.{Program as Table, Kind, Row, RoutineRow, row_in, row_of, form_in, body_entry, routine_in, routine_of}
use Rattle.plain_pascal.specs.Step.{label_gate, labels_in}
use Rattle.plain_pascal.specs.Run.{entry_in}
use Rattle.plain_pascal.specs.Valid.{HasGate}
use Rattle.plain_pascal.specs.Blocks.{has_part, has_way, has_link, is_for, is_with, pascal, gate, spot_of, routine_block, block_in, form_end, routine_end, way_end, blocks_of}
use Rattle.plain_pascal.proofs.Named.{every_front, every_back, every_join, OfStatements, statement_found, OfRoutines, routine_found}
use Rattle.plain_pascal.proofs.Stage.{HasPartIn, IsSpot}
use Rattle.plain_pascal.proofs.Chains.{rows_of, inner_of, own_of, behind_of, behind_by, around_of, next_of, sequence_of, leaving, head_of, blocks_in, blocks_inside, row_at, first_of, no_row}

module _ (P : Table) where
  -- what comes behind lies in a routine
  abbrev pub InRoutine : Continuation → ℕ → Type 0
  InRoutine (ToGate n) r = IsGateOf P n r
  InRoutine (ToLeave n) r = IsGateOf P n r
  InRoutine ToFinish r = Unit {0}
  InRoutine (ToStep n form body otherwise) r = HasRow P body r × InRoutine otherwise r
  InRoutine (ToEnd n otherwise) r = InRoutine otherwise r

  abbrev pub Behind : Continuation → ℕ → Type 0
  Behind k r = IsSpot P (spot_of k) × InRoutine k r

  row_spot : (n r : ℕ) → HasRow P n r → IsSpot P (gate n)
  row_spot n r h = subst (λ x. HasPartIn P (block_in x (routine_of P n)) (gate n).part) (sym h.found) refl

  -- a gate is that of a statement
  pub gate_row : (r : ℕ) (held : List Kind) (n : ℕ) → HasGate P r held n → HasRow P n r
  gate_row r held n g = record { row = g.row; found = g.found; inside = g.inside }

  own_row_of : (f : Form) (n r : ℕ) (branches : List ℕ) (behind : Continuation) (around : List Enclosing) → AllByRecursion (IsFound P) (own_of (Some f) n r branches behind around) → HasRow P n r
  own_row_of f n r branches behind around h = record { row = row_at f n r branches behind around; found = ap row_in h.0; inside = refl }

  mutual
    pub entry_row : (s : Statement) → IsWhole s → (r : ℕ) (behind : Continuation) (around : List Enclosing) → AllByRecursion (IsFound P) (rows_of s r behind around) → HasRow P (entry_of s) r
    entry_row (Stmt n l None ss) whole r behind around found =
        first_row ss (whole.0 refl) whole.1.1 None r behind (around_of None n around) found
    entry_row (Stmt n l (Some f) ss) whole r behind around found =
        by f.op refl (own_row_of f n r (entries_of ss) behind around (every_front (IsFound P) (own_of (Some f) n r (entries_of ss) behind around) (inner_of ss (Some f) r (behind_of (Some f) n (first_entry ss) behind) (around_of (Some f) n around)) found))
        (λ e. first_row ss (whole.0 e) whole.1.1 (Some f) r (behind_of (Some f) n (first_entry ss) behind) (around_of (Some f) n around)
        (every_back (IsFound P) (own_of (Some f) n r (entries_of ss) behind around) (inner_of ss (Some f) r (behind_of (Some f) n (first_entry ss) behind) (around_of (Some f) n around)) found))
      where
        by : (o : StatementOp) → f.op ≡ o → HasRow P n r → (begins_within (Some f) o ≡ true → HasRow P (first_entry ss) r) → HasRow P (entry_by (Some f) o n (first_entry ss)) r
        by stmt.Repeat e own inner = inner refl
        by o e own inner = own

    pub first_row : (ss : Statements) → 0 < count ss → AreWhole ss → (f : Option Form) (r : ℕ) (behind : Continuation) (around : List Enclosing) → AllByRecursion (IsFound P) (inner_of ss f r behind around) → HasRow P (first_entry ss) r
    first_row Last some whole f r behind around found = absurd (omega (arith, some))
    first_row (Then s ss) some whole f r behind around found =
        entry_row s whole.0 r (sequence_of f (op_in f) ss behind) around (every_front (IsFound P) (rows_of s r (sequence_of f (op_in f) ss behind) around) (inner_of ss f r behind around) found)

  pub branch_row : (ss : Statements) (k : ℕ) → k < count ss → AreWhole ss → (f : Option Form) (r : ℕ) (behind : Continuation) (around : List Enclosing) → AllByRecursion (IsFound P) (inner_of ss f r behind around) → HasRow P (slice_index (entries_of ss) k) r
  branch_row Last k less whole f r behind around found = absurd (omega (arith, less))
  branch_row (Then s ss) zero less whole f r behind around found = first_row (Then s ss) less whole f r behind around found
  branch_row (Then s ss) (suc k) less whole f r behind around found =
      branch_row ss k (omega (arith, less)) whole.1 f r behind around (every_back (IsFound P) (rows_of s r (sequence_of f (op_in f) ss behind) around) (inner_of ss f r behind around) found)

  -- ---- what comes behind

  part_spot : (n : ℕ) (row : Row) (part : Part) → row_of P n ≡ Some row → has_part (StatementBlock row.form) part ≡ true → IsSpot P (record { name = n; part = part })
  part_spot n row part found h = subst (λ x. HasPartIn P (block_in x (routine_of P n)) part) (sym found) h

  inner_spot : (o : StatementOp) (f : Form) → f.op ≡ o → (n r : ℕ) (ss : Statements) (behind : Continuation) (around : List Enclosing)
      → row_of P n ≡ Some (row_at f n r (entries_of ss) behind around) → ((k : ℕ) → has_way o (Child k) ≡ true → HasRow P (slice_index (entries_of ss) k) r) → Behind behind r → Behind (behind_by f o n (first_entry ss) behind) r
  inner_spot (stmt.For loop) f e n r ss behind around found body h = (part_spot n (row_at f n r (entries_of ss) behind around) StepPart found (ap is_for e), (subst (λ k. HasRow P k r) (first_of P ss) (body 0 refl), h.1))
  inner_spot stmt.With f e n r ss behind around found body h = (part_spot n (row_at f n r (entries_of ss) behind around) EndPart found (ap is_with e), h.1)
  inner_spot stmt.While f e n r ss behind around found body h = (part_spot n (row_at f n r (entries_of ss) behind around) Gate found refl, inl (record { row = row_at f n r (entries_of ss) behind around; found = found; inside = refl }))
  inner_spot stmt.Repeat f e n r ss behind around found body h = (part_spot n (row_at f n r (entries_of ss) behind around) Gate found refl, inl (record { row = row_at f n r (entries_of ss) behind around; found = found; inside = refl }))
  inner_spot o f e n r ss behind around found body h = h

  behind_spot : (f : Option Form) (n r : ℕ) (ss : Statements) (behind : Continuation) (around : List Enclosing) → AllByRecursion (IsFound P) (own_of f n r (entries_of ss) behind around)
      → ((k : ℕ) → has_way (op_in f) (Child k) ≡ true → HasRow P (slice_index (entries_of ss) k) r) → Behind behind r → Behind (behind_of f n (first_entry ss) behind) r
  behind_spot None n r ss behind around found body h = h
  behind_spot (Some f) n r ss behind around found body h = inner_spot f.op f refl n r ss behind around (ap row_in found.0) body h

  next_spot : (ss : Statements) → AreWhole ss → (f : Option Form) (r : ℕ) (behind : Continuation) (around : List Enclosing) (next : Continuation) → AllByRecursion (IsFound P) (inner_of ss f r behind around) → Behind next r → Behind (next_of ss next) r
  next_spot Last whole f r behind around next found h = h
  next_spot (Then s ss) whole f r behind around next found h = (row_spot (entry_of s) r (first_row (Then s ss) (omega arith) whole f r behind around found), inl (first_row (Then s ss) (omega arith) whole f r behind around found))

  sequence_spot : (o : StatementOp) (ss : Statements) → AreWhole ss → (f : Option Form) (r : ℕ) (behind : Continuation) (around : List Enclosing) → AllByRecursion (IsFound P) (inner_of ss f r behind around) → Behind behind r → Behind (sequence_of f o ss behind) r
  sequence_spot o ss whole None r behind around found h = next_spot ss whole None r behind around behind found h
  sequence_spot stmt.Repeat ss whole (Some f) r behind around found h = next_spot ss whole (Some f) r behind around behind found h
  sequence_spot o ss whole (Some f) r behind around found h = h

  -- ---- rows

  abbrev pub IsClosedRow : Row → Type 0
  IsClosedRow x = Behind x.continuation x.routine × ((k : ℕ) → has_way x.form.op (Child k) ≡ true → HasRow P (slice_index x.branches k) x.routine)

  abbrev pub IsClosedBlock : MachineRow → Type 0
  IsClosedBlock = OfStatements IsClosedRow

  own_closed : (f : Option Form) (n r : ℕ) (branches : List ℕ) (behind : Continuation) (around : List Enclosing) → Behind behind r → ((k : ℕ) → has_way (op_in f) (Child k) ≡ true → HasRow P (slice_index branches k) r)
      → AllByRecursion IsClosedBlock (own_of f n r branches behind around)
  own_closed None n r branches behind around h hs = tt
  own_closed (Some f) n r branches behind around h hs = ((h, hs), tt)

  mutual
    pub statement_closed : (s : Statement) → IsWhole s → (r : ℕ) (behind : Continuation) (around : List Enclosing) → AllByRecursion (IsFound P) (rows_of s r behind around) → Behind behind r → AllByRecursion IsClosedBlock (rows_of s r behind around)
    statement_closed (Stmt n l f ss) whole r behind around found h =
        let inner : AllByRecursion (IsFound P) (inner_of ss f r (behind_of f n (first_entry ss) behind) (around_of f n around)) = every_back (IsFound P) (own_of f n r (entries_of ss) behind around) (inner_of ss f r (behind_of f n (first_entry ss) behind) (around_of f n around)) found in
        let branches : (k : ℕ) → has_way (op_in f) (Child k) ≡ true → HasRow P (slice_index (entries_of ss) k) r = λ k e. branch_row ss k (whole.1.0 k e) whole.1.1 f r (behind_of f n (first_entry ss) behind) (around_of f n around) inner in
        every_join IsClosedBlock (own_of f n r (entries_of ss) behind around) (inner_of ss f r (behind_of f n (first_entry ss) behind) (around_of f n around))
        (own_closed f n r (entries_of ss) behind around h branches)
        (inner_closed ss whole.1.1 f r (behind_of f n (first_entry ss) behind) (around_of f n around) inner
        (behind_spot f n r ss behind around (every_front (IsFound P) (own_of f n r (entries_of ss) behind around) (inner_of ss f r (behind_of f n (first_entry ss) behind) (around_of f n around)) found) branches h))

    pub inner_closed : (ss : Statements) → AreWhole ss → (f : Option Form) (r : ℕ) (behind : Continuation) (around : List Enclosing) → AllByRecursion (IsFound P) (inner_of ss f r behind around) → Behind behind r → AllByRecursion IsClosedBlock (inner_of ss f r behind around)
    inner_closed Last whole f r behind around found h = tt
    inner_closed (Then s ss) whole f r behind around found h =
        let others : AllByRecursion (IsFound P) (inner_of ss f r behind around) = every_back (IsFound P) (rows_of s r (sequence_of f (op_in f) ss behind) around) (inner_of ss f r behind around) found in
        every_join IsClosedBlock (rows_of s r (sequence_of f (op_in f) ss behind) around) (inner_of ss f r behind around)
        (statement_closed s whole.0 r (sequence_of f (op_in f) ss behind) around (every_front (IsFound P) (rows_of s r (sequence_of f (op_in f) ss behind) around) (inner_of ss f r behind around) found)
        (sequence_spot (op_in f) ss whole.1 f r behind around others h))
        (inner_closed ss whole.1 f r behind around others h)

  -- ---- routines

  -- the routine's own block is no statement
  no_statement : (n : ℕ) (form : BlockForm) (body : Statement) → IsFound P (head_of n form body) → row_of P n ≡ None
  no_statement n form body found = ap row_in found

  abbrev listed : ℕ → Head → Statement → ListedRoutine
  listed owner head body = record { owner = owner; head = head; labels = labels_of body }

  -- what comes after its body
  leaving_spot : HasProgram P → (owner : ℕ) (head : Head) (body : Statement) (form : BlockForm) → head_form head ≡ form → routine_of P head.name ≡ Some (routine_in P.rows (listed owner head body)) → row_of P head.name ≡ None → Behind (leaving form head.name) head.name
  leaving_spot program owner head body (RoutineBlock f) is found bare =
      let form : form_in (head_form head) ≡ Some f = ap form_in is in (
        subst (λ y. HasPartIn P y Gate) (sym (ap (λ r. block_in r (routine_of P head.name)) bare ∙ ap (λ r. block_in None r) found ∙ ap (λ f. Some (routine_block f)) form)) refl,
        inr (refl, record { row = routine_in P.rows (listed owner head body); found = found; name = refl; form = f; is_form = form; no_statement = bare }),
      )
  leaving_spot program owner head body ProgramBlock is found bare =
      (subst (λ y. HasPartIn P y EndPart) (sym (ap (λ r. block_in r (routine_of P 1)) program.no_statement ∙ ap (λ r. block_in None r) program.found ∙ ap (λ f. Some (routine_block f)) program.form)) refl, tt)
  leaving_spot program owner head body (StatementBlock f) is found bare =
      (subst (λ y. HasPartIn P y EndPart) (sym (ap (λ r. block_in r (routine_of P 1)) program.no_statement ∙ ap (λ r. block_in None r) program.found ∙ ap (λ f. Some (routine_block f)) program.form)) refl, tt)

  abbrev pub HasEntry : RoutineRow → Type 0
  HasEntry x = HasRow P x.entry x.name

  abbrev pub HasEntryListed : ListedRoutine → Type 0
  HasEntryListed = OfRoutines P HasEntry

  module _ (program : HasProgram P) where
    mutual
      pub routine_closed : (x : Routine) → IsWholeRoutine x → (owner : ℕ) → AllByRecursion (IsListed P) (routine_list owner x) → AllByRecursion (IsFound P) (blocks_in x) → AllByRecursion IsClosedBlock (blocks_in x)
      routine_closed (Block head inner body) whole owner blocks found = (
        no_row P IsClosedRow head.name (head_form head) body,
        every_join IsClosedBlock (blocks_inside inner) (rows_of body head.name (leaving (head_form head) head.name) [])
            (routines_closed inner whole.1 head.name blocks.1 (every_front (IsFound P) (blocks_inside inner) (rows_of body head.name (leaving (head_form head) head.name) []) found.1))
            (statement_closed body whole.0 head.name (leaving (head_form head) head.name) [] (every_back (IsFound P) (blocks_inside inner) (rows_of body head.name (leaving (head_form head) head.name) []) found.1)
            (leaving_spot program owner head body (head_form head) refl (ap (option_map (routine_in P.rows)) blocks.0) (no_statement head.name (head_form head) body found.0))),
      )

      pub routines_closed : (xs : Routines) → AreWholeRoutines xs → (owner : ℕ) → AllByRecursion (IsListed P) (routines_list owner xs) → AllByRecursion (IsFound P) (blocks_inside xs) → AllByRecursion IsClosedBlock (blocks_inside xs)
      routines_closed NoRoutine whole owner blocks found = tt
      routines_closed (Also x xs) whole owner blocks found =
          every_join IsClosedBlock (blocks_in x) (blocks_inside xs)
          (routine_closed x whole.0 owner (every_front (IsListed P) (routine_list owner x) (routines_list owner xs) blocks) (every_front (IsFound P) (blocks_in x) (blocks_inside xs) found))
          (routines_closed xs whole.1 owner (every_back (IsListed P) (routine_list owner x) (routines_list owner xs) blocks) (every_back (IsFound P) (blocks_in x) (blocks_inside xs) found))

  mutual
    pub routine_entries : (x : Routine) → IsWholeRoutine x → (owner : ℕ) → AllByRecursion (IsFound P) (blocks_in x) → AllByRecursion HasEntryListed (routine_list owner x)
    routine_entries (Block head inner body) whole owner found = (
      subst (λ n. HasRow P n head.name) (sym (ap body_entry found.0)) (entry_row body whole.0 head.name (leaving (head_form head) head.name) [] (every_back (IsFound P) (blocks_inside inner) (rows_of body head.name (leaving (head_form head) head.name) []) found.1)),
      routines_entries inner whole.1 head.name (every_front (IsFound P) (blocks_inside inner) (rows_of body head.name (leaving (head_form head) head.name) []) found.1),
    )

    pub routines_entries : (xs : Routines) → AreWholeRoutines xs → (owner : ℕ) → AllByRecursion (IsFound P) (blocks_inside xs) → AllByRecursion HasEntryListed (routines_list owner xs)
    routines_entries NoRoutine whole owner found = tt
    routines_entries (Also x xs) whole owner found =
        every_join HasEntryListed (routine_list owner x) (routines_list owner xs) (routine_entries x whole.0 owner (every_front (IsFound P) (blocks_in x) (blocks_inside xs) found))
        (routines_entries xs whole.1 owner (every_back (IsFound P) (blocks_in x) (blocks_inside xs) found))

  end_from : (n : ℕ) (to : LinkTo) (s : Spot) → (blocks_of P).link_end n to ≡ Some s → IsSpot P s → HasEnd pascal (blocks_of P) n to
  end_from n to s leads h = by ((blocks_of P).form s.name) refl h
    where
      by : (x : Option BlockForm) → (blocks_of P).form s.name ≡ x → HasPartIn P x s.part → HasEnd pascal (blocks_of P) n to
      by None e h = absurd h
      by (Some f) e h = record { spot = s; leads = leads; form = f; has = e; part = h }

  pub rows_close : AllByRecursion IsClosedBlock P.rows → AllByRecursion HasEntryListed P.routines → AreLabelled P → AreDeclared P → IsClosed pascal (blocks_of P)
  rows_close rows entries labels calls n f to is link = by (row_of P n) refl (routine_of P n) refl is
    where
      of_statement : (row : Row) → row_of P n ≡ Some row → (to : LinkTo) → has_link (StatementBlock row.form) to ≡ true → HasEnd pascal (blocks_of P) n to
      of_statement row found Next h = end_from n Next (spot_of row.continuation) (ap (λ r. way_end P r n Next) found) (statement_found P IsClosedRow n row rows found).0.0
      of_statement row found (Child k) h = end_from n (Child k) (gate (slice_index row.branches k)) (ap (λ r. way_end P r n (Child k)) found) (row_spot (slice_index row.branches k) row.routine ((statement_found P IsClosedRow n row rows found).1 k h))
      of_statement row found (Label l) h = end_from n (Label l) (gate (label_gate (labels_in (routine_of P row.routine)) l)) (ap (λ r. way_end P r n (Label l)) found) (row_spot (label_gate (labels_in (routine_of P row.routine)) l) row.routine (gate_row row.routine row.around (label_gate (labels_in (routine_of P row.routine)) l) (labels n row l found h)))
      of_statement row found (ToRoutine c) h =
          let r : HasRoutine P c.0 = calls n row c found h in
          end_from n (ToRoutine c) (record { name = c.0; part = First })
          (ap (λ x. way_end P x n (ToRoutine c)) found ∙ ap (routine_end c.0) r.found ∙ ap (form_end c.0) r.is_form)
          (subst (λ y. HasPartIn P y First) (sym (ap (λ x. block_in x (routine_of P c.0)) r.no_statement ∙ ap (λ x. block_in None x) r.found ∙ ap (λ f. Some (routine_block f)) r.is_form)) refl)

      of_child : (r : RoutineRow) → row_of P n ≡ None → routine_of P n ≡ Some r → (k : ℕ) → HasEnd pascal (blocks_of P) n (Child k)
      of_child r bare found k =
          end_from n (Child k) (gate r.entry) (ap (λ x. way_end P x n (Child k)) bare ∙ ap (λ x. Some (gate (entry_in x))) found) (row_spot r.entry r.name (routine_found P HasEntry n r entries found))

      of_routine : (r : RoutineRow) → row_of P n ≡ None → routine_of P n ≡ Some r → (x : Option RoutineForm) (to : LinkTo) → has_link (routine_block x) to ≡ true → HasEnd pascal (blocks_of P) n to
      of_routine r bare found x (Child k) h = of_child r bare found k
      of_routine r bare found None Next h = absurd (grind (arith, h))
      of_routine r bare found (Some g) Next h = absurd (grind (arith, h))
      of_routine r bare found None (Label l) h = absurd (grind (arith, h))
      of_routine r bare found (Some g) (Label l) h = absurd (grind (arith, h))
      of_routine r bare found None (ToRoutine c) h = absurd (grind (arith, h))
      of_routine r bare found (Some g) (ToRoutine c) h = absurd (grind (arith, h))

      by : (x : Option Row) → row_of P n ≡ x → (r : Option RoutineRow) → routine_of P n ≡ r → block_in x r ≡ Some f → HasEnd pascal (blocks_of P) n to
      by (Some row) e r er same = let g : f ≡ StatementBlock row.form = cc same in of_statement row e to (subst (λ y. has_link y to ≡ true) g link)
      by None e (Some r) er same = let g : f ≡ routine_block r.form = cc same in of_routine r e er r.form to (subst (λ y. has_link y to ≡ true) g link)
      by None e None er same = absurd (grind (arith, same))
