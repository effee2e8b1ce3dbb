-- In a resolved program each way out of a statement leads to where no more is held than is held there.
use Rattle.std.proofs.Common.{◌≡◌, ℕ, zero, suc, ◌<◌, true, List, [], ◌∷◌, ◌++◌, Option, Some, None, refl, sym, ap, ◌∙◌, subst, arith}
use Rattle.std.specs.Prelude.{◌==◌, find, slice_index}
use Rattle.std.specs.List.{AllByRecursion}
use Rattle.dice_base.specs.declared.link.LinkTo.TheVariants.{Child}
use Rattle.core_tree.specs.declared.form.StatementOp.{StatementOp}
use Rattle.core_tree.specs.declared.form.StatementOp.TheVariants as stmt
use Rattle.core_tree.specs.Plain.{Form, BlockForm, ProgramBlock, RoutineBlock, StatementBlock, Statement, Stmt, Statements, Last, Then, head_form, Routine, Block, Routines, NoRoutine, Also}
use Rattle.core_tree.specs.Control.{Continuation, Enclosing, MachineRow, RoutineRow as ListedRoutine, ToGate, ToStep, ToEnd, ToLeave, ToFinish, around_inner, machine_flow, entry_by, entries_of, entry_of, first_entry, op_in, core_routines, routine_list, routines_list}
use Rattle.plain_pascal.specs.Resolved.{IsWhole, AreWhole, begins_within, count, IsWholeRoutine, AreWholeRoutines, IsFound, IsResolved}
use Rattle.plain_pascal.specs.Laws.{ResolvedOrder}
use Rattle.plain_pascal.specs.Program.{Program as Table, Kind, Row, RoutineRow, body_entry, held_around, held_inside, form_in, owner_in, program_of, row_in, row_of}
use Rattle.plain_pascal.specs.Blocks.{has_way}
use Rattle.plain_pascal.specs.Valid.{GoesOn, HasEntry, HasGate}
use Rattle.plain_pascal.proofs.Joined.{joined_kinds, no_more_kinds}
use Rattle.plain_pascal.proofs.Named.{every_front, every_back, every_join, OfStatements, OfRoutines, routine_found, row_named, statement_found}
use Rattle.plain_pascal.proofs.Chains.{rows_of, inner_of, own_of, behind_of, behind_by, around_of, next_of, sequence_of, leaving, head_of, blocks_in, blocks_inside, row_at, first_of, no_row}

-- ---- what is held around the statements in one

held_joined : (xs ys : List Enclosing) → held_around (xs ++ ys) ≡ held_around xs ++ held_around ys
held_joined [] ys = refl
held_joined (x ∷ xs) ys = ap (λ ks. held_inside x.form.op x.form.parts ++ ks) (held_joined xs ys) ∙ sym (joined_kinds (held_inside x.form.op x.form.parts) (held_around xs) (held_around ys))

held_one : (f : Form) (n : ℕ) (around : List Enclosing) → held_around (around ++ record { name = n; form = f } ∷ []) ≡ held_around around ++ held_inside f.op f.parts
held_one f n around = held_joined around (record { name = n; form = f } ∷ []) ∙ ap (λ ks. held_around around ++ ks) (no_more_kinds (held_inside f.op f.parts))

held_within : (f : Form) (n : ℕ) (around : List Enclosing) → held_around (around_of (Some f) n around) ≡ held_around around ++ held_inside f.op f.parts
held_within f n around = by f.op refl
  where
    by : (o : StatementOp) → f.op ≡ o → held_around (around_inner Continuation (List Enclosing) machine_flow f o n around) ≡ held_around around ++ held_inside o f.parts
    by (stmt.For loop) e = held_one f n around ∙ ap (λ o. held_around around ++ held_inside o f.parts) e
    by stmt.With e = held_one f n around ∙ ap (λ o. held_around around ++ held_inside o f.parts) e
    by o e = sym (no_more_kinds (held_around around))

module _ (P : Table) where
  -- a statement of a routine, with what is held around it
  pub record StandsIn (n r : ℕ) (held : List Kind) : Type 0 where
    pub row : Row
    pub found : row_of P n ≡ Some row
    pub inside : row.routine ≡ r
    pub around : row.around ≡ held

  same_gate : (n r : ℕ) (held : List Kind) → StandsIn n r held → HasGate P r held n
  same_gate n r held h = record { row = h.row; found = h.found; inside = h.inside; ended = []; around = sym h.around ∙ sym (no_more_kinds h.row.around) }

  -- ---- more may be held

  gate_more : (n r : ℕ) (ks js : List Kind) → HasGate P r ks n → HasGate P r (ks ++ js) n
  gate_more n r ks js g = record { row = g.row; found = g.found; inside = g.inside; ended = g.ended ++ js; around = ap (λ ls. ls ++ js) g.around ∙ joined_kinds g.row.around g.ended js }

  goes_more : (k : Continuation) (r : ℕ) (ks js : List Kind) → GoesOn P r ks k → GoesOn P r (ks ++ js) k
  goes_more (ToGate n) r ks js g = gate_more n r ks js g
  goes_more (ToLeave n) r ks js g = g
  goes_more ToFinish r ks js g = g
  goes_more (ToEnd n otherwise) r ks js g = goes_more otherwise r ks js g
  goes_more (ToStep n form body otherwise) r ks js g = (g.0, gate_more body r ks js g.1, goes_more otherwise r ks js g.2)

  -- ---- where statements begin

  own_stands : (f : Form) (n r : ℕ) (branches : List ℕ) (behind : Continuation) (around : List Enclosing) → AllByRecursion (IsFound P) (own_of (Some f) n r branches behind around) → StandsIn n r (held_around around)
  own_stands f n r branches behind around h = record { row = row_at f n r branches behind around; found = ap row_in h.0; inside = refl; around = refl }

  mutual
    entry_stands : (s : Statement) → IsWhole s → (r : ℕ) (behind : Continuation) (around : List Enclosing) → AllByRecursion (IsFound P) (rows_of s r behind around) → StandsIn (entry_of s) r (held_around around)
    entry_stands (Stmt n l None ss) whole r behind around found = first_stands ss (whole.0 refl) whole.1.1 None r behind around found
    entry_stands (Stmt n l (Some f) ss) whole r behind around found =
        by f.op refl (own_stands f n r (entries_of ss) behind around (every_front (IsFound P) (own_of (Some f) n r (entries_of ss) behind around) (inner_of ss (Some f) r (behind_of (Some f) n (first_entry ss) behind) (around_of (Some f) n around)) found))
        (λ e. first_stands ss (whole.0 e) whole.1.1 (Some f) r (behind_of (Some f) n (first_entry ss) behind) (around_of (Some f) n around)
        (every_back (IsFound P) (own_of (Some f) n r (entries_of ss) behind around) (inner_of ss (Some f) r (behind_of (Some f) n (first_entry ss) behind) (around_of (Some f) n around)) found))
      where
        by : (o : StatementOp) → f.op ≡ o → StandsIn n r (held_around around) → (begins_within (Some f) o ≡ true → StandsIn (first_entry ss) r (held_around (around_of (Some f) n around))) → StandsIn (entry_by (Some f) o n (first_entry ss)) r (held_around around)
        by stmt.Repeat e own inner =
            subst (λ ks. StandsIn (first_entry ss) r ks) (held_within f n around ∙ ap (λ o. held_around around ++ held_inside o f.parts) e ∙ no_more_kinds (held_around around)) (inner refl)
        by o e own inner = own

    first_stands : (ss : Statements) → 0 < count ss → AreWhole ss → (f : Option Form) (r : ℕ) (behind : Continuation) (around : List Enclosing) → AllByRecursion (IsFound P) (inner_of ss f r behind around) → StandsIn (first_entry ss) r (held_around around)
    first_stands Last some whole f r behind around found = absurd (omega (arith, some))
    first_stands (Then s ss) some whole f r behind around found =
        entry_stands s whole.0 r (sequence_of f (op_in f) ss behind) around (every_front (IsFound P) (rows_of s r (sequence_of f (op_in f) ss behind) around) (inner_of ss f r behind around) found)

  branch_stands : (ss : Statements) (k : ℕ) → k < count ss → AreWhole ss → (f : Option Form) (r : ℕ) (behind : Continuation) (around : List Enclosing) → AllByRecursion (IsFound P) (inner_of ss f r behind around) → StandsIn (slice_index (entries_of ss) k) r (held_around around)
  branch_stands Last k less whole f r behind around found = absurd (omega (arith, less))
  branch_stands (Then s ss) zero less whole f r behind around found = first_stands (Then s ss) less whole f r behind around found
  branch_stands (Then s ss) (suc k) less whole f r behind around found =
      branch_stands ss k (omega (arith, less)) whole.1 f r behind around (every_back (IsFound P) (rows_of s r (sequence_of f (op_in f) ss behind) around) (inner_of ss f r behind around) found)

  -- ---- what comes behind

  abbrev Onward : Continuation → ℕ → List Enclosing → Type 0
  Onward k r around = GoesOn P r (held_around around) k

  inner_onward : (o : StatementOp) (f : Form) → f.op ≡ o → (n r : ℕ) (ss : Statements) (behind : Continuation) (around : List Enclosing) → StandsIn n r (held_around around) → row_of P n ≡ Some (row_at f n r (entries_of ss) behind around)
      → ((k : ℕ) → has_way o (Child k) ≡ true → StandsIn (slice_index (entries_of ss) k) r (held_around around ++ held_inside o f.parts)) → Onward behind r around → GoesOn P r (held_around around ++ held_inside o f.parts) (behind_by f o n (first_entry ss) behind)
  inner_onward (stmt.For loop) f e n r ss behind around own found body h = (
    record { row = row_at f n r (entries_of ss) behind around; found = found; inside = refl; is_form = refl },
    subst (HasGate P r (held_around around ++ held_inside (stmt.For loop) f.parts)) (first_of P ss) (same_gate (slice_index (entries_of ss) 0) r (held_around around ++ held_inside (stmt.For loop) f.parts) (body 0 refl)),
    goes_more behind r (held_around around) (held_inside (stmt.For loop) f.parts) h,
  )
  inner_onward stmt.With f e n r ss behind around own found body h = goes_more behind r (held_around around) (held_inside stmt.With f.parts) h
  inner_onward stmt.While f e n r ss behind around own found body h = gate_more n r (held_around around) [] (same_gate n r (held_around around) own)
  inner_onward stmt.Repeat f e n r ss behind around own found body h = gate_more n r (held_around around) [] (same_gate n r (held_around around) own)
  inner_onward o f e n r ss behind around own found body h = goes_more behind r (held_around around) [] h

  behind_onward : (f : Option Form) (n r : ℕ) (ss : Statements) (behind : Continuation) (around : List Enclosing) → AllByRecursion (IsFound P) (own_of f n r (entries_of ss) behind around)
      → ((k : ℕ) → has_way (op_in f) (Child k) ≡ true → StandsIn (slice_index (entries_of ss) k) r (held_around (around_of f n around))) → Onward behind r around → Onward (behind_of f n (first_entry ss) behind) r (around_of f n around)
  behind_onward None n r ss behind around found body h = h
  behind_onward (Some f) n r ss behind around found body h =
      subst (λ ks. GoesOn P r ks (behind_of (Some f) n (first_entry ss) behind)) (sym (held_within f n around))
      (inner_onward f.op f refl n r ss behind around (own_stands f n r (entries_of ss) behind around found) (ap row_in found.0)
      (λ k w. subst (StandsIn (slice_index (entries_of ss) k) r) (held_within f n around) (body k w)) h)

  next_onward : (ss : Statements) → AreWhole ss → (f : Option Form) (r : ℕ) (behind : Continuation) (around : List Enclosing) (next : Continuation) → AllByRecursion (IsFound P) (inner_of ss f r behind around) → Onward next r around → Onward (next_of ss next) r around
  next_onward Last whole f r behind around next found h = h
  next_onward (Then s ss) whole f r behind around next found h = same_gate (entry_of s) r (held_around around) (first_stands (Then s ss) (omega arith) whole f r behind around found)

  sequence_onward : (o : StatementOp) (ss : Statements) → AreWhole ss → (f : Option Form) (r : ℕ) (behind : Continuation) (around : List Enclosing) → AllByRecursion (IsFound P) (inner_of ss f r behind around) → Onward behind r around → Onward (sequence_of f o ss behind) r around
  sequence_onward o ss whole None r behind around found h = next_onward ss whole None r behind around behind found h
  sequence_onward stmt.Repeat ss whole (Some f) r behind around found h = next_onward ss whole (Some f) r behind around behind found h
  sequence_onward o ss whole (Some f) r behind around found h = h

  -- ---- rows

  abbrev pub IsLedRow : Row → Type 0
  IsLedRow x = GoesOn P x.routine x.around x.continuation × ((k : ℕ) → has_way x.form.op (Child k) ≡ true → HasGate P x.routine (x.around ++ held_inside x.form.op x.form.parts) (slice_index x.branches k))

  abbrev pub IsLedBlock : MachineRow → Type 0
  IsLedBlock = OfStatements IsLedRow

  own_led : (f : Option Form) (n r : ℕ) (ss : Statements) (behind : Continuation) (around : List Enclosing) → Onward behind r around → ((k : ℕ) → has_way (op_in f) (Child k) ≡ true → StandsIn (slice_index (entries_of ss) k) r (held_around (around_of f n around)))
      → AllByRecursion IsLedBlock (own_of f n r (entries_of ss) behind around)
  own_led None n r ss behind around h hs = tt
  own_led (Some f) n r ss behind around h hs =
      ((h, λ k w. subst (λ ks. HasGate P r ks (slice_index (entries_of ss) k)) (held_within f n around) (same_gate (slice_index (entries_of ss) k) r (held_around (around_of (Some f) n around)) (hs k w))), tt)

  mutual
    statement_led : (s : Statement) → IsWhole s → (r : ℕ) (behind : Continuation) (around : List Enclosing) → AllByRecursion (IsFound P) (rows_of s r behind around) → Onward behind r around → AllByRecursion IsLedBlock (rows_of s r behind around)
    statement_led (Stmt n l f ss) whole r behind around found h =
        let inner : AllByRecursion (IsFound P) (inner_of ss f r (behind_of f n (first_entry ss) behind) (around_of f n around)) = every_back (IsFound P) (own_of f n r (entries_of ss) behind around) (inner_of ss f r (behind_of f n (first_entry ss) behind) (around_of f n around)) found in
        let branches : (k : ℕ) → has_way (op_in f) (Child k) ≡ true → StandsIn (slice_index (entries_of ss) k) r (held_around (around_of f n around)) = λ k e. branch_stands ss k (whole.1.0 k e) whole.1.1 f r (behind_of f n (first_entry ss) behind) (around_of f n around) inner in
        every_join IsLedBlock (own_of f n r (entries_of ss) behind around) (inner_of ss f r (behind_of f n (first_entry ss) behind) (around_of f n around))
        (own_led f n r ss behind around h branches)
        (inner_led ss whole.1.1 f r (behind_of f n (first_entry ss) behind) (around_of f n around) inner
        (behind_onward f n r ss behind around (every_front (IsFound P) (own_of f n r (entries_of ss) behind around) (inner_of ss f r (behind_of f n (first_entry ss) behind) (around_of f n around)) found) branches h))

    inner_led : (ss : Statements) → AreWhole ss → (f : Option Form) (r : ℕ) (behind : Continuation) (around : List Enclosing) → AllByRecursion (IsFound P) (inner_of ss f r behind around) → Onward behind r around → AllByRecursion IsLedBlock (inner_of ss f r behind around)
    inner_led Last whole f r behind around found h = tt
    inner_led (Then s ss) whole f r behind around found h =
        let others : AllByRecursion (IsFound P) (inner_of ss f r behind around) = every_back (IsFound P) (rows_of s r (sequence_of f (op_in f) ss behind) around) (inner_of ss f r behind around) found in
        every_join IsLedBlock (rows_of s r (sequence_of f (op_in f) ss behind) around) (inner_of ss f r behind around)
        (statement_led s whole.0 r (sequence_of f (op_in f) ss behind) around (every_front (IsFound P) (rows_of s r (sequence_of f (op_in f) ss behind) around) (inner_of ss f r behind around) found)
        (sequence_onward (op_in f) ss whole.1 f r behind around others h))
        (inner_led ss whole.1 f r behind around others h)

  -- ---- routines

  leaving_onward : (form : BlockForm) (n : ℕ) → Onward (leaving form n) n []
  leaving_onward ProgramBlock n = tt
  leaving_onward (RoutineBlock f) n = refl
  leaving_onward (StatementBlock f) n = tt

  mutual
    pub routine_led : (x : Routine) → IsWholeRoutine x → AllByRecursion (IsFound P) (blocks_in x) → AllByRecursion IsLedBlock (blocks_in x)
    routine_led (Block head inner body) whole found = (
      no_row P IsLedRow head.name (head_form head) body,
      every_join IsLedBlock (blocks_inside inner) (rows_of body head.name (leaving (head_form head) head.name) [])
          (routines_led inner whole.1 (every_front (IsFound P) (blocks_inside inner) (rows_of body head.name (leaving (head_form head) head.name) []) found.1))
          (statement_led body whole.0 head.name (leaving (head_form head) head.name) [] (every_back (IsFound P) (blocks_inside inner) (rows_of body head.name (leaving (head_form head) head.name) []) found.1)
          (leaving_onward (head_form head) head.name)),
    )

    pub routines_led : (xs : Routines) → AreWholeRoutines xs → AllByRecursion (IsFound P) (blocks_inside xs) → AllByRecursion IsLedBlock (blocks_inside xs)
    routines_led NoRoutine whole found = tt
    routines_led (Also x xs) whole found =
        every_join IsLedBlock (blocks_in x) (blocks_inside xs)
        (routine_led x whole.0 (every_front (IsFound P) (blocks_in x) (blocks_inside xs) found))
        (routines_led xs whole.1 (every_back (IsFound P) (blocks_in x) (blocks_inside xs) found))

  -- a routine is no statement, and its body begins in no holds
  abbrev pub IsEntered : RoutineRow → Type 0
  IsEntered x = (row_of P x.name ≡ None) × HasEntry P x

  abbrev pub IsEnteredListed : ListedRoutine → Type 0
  IsEnteredListed = OfRoutines P IsEntered

  body_stands : (n : ℕ) (form : BlockForm) (body : Statement) → IsWhole body → IsFound P (head_of n form body) → AllByRecursion (IsFound P) (rows_of body n (leaving form n) []) → (row : Row) × (row_of P (body_entry (find (λ r. r.name == n) P.rows)) ≡ Some row) × (row.routine ≡ n) × (row.around ≡ [])
  body_stands n form body whole own found =
      let h : StandsIn (entry_of body) n [] = entry_stands body whole n (leaving form n) [] found in
      (h.row, ap (row_of P) (ap body_entry own) ∙ h.found, h.inside, h.around)

  mutual
    pub routine_entered : (x : Routine) → IsWholeRoutine x → (owner : ℕ) → AllByRecursion (IsFound P) (blocks_in x) → AllByRecursion IsEnteredListed (routine_list owner x)
    routine_entered (Block head inner body) whole owner found = (
      (ap row_in found.0, body_stands head.name (head_form head) body whole.0 found.0 (every_back (IsFound P) (blocks_inside inner) (rows_of body head.name (leaving (head_form head) head.name) []) found.1)),
      routines_entered inner whole.1 head.name (every_front (IsFound P) (blocks_inside inner) (rows_of body head.name (leaving (head_form head) head.name) []) found.1),
    )

    pub routines_entered : (xs : Routines) → AreWholeRoutines xs → (owner : ℕ) → AllByRecursion (IsFound P) (blocks_inside xs) → AllByRecursion IsEnteredListed (routines_list owner xs)
    routines_entered NoRoutine whole owner found = tt
    routines_entered (Also x xs) whole owner found =
        every_join IsEnteredListed (routine_list owner x) (routines_list owner xs) (routine_entered x whole.0 owner (every_front (IsFound P) (blocks_in x) (blocks_inside xs) found))
        (routines_entered xs whole.1 owner (every_back (IsFound P) (blocks_in x) (blocks_inside xs) found))

-- ---- a resolved program is in order

entered_listed : (x : Routine) (m : ℕ) → IsResolved x m → AllByRecursion (IsEnteredListed (program_of x)) (core_routines x)
entered_listed (Block head inner body) m c = routine_entered (program_of (Block head inner body)) (Block head inner body) c.whole head.name c.blocks_found

-- what has no form has no owner
no_owner : (form : BlockForm) (owner : ℕ) → form_in form ≡ None → owner_in form owner ≡ 0
no_owner ProgramBlock owner e = refl
no_owner (RoutineBlock f) owner e = absurd (grind (arith, e))
no_owner (StatementBlock f) owner e = refl

abbrev IsOwned : RoutineRow → Type 0
IsOwned x = x.form ≡ None → x.owner ≡ 0

all_owned : (P : Table) (rs : List ListedRoutine) → AllByRecursion (OfRoutines P IsOwned) rs
all_owned P [] = tt
all_owned P (r ∷ rs) = ((λ e. no_owner (head_form r.head) r.owner e), all_owned P rs)

pub resolved_order : ResolvedOrder
resolved_order x m c typed =
    let entered : AllByRecursion (IsEnteredListed (program_of x)) (core_routines x) = entered_listed x m c in
    record {
      main = (c.program.row, c.program.found, c.program.form, routine_found (program_of x) IsOwned 1 c.program.row (all_owned (program_of x) (core_routines x)) c.program.found c.program.form);
      entries = λ n r found. (routine_found (program_of x) (IsEntered (program_of x)) n r entered found).1;
      no_zero = typed.no_zero;
      bare = λ n r found. ap (row_of (program_of x)) (sym (row_named (program_of x) n r found)) ∙ (routine_found (program_of x) (IsEntered (program_of x)) n r entered found).0;
      forms = typed.forms;
      ways = λ n row found.
          (let led : IsLedRow (program_of x) row = statement_found (program_of x) (IsLedRow (program_of x)) n row (routine_led (program_of x) x c.whole c.blocks_found) found in
          record { inner = led.1; labelled = λ l w. c.labels n row l found w; behind = led.0 });
    }
