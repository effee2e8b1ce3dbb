-- A statement that has all its parts leaves a state in order.
use Rattle.std.proofs.Common.{◌≡◌, ℕ, suc, ◌+◌, ◌-◌, ◌≤◌, Bool, true, false, List, [], ◌∷◌, ◌++◌, length, Option, Some, None, refl, sym, ap, ◌∙◌, subst, arith}
use Rattle.std.specs.Prelude.{not, ◌==◌, ◌&&◌, find, if◌then◌else◌, slice_index, take}
use Rattle.core_tree.specs.declared.op.Storage.{Storage}
use Rattle.core_tree.specs.declared.form.CaseLabel.{CaseLabel}
use Rattle.core_tree.specs.declared.form.ForLoop.{ForLoop}
use Rattle.core_tree.specs.declared.form.StatementOp.{StatementOp}
use Rattle.core_tree.specs.declared.form.StatementOp.TheVariants as stmt
use Rattle.core_tree.specs.Plain.{Operation, Exprs, Form, part_at}
use Rattle.plain_pascal.specs.Program.{Kind, WordKind, PlaceKind, Row, Program, held_inside, row_of, routine_of}
use Rattle.plain_pascal.specs.State.{Value, Word, Members, At, NoValue, OfStatement, OfExpr, PendingFrame, Activation, Data, Control}
use Rattle.plain_pascal.specs.Memory.{variable_place, with_word}
use Rattle.plain_pascal.specs.Integers.{Result, Gives, Fails, within, word_of, is_true}
use Rattle.plain_pascal.specs.Reading.{Reading, Read, Unread, line_read}
use Rattle.plain_pascal.specs.Operations.{checked, part, first_number, first_place, first_word, second_number, second_word}
use Rattle.plain_pascal.specs.Statements.{Way, Behind, Inside, ToLabel, Exit, Leaves, Breaks, arm_of, assigned, begun, branch, ended_line, exit_of, held, held_in, is_past, line_behind, other_branch, went_on, with_checked, wrote}
use Rattle.plain_pascal.specs.Step.{left, stack_charges, statement_done, label_gate, labels_in}
use Rattle.plain_pascal.specs.Typed.{IsStatement, IsStored, stored_kind, stored_words}
use Rattle.plain_pascal.specs.Valid.{IsOf, AreOf, LiesIn, AllWait, AtStatement, InProgress, IsActivation, IsData, IsProgram, IsWellFormed, NewestStands, held_by_first, kinds_held}
use Rattle.plain_pascal.proofs.Cells.{IsLeft, dispose_after, new_after}
use Rattle.plain_pascal.proofs.Ends.{ExitFits, exit_fits}
use Rattle.plain_pascal.proofs.Evaluates.{checked_sound}
use Rattle.plain_pascal.proofs.Gates.{Holding, first_held, gate_reached, goes_on, activation_held, waits_held, values_held, holding_alike, holding_scoped, loop_variable, part_word, value_small}
use Rattle.plain_pascal.proofs.Joined.{joined_kinds, no_more_kinds}
use Rattle.plain_pascal.proofs.Held.{all_held}
use Rattle.plain_pascal.proofs.Inputs.{LeavesBytes, line_bytes}
use Rattle.plain_pascal.proofs.Keeps.{at_work, progress_at, sees_at, some_statement_part}
use Rattle.plain_pascal.proofs.Kept.{as_many}
use Rattle.plain_pascal.proofs.Places.{shorter_lies, variable_lies}
use Rattle.plain_pascal.proofs.Sound.{GivesOf}
use Rattle.plain_pascal.proofs.Stores.{IsAfter, assigned_after, nothing_after, word_after}
use Rattle.plain_pascal.proofs.Values.{Sees}

-- ---- statements that hold nothing

branch_left : (d : Data) (good : IsData d) (b : Bool) (n : ℕ) (other : Way) → IsLeft d (branch b n other d)
branch_left d good true n other = nothing_after d good
branch_left d good false n other = nothing_after d good

arm_left : (d : Data) (good : IsData d) (x : Option CaseLabel) → IsLeft d (arm_of x d)
arm_left d good None = tt
arm_left d good (Some l) = nothing_after d good

written_after : (d : Data) (good : IsData d) (text : List ℕ) → IsAfter d (wrote text d)
written_after d good text = record {
  good = record { globals_long = good.globals_long; globals_words = good.globals_words; heap_long = good.heap_long; heap_words = good.heap_words; used = good.used; cells = good.cells; stack = good.stack; input = good.input };
  alike = (nothing_after d good).alike;
}

line_left : (d : Data) (good : IsData d) (line : Bool) → IsAfter d (ended_line line d)
line_left d good true = written_after d good (10 ∷ [])
line_left d good false = nothing_after d good

behind_left : (d : Data) (good : IsData d) (r : Reading) → LeavesBytes r → IsLeft d (line_behind r d)
behind_left d good (Unread e) h = tt
behind_left d good (Read z rest) h = record {
  good = record { globals_long = good.globals_long; globals_words = good.globals_words; heap_long = good.heap_long; heap_words = good.heap_words; used = good.used; cells = good.cells; stack = good.stack; input = h };
  alike = (nothing_after d good).alike;
}

went_left : (d : Data) (good : IsData d) (line : Bool) → IsLeft d (went_on line d)
went_left d good true = behind_left d good (line_read d.input) (line_bytes d.input good.input)
went_left d good false = nothing_after d good

first_lies : (acts : List Activation) (newest whole : ℕ) (ks : List Kind) (kept : List Value) → AreOf acts newest (PlaceKind whole ∷ ks) kept → LiesIn acts newest (first_place kept) whole
first_lies acts newest whole ks [] h = absurd h
first_lies acts newest whole ks (At p ∷ vs) h = h.0
first_lies acts newest whole ks (Word w ∷ vs) h = absurd h.0
first_lies acts newest whole ks (Members ws ∷ vs) h = absurd h.0
first_lies acts newest whole ks (NoValue ∷ vs) h = absurd h.0

assign_left : (P : Program) (d : Data) (newest : ℕ) (row : Row) (sees : Sees P d newest row) (to : Storage) (whole : ℕ) (k : Kind) (kept : List Value) → stored_words to ≤ whole → IsStored to k → AreOf d.activations newest (PlaceKind whole ∷ (k ∷ [])) kept
    → IsLeft d (with_checked (checked to (part kept 1)) (λ v. assigned to (first_place kept) v d))
assign_left P d newest row sees to whole k [] le is h = absurd h
assign_left P d newest row sees to whole k (x ∷ vs) le is h =
    by (checked to (part vs 0)) (checked_sound P d newest row sees to k vs is h.1)
  where
    by : (r : Result) → GivesOf d.activations newest (stored_kind to) r → IsLeft d (with_checked r (λ v. assigned to (first_place (x ∷ vs)) v d))
    by (Gives v) g = assigned_after to whole d newest (first_place (x ∷ vs)) v sees.data_good le (first_lies d.activations newest whole (k ∷ []) (x ∷ vs) h) g
    by (Fails e) g = tt

abbrev IsSimple : StatementOp → Type 0
IsSimple (stmt.For loop) = ⊥
IsSimple stmt.With = ⊥
IsSimple o = Unit {0}

simple_left : (P : Program) (d : Data) (newest : ℕ) (row : Row) (sees : Sees P d newest row) (o : StatementOp) (holds : ℕ) (ks : List Kind) (kept : List Value) → IsSimple o → IsStatement P row.routine o ks → AreOf d.activations newest ks kept
    → IsLeft d (exit_of o holds kept d)
simple_left P d newest row sees stmt.Empty holds ks kept i t h = nothing_after d sees.data_good
simple_left P d newest row sees (stmt.Goto label) holds ks kept i t h = nothing_after d sees.data_good
simple_left P d newest row sees stmt.Call holds ks kept i t h = nothing_after d sees.data_good
simple_left P d newest row sees (stmt.If has_else) holds ks kept i t h = branch_left d sees.data_good (is_true (first_word kept)) 0 (other_branch has_else)
simple_left P d newest row sees (stmt.Case labels) holds ks kept i t h = arm_left d sees.data_good (find (λ l. word_of l.value == first_word kept) labels)
simple_left P d newest row sees stmt.While holds ks kept i t h = branch_left d sees.data_good (is_true (first_word kept)) 0 Behind
simple_left P d newest row sees stmt.Repeat holds ks kept i t h = branch_left d sees.data_good (not (is_true (first_word kept))) 0 Behind
simple_left P d newest row sees (stmt.Read line) holds ks kept i t h = went_left d sees.data_good line
simple_left P d newest row sees (stmt.Write line) holds ks kept i t h = line_left d sees.data_good line
simple_left P d newest row sees (stmt.Dispose words) holds ks kept i t h = dispose_after d (first_word kept) words sees.data_good
simple_left P d newest row sees (stmt.New words) holds (PlaceKind whole ∷ []) kept i t h =
    new_after d newest (first_place kept) sees.data_good (shorter_lies d.activations newest (first_place kept) 1 whole (first_lies d.activations newest whole [] kept h) t) words
simple_left P d newest row sees (stmt.New words) holds ks kept i t h = absurd t
simple_left P d newest row sees (stmt.Assign to) holds (PlaceKind whole ∷ (k ∷ [])) kept i t h = assign_left P d newest row sees to whole k kept t.0 t.1 h
simple_left P d newest row sees (stmt.Assign to) holds ks kept i t h = absurd t
simple_left P d newest row sees (stmt.For loop) holds ks kept i t h = absurd i
simple_left P d newest row sees stmt.With holds ks kept i t h = absurd i

-- ---- one more hold

-- the newest activation is one of this routine, and holds these alone
abbrev pub HoldingJust : Program → ℕ → List Kind → List Control → List Activation → Type 0
HoldingJust P r ks cs [] = ⊥
HoldingJust P r ks cs (a ∷ xs) = (a.routine ≡ r) × IsActivation P (a ∷ xs) a xs × AllWait P (a ∷ xs) a.routine cs xs × AreOf (a ∷ xs) (length xs) ks a.holds

pub just_these : (P : Program) (r : ℕ) (ks : List Kind) (cs : List Control) (acts : List Activation) → HoldingJust P r ks cs acts → Holding P r ks cs acts
just_these P r ks cs [] h = absurd h
just_these P r ks cs (a ∷ xs) h = (h.0, h.1, h.2, ([], subst (λ js. AreOf (a ∷ xs) (length xs) js a.holds) (sym (no_more_kinds ks)) h.3))

pub one_held : (P : Program) (r : ℕ) (cs : List Control) (ks : List Kind) (k : Kind) (v : Value) (outer : ℕ) (acts : List Activation) → outer ≡ length ks → Holding P r ks cs acts
    → ((newest : ℕ) → suc newest ≡ length acts → IsOf acts newest k v) → HoldingJust P r (ks ++ k ∷ []) cs (held_in acts outer v)
one_held P r cs ks k v outer [] long h is = absurd h
one_held P r cs ks k v outer (a ∷ xs) long h is =
    let first : AreOf (a ∷ xs) (length xs) ks (take outer a.holds) = subst (λ n. AreOf (a ∷ xs) (length xs) ks (take n a.holds)) (sym long) (first_held (a ∷ xs) (length xs) ks h.3.0 a.holds h.3.1) in
    let all : AreOf (a ∷ xs) (length xs) (ks ++ k ∷ []) (take outer a.holds ++ v ∷ []) = joined_one (a ∷ xs) (length xs) ks (take outer a.holds) k v first (is (length xs) refl) in (
      h.0,
      activation_held a xs (take outer a.holds ++ v ∷ []) P h.1,
      waits_held a xs (take outer a.holds ++ v ∷ []) P a.routine cs h.2,
      values_held a xs (take outer a.holds ++ v ∷ []) P (ks ++ k ∷ []) (take outer a.holds ++ v ∷ []) all,
    )
  where
    joined_one : (acts : List Activation) (newest : ℕ) (ks : List Kind) (vs : List Value) (k : Kind) (v : Value) → AreOf acts newest ks vs → IsOf acts newest k v → AreOf acts newest (ks ++ k ∷ []) (vs ++ v ∷ [])
    joined_one acts newest [] [] k v h e = (e, tt)
    joined_one acts newest [] (x ∷ vs) k v h e = absurd h
    joined_one acts newest (j ∷ ks) [] k v h e = absurd h
    joined_one acts newest (j ∷ ks) (x ∷ vs) k v h e = (h.0, joined_one acts newest ks vs k v h.1 e)

charges_held : (acts : List Activation) (outer : ℕ) (v : Value) → stack_charges (held_in acts outer v) ≡ stack_charges acts
charges_held [] outer v = refl
charges_held (a ∷ xs) outer v = refl

pub held_data : (number : ℕ) (v : Value) (d : Data) → IsData d → IsData (held number v d)
held_data number v d good = record {
  globals_long = good.globals_long;
  globals_words = good.globals_words;
  heap_long = good.heap_long;
  heap_words = good.heap_words;
  used = good.used;
  cells = good.cells;
  stack = let same : stack_charges (held_in d.activations (number - 1) v) ≡ stack_charges d.activations = charges_held d.activations (number - 1) v in omega (arith, same, good.stack);
  input = good.input;
}

-- ---- what is held where a statement is left for

abbrev kinds_left : List Kind → StatementOp → Exprs → Way → List Kind
kinds_left around o ps (Inside k) = around ++ held_inside o ps
kinds_left around o ps to = around

module _ (P : Program) (program : IsProgram P) (cs : List Control) (r : ℕ) (around : List Kind) where
  abbrev IsExit : StatementOp → Exprs → Exit → Type 0
  IsExit o ps (Leaves to e) = IsData e × Holding P r (kinds_left around o ps to) cs e.activations
  IsExit o ps (Breaks x) = Unit {0}

  simple_exit : (o : StatementOp) (ps : Exprs) → IsSimple o → (d : Data) (x : Exit) → IsLeft d x → Holding P r around cs d.activations → IsExit o ps x
  simple_exit o ps i d (Breaks e) l h = tt
  simple_exit o ps i d (Leaves Behind e) l h = (l.good, holding_alike P r around cs d.activations e.activations l.alike h)
  simple_exit o ps i d (Leaves (ToLabel n) e) l h = (l.good, holding_alike P r around cs d.activations e.activations l.alike h)
  simple_exit o ps i d (Leaves (Inside k) e) l h =
      (l.good, subst (λ ks. Holding P r ks cs e.activations) (sym (no_more_kinds around) ∙ ap (λ ks. around ++ ks) (sym (nothing o i))) (holding_alike P r around cs d.activations e.activations l.alike h))
    where
      nothing : (o : StatementOp) → IsSimple o → held_inside o ps ≡ []
      nothing (stmt.For loop) i = absurd i
      nothing stmt.With i = absurd i
      nothing o i = refl

  for_exit : (loop : ForLoop) (ps : Exprs) (holds : ℕ) (ks : List Kind) (kept : List Value) (d : Data) (newest : ℕ) → IsData d → holds ≡ length around → IsStatement P r (stmt.For loop) ks → AreOf d.activations newest ks kept
      → Holding P r around cs d.activations → IsExit (stmt.For loop) ps (begun loop (holds + 1) (first_number kept) (second_number kept) d)
  for_exit loop ps holds ks kept d newest good count t ho h =
      by (is_past loop (second_number kept) (first_number kept)) (within loop.first loop.last (first_number kept) && within loop.first loop.last (second_number kept))
    where
      after : IsAfter d (with_word d (variable_place d loop.variable) (word_of (first_number kept)))
      after =
          let (number, scoped) = holding_scoped P r around cs program d.activations h in
          word_after d number (variable_place d loop.variable) (word_of (first_number kept)) good
          (variable_lies P d.activations number r scoped loop.variable.scope loop.variable 1 (loop_variable P r loop ks t))
          (value_small (first_word kept) (part_word d.activations newest ks kept 0 ho))

      outer : holds + 1 - 1 ≡ length around
      outer = omega (arith, count)

      by : (past fits : Bool) → IsExit (stmt.For loop) ps (if past then Leaves Behind d else (if fits then Leaves (Inside 0) (held (holds + 1) (Word (word_of (second_number kept))) (with_word d (variable_place d loop.variable) (word_of (first_number kept)))) else Breaks 1))
      by true fits = (good, h)
      by false false = tt
      by false true = (
        held_data (holds + 1) (Word (word_of (second_number kept))) (with_word d (variable_place d loop.variable) (word_of (first_number kept))) after.good,
        just_these P r (around ++ WordKind ∷ []) cs (held_in (with_word d (variable_place d loop.variable) (word_of (first_number kept))).activations (holds + 1 - 1) (Word (word_of (second_number kept))))
            (one_held P r cs around WordKind (Word (word_of (second_number kept))) (holds + 1 - 1) (with_word d (variable_place d loop.variable) (word_of (first_number kept))).activations outer
            (holding_alike P r around cs d.activations (with_word d (variable_place d loop.variable) (word_of (first_number kept))).activations after.alike h)
            (λ number same. value_small (second_word kept) (part_word d.activations newest ks kept 1 ho))),
      )

  with_exit : (ps : Exprs) (k : ℕ) (d : Data) → IsData d → part_at ps k ≡ None → Holding P r (around ++ held_by_first k ps) cs d.activations → IsExit stmt.With ps (Leaves (Inside 0) d)
  with_exit ps k d good full h = (good, subst (λ js. Holding P r (around ++ js) cs d.activations) (all_held ps k full) h)

-- fewer kinds are held as well
fewer_held : (P : Program) (r : ℕ) (cs : List Control) (ks js : List Kind) (acts : List Activation) → Holding P r (ks ++ js) cs acts → Holding P r ks cs acts
fewer_held P r cs ks js [] h = absurd h
fewer_held P r cs ks js (a ∷ xs) h = (h.0, h.1, h.2, (js ++ h.3.0, subst (λ ls. AreOf (a ∷ xs) (length xs) ls a.holds) (joined_kinds ks js h.3.0) h.3.1))

-- ---- the exit of a statement

module _ (P : Program) (program : IsProgram P) (n : ℕ) (cs : List Control) (row : Row) (found : row_of P n ≡ Some row) (d : Data) (good : IsData d) where
  exit_taken : (x : Exit) → ExitFits row.form.op x → IsExit P program cs row.routine row.around row.form.op row.form.parts x → IsWellFormed P (left P n row x cs d)
  exit_taken (Breaks e) fits h = record { data_good = good; stands = tt }
  exit_taken (Leaves Behind e) fits h = goes_on P program row.routine cs row.continuation row.around e h.0 h.1 (program.ways n row found).behind
  exit_taken (Leaves (Inside k) e) fits h =
      gate_reached P program row.routine cs (row.around ++ held_inside row.form.op row.form.parts) (slice_index row.branches k) e h.0 h.1 ((program.ways n row found).inner k fits)
  exit_taken (Leaves (ToLabel l) e) fits h =
      gate_reached P program row.routine cs row.around (label_gate (labels_in (routine_of P row.routine)) l) e h.0 h.1 ((program.ways n row found).labelled l fits)

  exit_of_op : (newest : ℕ) (sees : Sees P d newest row) (o : StatementOp) (ps : Exprs) (holds : ℕ) (kept : List Value) (ks : List Kind) → holds ≡ length row.around → part_at ps (length kept) ≡ None
      → IsStatement P row.routine o ks → AreOf d.activations newest ks kept → Holding P row.routine (row.around ++ held_by_first (length kept) ps) cs d.activations
      → IsExit P program cs row.routine row.around o ps (exit_of o holds kept d)
  exit_of_op newest sees (stmt.For loop) ps holds kept ks count full t ho h =
      for_exit P program cs row.routine row.around loop ps holds ks kept d newest good count t ho (fewer_held P row.routine cs row.around (held_by_first (length kept) ps) d.activations h)
  exit_of_op newest sees stmt.With ps holds kept ks count full t ho h = with_exit P program cs row.routine row.around ps (length kept) d good full h
  exit_of_op newest sees o ps holds kept ks count full t ho h =
      simple_exit P program cs row.routine row.around o ps tt d (exit_of o holds kept d) (simple_left P d newest row sees o holds ks kept tt t ho) (fewer_held P row.routine cs row.around (held_by_first (length kept) ps) d.activations h)

module _ (P : Program) (program : IsProgram P) (d : Data) (good : IsData d) (a : Activation) (xs : List Activation) (same : d.activations ≡ a ∷ xs) (n : ℕ) (cs : List Control) where
  -- a statement with all its parts
  pub statement_well : (f : Form) (kept : List Value) (fs : List PendingFrame) → part_at f.parts (length kept) ≡ None
      → NewestStands P (a ∷ xs) (record { statement = n; frames = record { node = OfStatement f; kept = kept } ∷ fs } ∷ cs) (a ∷ xs) → IsWellFormed P (statement_done P n (row_of P n) f kept cs d)
  statement_well f kept fs full h = by fs (progress_at P program n cs d good a xs same (record { node = OfStatement f; kept = kept }) fs at) at.held
    where
      at : AtStatement P (a ∷ xs) (length xs) a (record { statement = n; frames = record { node = OfStatement f; kept = kept } ∷ fs })
      at = at_work P program n cs d good a xs same (record { node = OfStatement f; kept = kept }) fs h

      by : (gs : List PendingFrame) → InProgress P (a ∷ xs) (length xs) at.row (record { node = OfStatement f; kept = kept } ∷ gs) → AreOf (a ∷ xs) (length xs) (kinds_held at.row (record { node = OfStatement f; kept = kept } ∷ gs)) a.holds
          → IsWellFormed P (statement_done P n (row_of P n) f kept cs d)
      by (g ∷ gs) (rest, fr, inside) held = absurd (let clash : OfStatement f ≡ OfExpr (Operation fr.0 fr.1) = fr.4 in grind (arith, clash))
      by [] (k ∷ ks, fr, inside) held =
          absurd (let (e, found) = some_statement_part P at.row.routine at.row.around fr.1.0 k ks f.parts fr.1.1 in
          let clash : None ≡ Some e = sym full ∙ ap (part_at f.parts) (as_many P (a ∷ xs) (length xs) at.row fr.1.0 kept fr.1.2) ∙ found in grind (arith, clash))
      by [] ([], fr, inside) held =
          let node_same : OfStatement f ≡ OfStatement at.row.form = fr.0 in
          let form_same : f ≡ at.row.form = cc node_same in
          let sees : Sees P d (length xs) at.row = sees_at P program n cs d good a xs same at.row at.inside (held_by_first (length kept) at.row.form.parts) held (record { node = OfStatement f; kept = kept } ∷ fs) h in
          let holding : Holding P at.row.routine (at.row.around ++ held_by_first (length kept) at.row.form.parts) cs (a ∷ xs) =
          (sym at.inside, h.0, h.2, ([], subst (λ js. AreOf (a ∷ xs) (length xs) js a.holds) (sym (no_more_kinds (at.row.around ++ held_by_first (length kept) at.row.form.parts))) held)) in
          subst (λ x. IsWellFormed P (statement_done P n x f kept cs d)) (sym at.found)
          (subst (λ x. IsWellFormed P (left P n at.row (exit_of x.op x.holds kept d) cs d)) (sym form_same)
          (exit_taken P program n cs at.row at.found d good (exit_of at.row.form.op at.row.form.holds kept d) (exit_fits at.row.form.op at.row.form.holds kept d)
          (exit_of_op P program n cs at.row at.found d good (length xs) sees at.row.form.op at.row.form.parts at.row.form.holds kept (fr.1.0 ++ []) (program.forms n at.row at.found).holds
          (subst (λ x. part_at x.parts (length kept) ≡ None) form_same full) fr.1.3
          (subst (λ ys. AreOf ys (length xs) (fr.1.0 ++ []) kept) (sym same) (subst (λ js. AreOf (a ∷ xs) (length xs) js kept) (sym (no_more_kinds fr.1.0)) fr.1.2))
          (subst (λ ys. Holding P at.row.routine (at.row.around ++ held_by_first (length kept) at.row.form.parts) cs ys) (sym same) holding))))
