-- Each step keeps a state in order.
use Rattle.std.proofs.Common.{◌≡◌, ℕ, zero, suc, ◌+◌, ◌≤◌, Bool, true, false, nat_le, List, [], ◌∷◌, length, Option, Some, None, refl, sym, ap, ◌∙◌, subst, arith, inl, inr}
use Rattle.std.specs.Prelude.{◌⊎◌, ℤ, pos, int_le, if◌then◌else◌, take, drop}
use Rattle.std.proofs.lemmas.Bool.Decides.{nat_tests}
use Rattle.core_tree.specs.declared.op.Op.{Op}
use Rattle.core_tree.specs.declared.op.Op.TheVariants as op
use Rattle.core_tree.specs.declared.op.Callee.{Callee}
use Rattle.core_tree.specs.Plain.{Expr, Operation, Exprs, part_at}
use Rattle.plain_pascal.specs.Program.{Kind, WordKind, PlaceKind, Program, RoutineRow, held_by, row_of, routine_of}
use Rattle.plain_pascal.specs.State.{Status, NotStarted, Halted, Ended, Failed, Place, Value, Word, Members, At, NoValue, Node, OfStatement, OfExpr, PendingFrame, Activation, Data, Control}
use Rattle.plain_pascal.specs.Integers.{Result, Gives, Fails, within, word_of}
use Rattle.plain_pascal.specs.Operations.{value_of, part, first_place, second_number, second_word}
use Rattle.plain_pascal.specs.Step.{going, refused, held_in, at_gate, called, completed, delivered, effected, evaluated, frame_of, frame_words, gate_passed, given, newest_words, parent_of, parts_of, returned, returned_frames, returned_in, small_step, stack_charge, stack_charges, stack_room, stepped}
use Rattle.plain_pascal.specs.Valid.{AreOf, IsWord, LiesIn, AtStatement, IsActivation, AllWait, NewestStands, IsData, IsWellFormed, IsProgram}
use Rattle.plain_pascal.specs.Laws.{StepsKeep, AssignmentsKeep}
use Rattle.plain_pascal.proofs.Evaluates.{IsPlain}
use Rattle.plain_pascal.proofs.Keeps.{part_stands, value_stands, effect_stands, effect_typed}
use Rattle.plain_pascal.proofs.Inputs.{LeavesBytes, integer_bytes, character_bytes}
use Rattle.plain_pascal.proofs.Sound.{GivesOf, ranged_sound}
use Rattle.plain_pascal.proofs.Places.{shorter_lies}
use Rattle.plain_pascal.proofs.Stays.{gate_stands, stands_alike}
use Rattle.plain_pascal.proofs.Stores.{IsAfter, assigned_after, word_after}
use Rattle.plain_pascal.specs.Statements.{Does, Errs, assigned, effect_of, read_into, text_of, wrote, write_in}
use Rattle.plain_pascal.specs.Memory.{with_word}
use Rattle.plain_pascal.specs.Reading.{Reading, Read, Unread, integer_read, character_read}
use Rattle.plain_pascal.specs.Typed.{IsEffect}
use Rattle.core_tree.specs.declared.op.EffectOp.{EffectOp}
use Rattle.core_tree.specs.declared.op.EffectOp.TheVariants as effect
use Rattle.core_tree.specs.declared.op.Written.{Written}
use Rattle.plain_pascal.proofs.CallKeeps.{call_stands}
use Rattle.plain_pascal.proofs.Holds.{hold_well}
use Rattle.plain_pascal.proofs.Leaves.{statement_well}
use Rattle.plain_pascal.proofs.Moves.{return_stands}

abbrev no_values : List Value
no_values = []

abbrev no_frames : List PendingFrame
no_frames = []

no_holds : (k : ℕ) → take k no_values ≡ []
no_holds zero = refl
no_holds (suc k) = refl

module _ (P : Program) (program : IsProgram P) (d : Data) (good : IsData d) where
  well : (n : ℕ) (fs : List PendingFrame) (cs : List Control) (acts : List Activation) → d.activations ≡ acts → NewestStands P acts (record { statement = n; frames = fs } ∷ cs) acts → IsWellFormed P (going n fs cs d)
  well n fs cs acts same h = record { data_good = good; stands = subst (λ ys. NewestStands P ys (record { statement = n; frames = fs } ∷ cs) ys) (sym same) h }

  module _ (a : Activation) (xs : List Activation) (same : d.activations ≡ a ∷ xs) (n : ℕ) (cs : List Control) where
    abbrev Stand : List PendingFrame → Type 0
    Stand fs = NewestStands P (a ∷ xs) (record { statement = n; frames = fs } ∷ cs) (a ∷ xs)

    -- an operation without a call
    value_well : (o : Op) (ps : Exprs) (kept : List Value) (fs : List PendingFrame) → IsPlain o → part_at ps (length kept) ≡ None → Stand (record { node = OfExpr (Operation o ps); kept = kept } ∷ fs)
        → IsWellFormed P (delivered (value_of o kept d) n fs cs d)
    value_well o ps kept fs plain full h = by (value_of o kept d) refl
      where
        by : (r : Result) → value_of o kept d ≡ r → IsWellFormed P (delivered r n fs cs d)
        by (Gives v) e = well n (given v fs) cs (a ∷ xs) same (value_stands P program n cs d good a xs same o ps kept fs v plain full e h)
        by (Fails x) e = record { data_good = good; stands = tt }

    -- a call
    call_well : (c : Callee) (ps : Exprs) (kept : List Value) (fs : List PendingFrame) → part_at ps (length kept) ≡ None → Stand (record { node = OfExpr (Operation (op.Call c) ps); kept = kept } ∷ fs)
        → IsWellFormed P (called P c (routine_of P c.routine.0) kept n (record { node = OfExpr (Operation (op.Call c) ps); kept = kept } ∷ fs) cs d)
    call_well c ps kept fs full h = by (routine_of P c.routine.0) refl
      where
        f : PendingFrame
        f = record { node = OfExpr (Operation (op.Call c) ps); kept = kept }

        T : RoutineRow → List Value → List Activation → Type 0
        T r hs ys = NewestStands P (record { routine = r.name; static_link = parent_of c.scope ys; words = frame_words d r.form kept; holds = hs } ∷ ys)
            (record { statement = r.entry; frames = [] } ∷ (record { statement = n; frames = f ∷ fs } ∷ cs))
            (record { routine = r.name; static_link = parent_of c.scope ys; words = frame_words d r.form kept; holds = hs } ∷ ys)

        entering : (r : RoutineRow) → routine_of P c.routine.0 ≡ Some r → (b : Bool) → nat_le (stack_charges d.activations + stack_charge (frame_words d r.form kept)) stack_room ≡ b
            → IsWellFormed P (if b then at_gate P r.entry (record { statement = n; frames = f ∷ fs } ∷ cs) (record d { activations = record { routine = r.name; static_link = parent_of c.scope d.activations; words = frame_words d r.form kept; holds = [] } ∷ d.activations }) else refused n (f ∷ fs) cs d)
        entering r found false e = record { data_good = good; stands = tt }
        entering r found true e =
            let room : stack_charges d.activations + stack_charge (frame_words d r.form kept) ≤ stack_room = grind (arith, nat_tests, e) in
            record {
              data_good = record { globals_long = good.globals_long; globals_words = good.globals_words; heap_long = good.heap_long; heap_words = good.heap_words; used = good.used; cells = good.cells; stack = omega (arith, room); input = good.input };
              stands = subst (T r (take (held_in (row_of P r.entry)) no_values)) (sym same) (call_stands P program n cs d good a xs same c ps kept fs full r found (take (held_in (row_of P r.entry)) no_values) (no_holds (held_in (row_of P r.entry))) h);
            }

        by : (x : Option RoutineRow) → routine_of P c.routine.0 ≡ x → IsWellFormed P (called P c x kept n (f ∷ fs) cs d)
        by None e = well n (f ∷ fs) cs (a ∷ xs) same h
        by (Some r) e = entering r e (nat_le (stack_charges d.activations + stack_charge (frame_words d r.form kept)) stack_room) refl

    -- what is written changes the output alone
    wrote_data : (text : List ℕ) → IsData (wrote text d)
    wrote_data text = record { globals_long = good.globals_long; globals_words = good.globals_words; heap_long = good.heap_long; heap_words = good.heap_words; used = good.used; cells = good.cells; stack = good.stack; input = good.input }

    abbrev Stood : List PendingFrame → Type 0
    Stood fs = NewestStands P d.activations (record { statement = n; frames = fs } ∷ cs) d.activations

    wrote_well : (text : List ℕ) (fs : List PendingFrame) → Stood (given NoValue fs) → IsWellFormed P (effected (Does (wrote text d)) n fs cs)
    wrote_well text fs h = record { data_good = wrote_data text; stands = h }

    write_well : (wide : Bool) (what : Written) (kept : List Value) (fs : List PendingFrame) → Stood (given NoValue fs) → IsWellFormed P (effected (write_in wide what kept d) n fs cs)
    write_well false what kept fs h = wrote_well _ fs h
    write_well true what kept fs h = by (within (pos 1) (pos 255) (second_number kept))
      where
        by : (b : Bool) → IsWellFormed P (effected (if b then Does (wrote (text_of what (part kept 0) (second_word kept) d) d) else Errs 11 d) n fs cs)
        by true = wrote_well (text_of what (part kept 0) (second_word kept) d) fs h
        by false = record { data_good = good; stands = tt }

    read_well : (first last : ℤ) (p : Place) (whole : ℕ) (fs : List PendingFrame) → LiesIn d.activations (length xs) p whole → 1 ≤ whole → int_le last (pos 32767) ≡ true → Stood (given NoValue fs)
        → (r : Reading) → LeavesBytes r → IsWellFormed P (effected (read_into first last p r d) n fs cs)
    read_well first last p whole fs lies some le h (Unread e) bytes = record { data_good = good; stands = tt }
    read_well first last p whole fs lies some le h (Read z rest) bytes = by (within first last z) refl
      where
        taken : Data
        taken = record d { input = rest }

        taken_data : IsData (record d { input = rest })
        taken_data = record { globals_long = good.globals_long; globals_words = good.globals_words; heap_long = good.heap_long; heap_words = good.heap_words; used = good.used; cells = good.cells; stack = good.stack; input = bytes }

        by : (b : Bool) → within first last z ≡ b → IsWellFormed P (effected (if b then Does (with_word (record d { input = rest }) p (word_of z)) else Errs 1 (record d { input = rest })) n fs cs)
        by false e = record { data_good = taken_data; stands = tt }
        by true e =
            let small : IsWord (word_of z) = subst (λ b. GivesOf d.activations (length xs) WordKind (if b then Gives (Word (word_of z)) else Fails 1)) e (ranged_sound d.activations (length xs) 1 first last z le) in
            let after : IsAfter (record d { input = rest }) (with_word (record d { input = rest }) p (word_of z)) = word_after (record d { input = rest }) (length xs) p (word_of z) taken_data (shorter_lies d.activations (length xs) p 1 whole lies some) small in
            record {
              data_good = after.good;
              stands = stands_alike P d.activations (with_word (record d { input = rest }) p (word_of z)).activations after.alike (record { statement = n; frames = given NoValue fs } ∷ cs) d.activations (with_word (record d { input = rest }) p (word_of z)).activations after.alike h;
            }

    first_lies : (whole : ℕ) (kept : List Value) → AreOf (a ∷ xs) (length xs) (PlaceKind whole ∷ []) kept → LiesIn d.activations (length xs) (first_place kept) whole
    first_lies whole [] h = absurd h
    first_lies whole (At p ∷ vs) h = subst (λ ys. LiesIn ys (length xs) p whole) (sym same) h.0
    first_lies whole (Word w ∷ vs) h = absurd h.0
    first_lies whole (Members ws ∷ vs) h = absurd h.0
    first_lies whole (NoValue ∷ vs) h = absurd h.0

    effect_by : (e : EffectOp) (ps : Exprs) (kept : List Value) (fs : List PendingFrame) (done : List Kind) → part_at ps (length kept) ≡ None → Stand (record { node = OfExpr (Operation (op.Effect e) ps); kept = kept } ∷ fs)
        → IsEffect e done → AreOf (a ∷ xs) (length xs) done kept → (held_by (op.Effect e) ≡ [] → Stood (given NoValue fs)) → IsWellFormed P (effected (effect_of e kept d) n fs cs)
    effect_by (effect.Hold number words) ps kept fs done full h t ho next = hold_well P program d good a xs same n cs number words ps kept fs full h
    effect_by (effect.Write what wide) ps kept fs done full h t ho next = write_well wide what kept fs (next refl)
    effect_by (effect.ReadInteger first last) ps kept fs (PlaceKind whole ∷ []) full h t ho next = read_well first last (first_place kept) whole fs (first_lies whole kept ho) t.0 t.1 (next refl) (integer_read d.input) (integer_bytes d.input good.input)
    effect_by (effect.ReadInteger first last) ps kept fs done full h t ho next = absurd t
    effect_by (effect.ReadChar first last) ps kept fs (PlaceKind whole ∷ []) full h t ho next = read_well first last (first_place kept) whole fs (first_lies whole kept ho) t.0 t.1 (next refl) (character_read d.input) (character_bytes d.input good.input)
    effect_by (effect.ReadChar first last) ps kept fs done full h t ho next = absurd t

    effect_well : (e : EffectOp) (ps : Exprs) (kept : List Value) (fs : List PendingFrame) → part_at ps (length kept) ≡ None → Stand (record { node = OfExpr (Operation (op.Effect e) ps); kept = kept } ∷ fs)
        → IsWellFormed P (effected (effect_of e kept d) n fs cs)
    effect_well e ps kept fs full h =
        let (done, t, ho) = effect_typed P program n cs d good a xs same e ps kept fs full h in
        effect_by e ps kept fs done full h t ho (λ none. subst (λ ys. NewestStands P ys (record { statement = n; frames = given NoValue fs } ∷ cs) ys) (sym same) (effect_stands P program n cs d good a xs same e ps kept fs full none h))

    operation_well : (x : Node) (kept : List Value) (fs : List PendingFrame) → part_at (parts_of x) (length kept) ≡ None → Stand (record { node = x; kept = kept } ∷ fs)
        → IsWellFormed P (completed P x (record { node = x; kept = kept }) n fs cs d)
    operation_well (OfStatement f) kept fs full h = statement_well P program d good a xs same n cs f kept fs full h
    operation_well (OfExpr (Operation (op.Effect e) ps)) kept fs full h = effect_well e ps kept fs full h
    operation_well (OfExpr (Operation (op.Call c) ps)) kept fs full h = call_well c ps kept fs full h
    operation_well (OfExpr (Operation (op.Place p) ps)) kept fs full h = value_well (op.Place p) ps kept fs tt full h
    operation_well (OfExpr (Operation (op.Word w) ps)) kept fs full h = value_well (op.Word w) ps kept fs tt full h
    operation_well (OfExpr (Operation (op.Set s) ps)) kept fs full h = value_well (op.Set s) ps kept fs tt full h
    operation_well (OfExpr (Operation (op.Literal t) ps)) kept fs full h = value_well (op.Literal t) ps kept fs tt full h
    operation_well (OfExpr (Operation op.Structure ps)) kept fs full h = value_well op.Structure ps kept fs tt full h
    operation_well (OfExpr (Operation (op.Argument to) ps)) kept fs full h = value_well (op.Argument to) ps kept fs tt full h
    operation_well (OfExpr (Operation op.ActualVariable ps)) kept fs full h = value_well op.ActualVariable ps kept fs tt full h

    frame_well : (f : PendingFrame) (fs : List PendingFrame) → Stand (f ∷ fs) → IsWellFormed P (stepped P n (f ∷ fs) cs d)
    frame_well f fs h = by (part_at (parts_of f.node) (length f.kept)) refl
      where
        by : (x : Option Expr) → part_at (parts_of f.node) (length f.kept) ≡ x → IsWellFormed P (evaluated P x f n fs cs d)
        by (Some e) found = well n (frame_of (OfExpr e) ∷ (f ∷ fs)) cs (a ∷ xs) same (part_stands P program n cs d good a xs same f fs e found h)
        by None found = operation_well f.node f.kept fs found h

  -- ---- gates

  -- a routine is left
  handed : (a : Activation) (ys : List Activation) (m : ℕ) (x : Node) (kept : List Value) (fs : List PendingFrame) (older : List Control) → IsActivation P (a ∷ ys) a ys
      → AllWait P (a ∷ ys) a.routine (record { statement = m; frames = record { node = x; kept = kept } ∷ fs } ∷ older) ys → NewestStands P ys (record { statement = m; frames = returned_in x a.words fs } ∷ older) ys
  handed a [] m x kept fs older is w = absurd w
  handed a (b ∷ ys) m (OfExpr (Operation (op.Call c) ps)) kept fs older is w = return_stands P a b ys m older c ps kept fs is w
  handed a (b ∷ ys) m x kept fs older is w = absurd w.2

  handed_on : (a : Activation) (ys : List Activation) (m : ℕ) (fs : List PendingFrame) (older : List Control) → IsActivation P (a ∷ ys) a ys
      → AllWait P (a ∷ ys) a.routine (record { statement = m; frames = fs } ∷ older) ys → NewestStands P ys (record { statement = m; frames = returned_frames a.words fs } ∷ older) ys
  handed_on a [] m fs older is w = absurd w
  handed_on a (b ∷ ys) m [] older is w = absurd w.2
  handed_on a (b ∷ ys) m (f ∷ fs) older is w = handed a (b ∷ ys) m f.node f.kept fs older is w

  module _ (a : Activation) (xs : List Activation) (same : d.activations ≡ a ∷ xs) where
    left_data : IsData (record d { activations = drop 1 d.activations })
    left_data =
        let all : stack_charges d.activations ≡ stack_charge a.words + stack_charges xs = ap stack_charges same in
        let rest : stack_charges (drop 1 d.activations) ≡ stack_charges xs = ap (λ ys. stack_charges (drop 1 ys)) same in
        record { globals_long = good.globals_long; globals_words = good.globals_words; heap_long = good.heap_long; heap_words = good.heap_words; used = good.used; cells = good.cells; stack = omega (arith, all, rest, good.stack); input = good.input }

    returned_well : (n : ℕ) (cs : List Control) → NewestStands P (a ∷ xs) (record { statement = n; frames = no_frames } ∷ cs) (a ∷ xs) → IsWellFormed P (returned n cs d)
    returned_well n [] h = well n [] [] (a ∷ xs) same h
    returned_well n (c ∷ older) h = record { data_good = left_data; stands = subst T (sym same) (handed_on a xs c.statement c.frames older h.0 h.2) }
      where
        T : List Activation → Type 0
        T ys = NewestStands P (drop 1 ys) (record { statement = c.statement; frames = returned_frames (newest_words ys) c.frames } ∷ older) (drop 1 ys)

    gate_well : (n : ℕ) (cs : List Control) → NewestStands P (a ∷ xs) (record { statement = n; frames = no_frames } ∷ cs) (a ∷ xs) → IsWellFormed P (stepped P n [] cs d)
    gate_well n cs h = by h.1
      where
        by : AtStatement P (a ∷ xs) (length xs) a (record { statement = n; frames = no_frames }) ⊎ ((n ≡ a.routine) × (no_frames ≡ []) × (a.holds ≡ [])) → IsWellFormed P (gate_passed (row_of P n) n cs d)
        by (inl at) =
            subst (λ r. IsWellFormed P (gate_passed r n cs d)) (sym at.found)
            (well n (frame_of (OfStatement at.row.form) ∷ []) cs (a ∷ xs) same (gate_stands P program n at.row cs (a ∷ xs) a xs at.found at h.0 h.2))
        by (inr e) =
            let bare : row_of P n ≡ None = ap (row_of P) e.0 ∙ program.bare a.routine h.0.row h.0.found in
            subst (λ r. IsWellFormed P (gate_passed r n cs d)) (sym bare) (returned_well n cs h)

  -- ---- one step

  step_well : (n : ℕ) (fs : List PendingFrame) (cs : List Control) (acts : List Activation) → d.activations ≡ acts → NewestStands P acts (record { statement = n; frames = fs } ∷ cs) acts → IsWellFormed P (stepped P n fs cs d)
  step_well n fs cs [] same h = absurd h
  step_well n [] cs (a ∷ xs) same h = gate_well a xs same n cs h
  step_well n (f ∷ fs) cs (a ∷ xs) same h = frame_well a xs same n cs f fs h

step_by : (P : Program) → IsProgram P → (st : Status) (control : List Control) (d : Data) → IsWellFormed P (record { status = st; control = control; data_now = d })
    → IsWellFormed P (small_step P (record { status = st; control = control; data_now = d }))
step_by P program Halted [] d w = w
step_by P program Halted (c ∷ cs) d w = step_well P program d w.data_good c.statement c.frames cs d.activations refl w.stands
step_by P program NotStarted control d w = w
step_by P program Ended control d w = w
step_by P program (Failed x n) control d w = w

pub steps_keep : StepsKeep
steps_keep P program s w = step_by P program s.status s.control s.data_now w

pub assignments_keep : AssignmentsKeep
assignments_keep P to whole newest d p v cs good le h is stands =
    let after : IsAfter d (assigned to p v d) = assigned_after to whole d newest p v good le h is in
    (after.good, stands_alike P d.activations (assigned to p v d).activations after.alike cs d.activations (assigned to p v d).activations after.alike stands)
