-- A run on the machine is the run of the plain machine.
use Rattle.std.proofs.Common.{◌≡◌, ℕ, ◌+◌, ◌<◌, ◌≤◌, Bool, true, false, List, [], ◌∷◌, Option, Some, None, refl, sym, ap, ◌∙◌, subst, arith}
use Rattle.std.specs.Prelude.{◌==◌, if◌then◌else◌, find}
use Rattle.pdp11_machine.specs.State.{MachineState}
use Rattle.console_service.specs.Console.{ConsoleState}
use Rattle.console_service.specs.Run.{gate_here}
use Rattle.console_service.specs.Cpu.{Cpu, state_of}
use Rattle.console_service.specs.declared.memory_map.TheConstants.{MEMORY_END_WORD}
use Rattle.target_monitor.specs.declared.gates.Went.{Went}
use Rattle.target_monitor.specs.Go.{instruction_limit, go_result}
use Rattle.simulation.specs.Gates.{told, drive_from, gates_from, gates_passed}
use Rattle.simulation.proofs.Go.{go_runs, go_from_runs}
use Rattle.console_service.specs.Block.{First, Gate, Block}
use Rattle.console_service.specs.Semantics.{At, Hanging}
use Rattle.console_service.specs.Plain.{FormProgram, Now, StretchState, Goes, IsLive, is_gate, stretch, drive, cost, spent}
use Rattle.console_service.specs.Image.{HasImage, RepresentsStretch as BlocksRepresent}
use Rattle.pascal_semantics.specs.declared.form.Statement.{Statement}
use Rattle.pascal_semantics.specs.Program.{Program as PascalProgram, Row, row_of, rows_of, entry_of, program_of}
use Rattle.pascal_semantics.specs.Valid.{IsProgram, program_name}
use Rattle.pascal_semantics.specs.State.{Status, NotStarted, Halted, Ended as IsEnded, Failed as HasFailed, State as PascalState}
use Rattle.pascal_semantics.specs.Run.{driven, started, started_by, run_of}
use Rattle.pascal_semantics.proofs.Settles.{before_gate}
use Rattle.statement_code.specs.Forms.{BlockForm, ProgramBlock, StatementBlock, NoCall, Store, HasFrame, FrameHolds, Holds, simple}
use Rattle.image_plan.specs.Links.{blocks_of}
use Rattle.image_plan.proofs.Laid.{same_test}
use Rattle.dice_session.specs.Represents.{AtBegin, AtGate, AtNewest, StandsAt, HasFrames}
use Rattle.dice_session.specs.Simulates.{IsWellFormed, HoldsProgram}
use Rattle.dice_session.specs.Progress.{progress_of, is_over}
use Rattle.dice_session.proofs.Stages.{stage_of, stage_live, unmarked, short, HasRun, not_program, form_at, Driven, driven_ended, driven_is}
use Rattle.dice_session.proofs.Good.{cost_bound, spent_bound, AreWords, GoodNamed, Good, left_most, good_fits, good_keeps}

-- what the machine holds does not hang on PC
holds_on : (d : Store) (hs : List (Hanging NoCall)) (c : Cpu) (q : ℕ) → Holds d hs c → Holds d hs (record c { pc = q })
holds_on d hs c q h = record { globals_are = record { count = h.globals_are.count; small = h.globals_are.small; each = h.globals_are.each }; frame = by d.started h.frame; console = h.console }
  where
    by : (b : Bool) → FrameHolds b c → FrameHolds b (record c { pc = q })
    by true f = record { frame = f.frame; stack = f.stack; back = f.back; caller = f.caller; static_link = f.static_link; charges = f.charges; zeros = f.zeros }
    by false f = f

module _ (ss : List Statement) (is : IsProgram ss) where
  abbrev P : PascalProgram
  P = program_of ss

  abbrev B : FormProgram BlockForm
  B = blocks_of P

  abbrev IsFine : StretchState NoCall Store → Type 0
  IsFine = Good ss is

  within : (s : Now NoCall Store) → IsFine (Goes s) → is_gate s.start ≡ true → cost simple B (Goes s) + spent simple B short (stretch simple B s) < instruction_limit
  within s good gate = omega (arith, cost_bound B (Goes s), spent_bound B (stretch simple B s))

  -- what Go leaves and tells, where the plain machine's run ends in this state
  pub record Gone (es : ℕ → Option Block) (gates : ℕ) (s : PascalState) (r : MachineState × ConsoleState × Went) : Type 0 where
    pub cpu : Cpu
    pub stands : BlocksRepresent simple B es (stage_of s) cpu
    pub image : HasImage simple B es unmarked cpu.mem
    pub count : ℕ
    pub tells : r ≡ told gates count (stage_of s) cpu
    pub formed : HasRun ss s

  -- from the gate of a statement
  pub gate_good : (n : ℕ) (row : Row) (globals : List ℕ) → row_of P n ≡ Some row → AreWords globals → IsFine (stage_of (before_gate n globals []))
  gate_good n row globals e words =
      subst (λ b. GoodNamed ss is b (record { name = n; start = At Gate; data_now = record { globals = globals; output = []; started = true }; older = [] })) (sym (not_program ss n row is.free e))
      (record { words = words; room = omega (arith, left_most ss n, is.fits) })

  pub gate_gone : (es : ℕ → Option Block) (gates n : ℕ) (row : Row) (globals : List ℕ) (c : Cpu) → 1 ≤ gates → row_of P n ≡ Some row → AreWords globals → HasImage simple B es unmarked c.mem → BlocksRepresent simple B es (stage_of (before_gate n globals [])) c → Gone es gates (driven gates P (before_gate n globals [])) (go_result None gates (state_of c).0 (state_of c).1)
  gate_gone es gates n row globals c some e words image stands =
      let d = driven_is ss is.free gates n row globals [] e in
      let x = stage_of (before_gate n globals []) in
      let live : IsLive (drive simple B short unmarked gates x) = subst IsLive d.stage (stage_live (driven gates P (before_gate n globals []))) in
      let (cpu, st, im, same) = go_runs simple holds_on B es unmarked short IsFine (good_fits ss is) (good_keeps ss is) within gates _ c some (gate_good n row globals e words) refl image stands live in
      record { cpu = cpu; stands = subst (λ x. BlocksRepresent simple B es x cpu) (sym d.stage) st; image = im; count = gates_passed simple B short unmarked gates x; tells = same ∙ ap (λ y. told gates (gates_passed simple B short unmarked gates x) y cpu) (sym d.stage); formed = d.formed }

-- before the start, a state with these variables
abbrev pub unstarted : List ℕ → StretchState NoCall Store
unstarted globals = Goes (record { name = program_name; start = At First; data_now = record { globals = globals; output = []; started = false }; older = [] })

abbrev pub unwritten : PascalState → PascalState
unwritten s = record s { output = [] }

-- a program's first gate, or its end where it has no statements
first_driven : (ss : List Statement) (is : IsProgram ss) (gates : ℕ) (s : PascalState) → Driven ss is.free gates (started_by NotStarted (program_of ss) (unwritten s)) (drive_from simple (blocks_of (program_of ss)) short unmarked gates (unstarted s.globals))
first_driven [] is gates s = driven_ended [] is.free gates (record { status = IsEnded; activations = s.activations; globals = s.globals; output = [] }) refl tt
first_driven (x ∷ ss) is gates s =
    let row : Row = record { name = x.name; form = x.form; continuation = entry_of ss } in
    driven_is (x ∷ ss) is.free gates x.name row s.globals [] (ap (λ b. if b then Some row else find (λ r. r.name == x.name) (rows_of ss)) (same_test x.name x.name refl))

-- from the begin of the program
begin_gone : (ss : List Statement) (is : IsProgram ss) (es : ℕ → Option Block) (gates : ℕ) (s : PascalState) (c : Cpu) → AreWords s.globals → gate_here (state_of c) ≡ false → HasImage simple (blocks_of (program_of ss)) es unmarked c.mem → BlocksRepresent simple (blocks_of (program_of ss)) es (unstarted s.globals) c
    → Gone ss is es gates (driven gates (program_of ss) (started_by NotStarted (program_of ss) (unwritten s))) (go_result None gates (state_of c).0 (state_of c).1)
begin_gone ss is es gates s c words no_gate image stands =
    let B = blocks_of (program_of ss) in
    let d = first_driven ss is gates s in
    let t = driven gates (program_of ss) (started_by NotStarted (program_of ss) (unwritten s)) in
    let x = unstarted s.globals in
    let good : Good ss is x = (refl, record { words = words; room = omega (arith, is.fits) }) in
    let live : IsLive (drive_from simple B short unmarked gates x) = subst IsLive d.stage (stage_live t) in
    let (cpu, st, im, same) = go_from_runs simple holds_on B es unmarked short (Good ss is) (good_fits ss is) (good_keeps ss is) (within ss is) gates x c no_gate good (omega (arith, spent_bound B x)) image stands live in
    record { cpu = cpu; stands = subst (λ y. BlocksRepresent simple B es y cpu) (sym d.stage) st; image = im; count = gates_from simple B short unmarked gates x; tells = same ∙ ap (λ y. told gates (gates_from simple B short unmarked gates x) y cpu) (sym d.stage); formed = d.formed }

-- ---- from one simulated state to another

-- a run on a machine that stands for a state
pub run_gone : (ss : List Statement) (is : IsProgram ss) (s : PascalState) (gates : ℕ) (machine : MachineState) (console : ConsoleState) → 1 ≤ gates → IsWellFormed ss s → is_over (progress_of s.status) ≡ false → (h : HoldsProgram ss s machine console) → Gone ss is h.blocks gates (run_of (program_of ss) gates s) (go_result None gates machine console)
run_gone ss is s gates machine console some formed can h = subst (λ m. Gone ss is h.blocks gates (run_of P gates s) (go_result None gates m.0 m.1)) h.is (by s.status refl can h.represents.control h.represents.frames)
  where
    P : PascalProgram
    P = program_of ss

    c : Cpu
    c = h.cpu

    words : AreWords s.globals
    words = h.represents.variables.small

    begin : AtBegin (h.blocks program_name) c → c.sp ≡ MEMORY_END_WORD → Gone ss is h.blocks gates (driven gates P (started_by NotStarted P (unwritten s))) (go_result None gates (state_of c).0 (state_of c).1)
    begin at sp =
        begin_gone ss is h.blocks gates s c words at.no_gate h.image
        (record { form = ProgramBlock; has = refl; fits = tt; block = at.lies; entry = at.is; offset = 0; start = at.begin; place = omega (arith, at.place); long = h.long; holds = record { globals_are = h.represents.variables; frame = sp; console = h.represents.console }; waits = tt })

    gate : (n : ℕ) (row : Row) → row_of P n ≡ Some row → AtGate (h.blocks n) c → HasFrame c → Gone ss is h.blocks gates (driven gates P (before_gate n s.globals [])) (go_result None gates (state_of c).0 (state_of c).1)
    gate n row e at frame =
        gate_gone ss is h.blocks gates n row s.globals c some e words h.image
        (record { form = StatementBlock row.form; has = form_at ss is.free n row e; fits = tt; block = at.lies; entry = at.is; offset = 0; start = at.gate; place = omega (arith, at.place); long = h.long; holds = record { globals_are = h.represents.variables; frame = frame; console = h.represents.console }; waits = tt })

    by : (x : Status) → s.status ≡ x → is_over (progress_of x) ≡ false → StandsAt h.blocks x s.activations c → HasFrames x c → Gone ss is h.blocks gates (run_of P gates s) (go_result None gates (state_of c).0 (state_of c).1)
    by NotStarted e g at frames = subst (λ t. Gone ss is h.blocks gates (driven gates P t) (go_result None gates (state_of c).0 (state_of c).1)) (sym (ap (λ x. started_by x P (unwritten s)) e)) (begin at frames)
    by Halted e g at frames =
        let (n, row, found, acts) = formed.halted e in
        let same : unwritten s ≡ before_gate n s.globals [] = ap (λ x. record (unwritten s) { status = x }) e ∙ ap (λ a. record { status = Halted; activations = a; globals = s.globals; output = [] }) acts in
        let same2 : started P (unwritten s) ≡ before_gate n s.globals [] = ap (λ x. started_by x P (unwritten s)) e ∙ same in
        subst (λ t. Gone ss is h.blocks gates (driven gates P t) (go_result None gates (state_of c).0 (state_of c).1)) (sym same2) (gate n row found (subst (λ a. AtNewest h.blocks a c) acts at).1 frames)
    by IsEnded e g at frames = absurd (cc g)
    by (HasFailed error name) e g at frames = absurd (cc g)
