-- What a run on the machine leaves: what was written, what is told, and a machine that stands for the plain machine's
-- state.
use Rattle.std.proofs.Common.{◌≡◌, ℕ, ◌+◌, ◌-◌, ◌*◌, ◌<◌, ◌≤◌, Bool, true, false, List, [], ◌∷◌, ◌++◌, length, Option, Some, None, refl, sym, ap, ◌∙◌, subst, arith}
use Rattle.std.specs.Prelude.{◌==◌, ◌/◌, nat_lt, nat_eq, if◌then◌else◌, codes}
use Rattle.std.specs.Fmt.{decimal}
use Rattle.std.proofs.lemmas.Bool.Decides.{nat_tests}
use Rattle.std.proofs.lemmas.List.{append_assoc}
use Rattle.pdp11_machine.specs.State.{MachineState, reg}
use Rattle.console_service.specs.Console.{ConsoleState}
use Rattle.console_service.specs.Cpu.{Cpu}
use Rattle.console_service.specs.declared.memory_map.TheConstants.{CODE_WORD, MEMORY_END_WORD}
use Rattle.target_monitor.specs.declared.gates.GoEnd.TheVariants as end
use Rattle.target_monitor.specs.declared.gates.Went.{Went}
use Rattle.target_monitor.specs.Go.{go_result}
use Rattle.simulation.specs.Gates.{told, left_at, run_end}
use Rattle.console_service.specs.Block.{Gate, Block}
use Rattle.console_service.specs.Semantics.{At}
use Rattle.console_service.specs.Plain.{FormProgram, Goes}
use Rattle.console_service.specs.Image.{IsBlock, HasImage, InWords, Before, RepresentsStretch as BlocksRepresent}
use Rattle.pascal_semantics.specs.declared.form.Statement.{Statement}
use Rattle.pascal_semantics.specs.Charge.{charge_of, program_charge}
use Rattle.pascal_semantics.specs.Program.{program_of}
use Rattle.pascal_semantics.specs.Valid.{IsProgram, program_name}
use Rattle.pascal_semantics.specs.State.{Status, NotStarted, Halted, Ended as IsEnded, Failed as HasFailed, Activation, State as PascalState}
use Rattle.pascal_semantics.specs.Run.{run_of}
use Rattle.statement_code.specs.ExpressionCode.{HasGlobals}
use Rattle.statement_code.specs.Forms.{BlockForm, Store, HasFrame, simple}
use Rattle.image_plan.specs.Links.{blocks_of}
use Rattle.image_plan.specs.Load.{place_from, place_of, extent_of, HasParts}
use Rattle.image_plan.proofs.Laid.{is_same}
use Rattle.dice_session.specs.World.{reply_line, newest_name, ending_of, written_part}
use Rattle.dice_session.specs.Places.{name_from, name_at, ending_text, ends}
use Rattle.dice_session.specs.Progress.{progress_of, is_over}
use Rattle.dice_session.specs.declared.progress.Progress.TheVariants as progress
use Rattle.dice_session.specs.Represents.{AtGate, AtNewest, StandsAt, HasFrames}
use Rattle.dice_session.specs.Simulates.{IsWellFormed, HoldsProgram, CanRunFrom, Ran}
use Rattle.dice_session.proofs.Stages.{store_of, stage_by, stage_of, unmarked, HasRunBy}
use Rattle.dice_session.proofs.Go.{Gone, run_gone}

-- ---- the name of a place

below : (a b : ℕ) → a < b → nat_lt a b ≡ true
below a b lt = grind (arith, nat_tests)

not_below : (a b : ℕ) → b ≤ a → nat_lt a b ≡ false
not_below a b le = grind (arith, nat_tests)

abbrev or_first : Option (ℕ × ℕ) → ℕ
or_first None = 0
or_first (Some p) = p.0

abbrev or_second : Option (ℕ × ℕ) → ℕ
or_second None = 0
or_second (Some p) = p.1

pub parts_of : (a b c d : ℕ) → ◌≡◌ {A = Option (ℕ × ℕ)} (Some (a, b)) (Some (c, d)) → (a ≡ c) × (b ≡ d)
parts_of a b c d e = (ap (λ o. or_first o) e, ap (λ o. or_second o) e)

record Named (p : ℕ) (ss : List Statement) (m q at : ℕ) : Type 0 where
  is : name_from p ss at ≡ m
  behind : p ≤ q

named_from : (p : ℕ) (ss : List Statement) (m q len at : ℕ) → place_from p ss m ≡ Some (q, len) → q ≤ at → at < q + len → Named p ss m q at
unfolding name_from
named_from p [] m q len at e lo hi = absurd (grind (arith, e))
named_from p (s ∷ ss) m q len at e lo hi = by (s.name == m) refl e (λ h. named_from (p + charge_of s.form) ss m q len at h lo hi)
  where
    by : (b : Bool) → (s.name == m) ≡ b → (if b then Some (p, charge_of s.form) else place_from (p + charge_of s.form) ss m) ≡ Some (q, len)
        → (place_from (p + charge_of s.form) ss m ≡ Some (q, len) → Named (p + charge_of s.form) ss m q at) → Named p (s ∷ ss) m q at
    by true t h rest =
        let (first, long) = parts_of p (charge_of s.form) q len h in
        record { is = ap (λ b. if b then s.name else name_from (p + charge_of s.form) ss at) (below at (p + charge_of s.form) (omega (arith, first, long, hi))) ∙ is_same s.name m t; behind = omega (arith, first) }
    by false t h rest =
        let r = rest h in
        record { is = ap (λ b. if b then s.name else name_from (p + charge_of s.form) ss at) (not_below at (p + charge_of s.form) (omega (arith, r.behind, lo))) ∙ r.is; behind = omega (arith, r.behind) }

named_at : (ss : List Statement) (m q len at : ℕ) → place_of ss m ≡ Some (q, len) → q ≤ at → at < q + len → name_at ss at ≡ m
named_at ss m q len at e lo hi = by (m == program_name) refl e
  where
    by : (b : Bool) → (m == program_name) ≡ b → (if b then Some (CODE_WORD, program_charge) else place_from (CODE_WORD + program_charge) ss m) ≡ Some (q, len) → name_at ss at ≡ m
    by true t h =
        let (first, long) = parts_of CODE_WORD program_charge q len h in
        ap (λ b. if b then program_name else name_from (CODE_WORD + program_charge) ss at) (below at (CODE_WORD + program_charge) (omega (arith, first, long, hi))) ∙ sym (is_same m program_name t)
    by false t h =
        let r = named_from (CODE_WORD + program_charge) ss m q len at h lo hi in
        ap (λ b. if b then program_name else name_from (CODE_WORD + program_charge) ss at) (not_below at (CODE_WORD + program_charge) (omega (arith, r.behind, lo))) ∙ r.is

-- a word of a block tells the block's name
name_in : (ss : List Statement) (blocks : ℕ → Option Block) (n : ℕ) (b : Block) (at : ℕ) → ((n : ℕ) → extent_of (blocks n) ≡ place_of ss n) → blocks n ≡ Some b → InWords b.place b at → name_at ss at ≡ n
name_in ss blocks n b at places e (lo, hi) = named_at ss n b.place (length b.words) at (sym (places n) ∙ ap extent_of e) lo hi

-- ---- what a run leaves

pub record After (ss : List Statement) (t : PascalState) (r : MachineState × ConsoleState × Went) : Type 0 where
  pub output : r.1.output ≡ t.output
  pub over : ends r.2.end ≡ is_over (progress_of t.status)
  pub ending : ending_text ss r.2.end (reg r.0 7 / 2) ≡ ending_of t.status t.activations
  pub simulates : (k : ConsoleState) → k.output ≡ [] → HoldsProgram ss t r.0 k
  pub formed : IsWellFormed ss t
  pub started : progress_of t.status ≡ progress.NotStarted → ⊥

started_by : (ss : List Statement) (x : Status) (activations : List Activation) → HasRunBy ss x activations → progress_of x ≡ progress.NotStarted → ⊥
started_by ss NotStarted activations h = λ e. h
started_by ss Halted activations h = λ e. absurd (cc e)
started_by ss IsEnded activations h = λ e. absurd (cc e)
started_by ss (HasFailed error name) activations h = λ e. absurd (cc e)

formed_by : (ss : List Statement) (t : PascalState) (x : Status) → t.status ≡ x → HasRunBy ss x t.activations → IsWellFormed ss t
formed_by ss t NotStarted is h = absurd h
formed_by ss t Halted is h = record { before = λ e. absurd (cc (sym is ∙ e)); halted = λ e. h }
formed_by ss t IsEnded is h = record { before = λ e. absurd (cc (sym is ∙ e)); halted = λ e. absurd (cc (sym is ∙ e)) }
formed_by ss t (HasFailed error name) is h = record { before = λ e. absurd (cc (sym is ∙ e)); halted = λ e. absurd (cc (sym is ∙ e)) }

half : (k : ℕ) → 2 * k / 2 ≡ k
half k = omega (arith)

-- variables and frame do not hang on PC and the console
globals_on : (globals : List ℕ) (c : Cpu) (q : ℕ) (k : ConsoleState) → HasGlobals globals c → HasGlobals globals (record c { pc = q; console = k })
globals_on globals c q k h = record { count = h.count; small = h.small; each = h.each }

frame_on : (c : Cpu) (k : ConsoleState) → HasFrame c → HasFrame (record c { console = k })
frame_on c k f = record { frame = f.frame; stack = f.stack; back = f.back; caller = f.caller; static_link = f.static_link; charges = f.charges; zeros = f.zeros }

-- a machine represents a state with this status, whatever is left of its output
record LeftIn (es : ℕ → Option Block) (x : Status) (t : PascalState) (c : Cpu) : Type 0 where
  control : StandsAt es x t.activations c
  variables : HasGlobals t.globals c
  frames : HasFrames x c

-- a machine that was left, in parts
record LeftBy (ss : List Statement) (es : ℕ → Option Block) (gates count : ℕ) (x : Status) (t : PascalState) (c : Cpu) : Type 0 where
  output : (left_at (stage_by x t) c).console.output ≡ t.output
  over : ends (run_end gates count (stage_by x t)) ≡ is_over (progress_of x)
  same : (left_at (stage_by x t) c).mem ≡ c.mem
  ending : ending_text ss (run_end gates count (stage_by x t)) (left_at (stage_by x t) c).pc ≡ ending_of x t.activations
  stands : (k : ConsoleState) → LeftIn es x t (record (left_at (stage_by x t) c) { console = k })

stopped_told : (ss : List Statement) (b : Bool) (place n : ℕ) → name_at ss place ≡ n → ending_text ss (if b then end.Counted else end.AtBreak) place ≡ ending_of Halted (record { routine = program_name; statement = n; frames = [] } ∷ [])
stopped_told ss true place n e = ap (λ m. reply_line (codes "stopped at " ++ decimal m)) e
stopped_told ss false place n e = ap (λ m. reply_line (codes "stopped at " ++ decimal m)) e

stopped_on : (b : Bool) → ends (if b then end.Counted else end.AtBreak) ≡ false
stopped_on true = refl
stopped_on false = refl

failed_told : (ss : List Statement) (error place n : ℕ) (activations : List Activation) → name_at ss place ≡ n → ending_text ss (end.Error error) (place + 1) ≡ ending_of (HasFailed error n) activations
failed_told ss error place n activations e = ap (λ m. reply_line (codes "error " ++ (decimal error ++ (codes " at " ++ decimal m)))) (ap (name_at ss) (back place) ∙ e)
  where
    back : (place : ℕ) → place + 1 - 1 ≡ place
    back place = omega (arith)

module _ (ss : List Statement) (es : ℕ → Option Block) (places : (n : ℕ) → extent_of (es n) ≡ place_of ss n) (parts : HasParts es) where
  abbrev B : FormProgram BlockForm
  B = blocks_of (program_of ss)

  name_of : (n : ℕ) (b : Block) (at : ℕ) → es n ≡ Some b → InWords b.place b at → name_at ss at ≡ n
  name_of n b at e inside = name_in ss es n b at places e inside

  -- at a gate
  at_gate : (n : ℕ) (d : Store) (c : Cpu) → Before simple B es (record { name = n; start = At Gate; data_now = d; older = [] }) c → AtGate (es n) c
  at_gate n d c stands =
      let first = parts.gates n stands.block stands.offset stands.entry stands.start in
      record { lies = stands.block; is = stands.entry; gate = stands.start ∙ ap Some first; place = omega (arith, first, stands.place) }

  gate_inside : (n : ℕ) (d : Store) (c : Cpu) → HasImage simple B es unmarked c.mem → (stands : Before simple B es (record { name = n; start = At Gate; data_now = d; older = [] }) c) → InWords stands.block.place stands.block c.pc
  gate_inside n d c image stands =
      let lies = image.each n stands.form stands.has in
      let same : lies.block ≡ stands.block = cc (sym lies.entry ∙ stands.entry) in
      let first = parts.gates n stands.block stands.offset stands.entry stands.start in
      let some : stands.offset < length stands.block.words = (subst IsBlock same lies.is).gate_in stands.offset stands.start in
      (omega (arith, stands.place), omega (arith, stands.place, some))

  left_halted : (gates count n : ℕ) (t : PascalState) (c : Cpu) → t.activations ≡ record { routine = program_name; statement = n; frames = [] } ∷ [] → HasImage simple B es unmarked c.mem → BlocksRepresent simple B es (stage_by Halted t) c → LeftBy ss es gates count Halted t c
  left_halted gates count n t c acts image h =
      let stands : Before simple B es (record { name = n; start = At Gate; data_now = store_of t true; older = [] }) c = subst (λ a. BlocksRepresent simple B es (Goes (record { name = newest_name a; start = At Gate; data_now = store_of t true; older = [] })) c) acts h in
      let name = name_of n stands.block c.pc stands.entry (gate_inside n (store_of t true) c image stands) in
      let at = at_gate n (store_of t true) c stands in
      record {
        output = stands.holds.console;
        over = stopped_on (nat_eq count gates);
        same = refl;
        ending = stopped_told ss (nat_eq count gates) c.pc n name ∙ sym (ap (ending_of Halted) acts);
        stands = λ k. record {
          control = subst (λ a. AtNewest es a (record c { console = k })) (sym acts) (refl, record { lies = at.lies; is = at.is; gate = at.gate; place = at.place });
          variables = globals_on t.globals c c.pc k stands.holds.globals_are;
          frames = frame_on c k stands.holds.frame;
        };
      }

  left_in : (gates count : ℕ) (x : Status) (t : PascalState) (c : Cpu) → HasRunBy ss x t.activations → HasImage simple B es unmarked c.mem → BlocksRepresent simple B es (stage_by x t) c → LeftBy ss es gates count x t c
  left_in gates count NotStarted t c formed image h = absurd formed
  left_in gates count Halted t c (n, row, found, acts) image h = left_halted gates count n t c acts image h
  left_in gates count IsEnded t c formed image h =
      record {
        output = h.shows.console;
        over = refl;
        same = refl;
        ending = refl;
        stands = λ k. record {
          control = record { lies = h.block; is = h.entry; at = c.pc; inside = h.inside; place = refl; executed = h.halts.here };
          variables = globals_on t.globals c (c.pc + 1) k h.shows.globals_are;
          frames = tt;
        };
      }
  left_in gates count (HasFailed error name) t c formed image h =
      record {
        output = h.shows.console;
        over = refl;
        same = refl;
        ending = failed_told ss error c.pc name t.activations (name_of name h.block c.pc h.entry h.inside);
        stands = λ k. record {
          control = record { lies = h.block; is = h.entry; at = c.pc; inside = h.inside; place = refl; executed = h.halts.here };
          variables = globals_on t.globals c (c.pc + 1) k h.shows.globals_are;
          frames = tt;
        };
      }

-- ---- the whole

pub after : (ss : List Statement) (is : IsProgram ss) (es : ℕ → Option Block) (gates : ℕ) (t : PascalState) (r : MachineState × ConsoleState × Went) → ((n : ℕ) → extent_of (es n) ≡ place_of ss n) → HasParts es → length r.0.memory ≡ MEMORY_END_WORD → Gone ss is es gates t r → After ss t r
after ss is es gates t r places parts long g = subst (After ss t) (sym g.tells) (left_after (subst (λ r. length r.0.memory ≡ MEMORY_END_WORD) g.tells long))
  where
    left : LeftBy ss es gates g.count t.status t g.cpu
    left = left_in ss es places parts gates g.count t.status t g.cpu g.formed g.image g.stands

    c : Cpu
    c = left_at (stage_of t) g.cpu

    left_after : length c.mem ≡ MEMORY_END_WORD → After ss t (told gates g.count (stage_of t) g.cpu)
    left_after long = record {
      output = left.output;
      over = left.over;
      ending = ap (ending_text ss (run_end gates g.count (stage_of t))) (half c.pc) ∙ left.ending;
      simulates = λ k empty. record {
        cpu = record c { console = k };
        is = refl;
        long = long;
        blocks = es;
        places = places;
        parts = parts;
        image = subst (HasImage simple (blocks_of (program_of ss)) es unmarked) (sym left.same) g.image;
        represents = let s = left.stands k in record { control = s.control; variables = s.variables; frames = s.frames; console = empty };
        fresh = λ e. absurd (started_by ss t.status t.activations g.formed (ap progress_of e));
      };
      formed = formed_by ss t t.status refl g.formed;
      started = started_by ss t.status t.activations g.formed;
    }

-- ---- what is said of a run

pub ran : (ss : List Statement) (gates : ℕ) (s : PascalState) (machine : MachineState) (console : ConsoleState) (before after_all : List ℕ) (r : MachineState × ConsoleState × Went) (k : ConsoleState)
    → IsProgram ss → 1 ≤ gates → r ≡ go_result None gates machine console → length r.0.memory ≡ MEMORY_END_WORD → k.output ≡ []
    → after_all ≡ (before ++ written_part r.1.output) ++ ending_text ss r.2.end (reg r.0 7 / 2) → CanRunFrom ss s machine console → Ran ss gates s (ends r.2.end) before after_all r.0 k
ran ss gates s machine console before after_all r k is some same long empty told h =
    let t = run_of (program_of ss) gates s in
    let g = run_gone ss is s gates machine console some h.formed h.can h.holds in
    let a = after ss is h.holds.blocks gates t r h.holds.places h.holds.parts long (subst (Gone ss is h.holds.blocks gates t) (sym same) g) in
    record {
      told = told ∙ ap (λ o. (before ++ written_part o) ++ ending_text ss r.2.end (reg r.0 7 / 2)) a.output ∙ ap (λ e. (before ++ written_part t.output) ++ e) a.ending ∙ append_assoc before (written_part t.output) (ending_of t.status t.activations);
      over_is = a.over;
      simulates = a.simulates;
      drained = empty;
      formed = a.formed;
      started = a.started;
    }
