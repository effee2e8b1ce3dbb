-- Go is the run of the plain machine.
use Rattle.std.proofs.Common.{◌≡◌, ◌≢◌, ℕ, zero, suc, ◌+◌, ◌-◌, ◌<◌, ◌≤◌, Bool, true, false, List, Option, Some, None, refl, sym, ap, ◌∙◌, subst, arith}
use Rattle.std.specs.Prelude.{slice_index, nat_eq, if◌then◌else◌}
use Rattle.std.proofs.lemmas.Bool.Decides.{nat_tests}
use Rattle.pdp11_machine.specs.State.{MachineState}
use Rattle.console_service.specs.Console.{ConsoleState}
use Rattle.console_service.specs.Run.{word_here, gate_here}
use Rattle.console_service.specs.Cpu.{Cpu, state_of}
use Rattle.console_service.specs.declared.memory_map.TheConstants.{GLOBALS_WORD}
use Rattle.console_service.proofs.Ops.{half, even_place, next as next_word}
use Rattle.target_monitor.specs.declared.gates.GoEnd.{GoEnd}
use Rattle.target_monitor.specs.declared.gates.GoEnd.TheVariants as end
use Rattle.target_monitor.specs.declared.gates.Went.{Went}
use Rattle.target_monitor.specs.Go.{instruction_limit, gate_passed, break_here, to_gate, run_after_way, run_from_gate, run_on_the_way, go_result}
use Rattle.target_monitor.proofs.Steps.{to_gate_here, to_gate_stops}
use Rattle.console_service.specs.Block.{Gate, Block, laid, gate_word, spot_place}
use Rattle.console_service.specs.Semantics.{Begin, At, Hanging, Semantics}
use Rattle.console_service.specs.Plain.{FormProgram, Now, StretchState, Goes, Ended, Failed, Stuck, IsLive, is_gate, stretch_rests, stretch_unless, sum_unless, ends_run, stretch, next, settle, drive, cost, spent, IsGoodState}
use Rattle.console_service.specs.Image.{passed, start_at, HasImage, Before, RepresentsStretch}
use Rattle.console_service.proofs.Words.{has_index, laid_gate}
use Rattle.console_service.proofs.Stretch.{image_still, length_laid}
use Rattle.console_service.proofs.Settle.{settle_runs, gate_runs}
use Rattle.simulation.specs.Gates.{told, gates_passed, drive_from, gates_from}
use Rattle.simulation.proofs.Way.{comes_to_gate}

pub pass_gate : (c : Cpu) → c.pc < 28672 → gate_passed (state_of c) ≡ state_of (passed c)
pass_gate c h = simp (next_word)

pub here_is : (c : Cpu) → c.pc < 28672 → word_here (state_of c) ≡ Some (slice_index c.mem c.pc)
here_is c h = simp (half, even_place)

gate_at : (b : Bool) (c : Cpu) → c.pc < 28672 → slice_index c.mem c.pc ≡ gate_word b → (gate_here (state_of c) ≡ true) × (break_here (state_of c) ≡ b)
gate_at true c h w = (simp (half, w, even_place), simp (half, w, even_place))
gate_at false c h w = (simp (half, w, even_place), simp (half, w, even_place))

-- what the way to a gate tells, where the machine stands for a state that rests
abbrev pub rested : {Path Data : Type 0} → StretchState Path Data → Cpu → MachineState × ConsoleState × Option GoEnd
rested (Goes s) c = ((state_of c).0, (state_of c).1, None)
rested (Ended n d) c = ((state_of (passed c)).0, (state_of (passed c)).1, Some end.Ended)
rested (Failed error n d) c = ((state_of (passed c)).0, (state_of (passed c)).1, Some (end.Error error))
rested Stuck c = ((state_of c).0, (state_of c).1, None)

module _ {Form Path Data : Type 0} (M : Semantics Form Path Data) where
  is_at_gate : (b : Block) (st : Begin Path) (k : ℕ) → is_gate st ≡ true → start_at M b st ≡ Some k → b.part_at Gate ≡ Some k
  is_at_gate b (At Gate) k gate e = e
  is_at_gate b other k gate e = absurd (grind (arith, gate))

  -- at a gate stands its word
  pub gate_stands : (P : FormProgram Form) (es : ℕ → Option Block) (marks : ℕ → Bool) (s : Now Path Data) (c : Cpu) → is_gate s.start ≡ true → HasImage M P es marks c.mem → Before M P es s c → (c.pc < GLOBALS_WORD) × (slice_index c.mem c.pc ≡ gate_word (marks s.name))
  gate_stands P es marks s c gate image b =
      let l = image.each s.name b.form b.has in
      let same : b.block ≡ l.block = cc (b.entry, l.entry) in
      let at : l.block.part_at Gate ≡ Some b.offset = subst (λ k. k.part_at Gate ≡ Some b.offset) same (is_at_gate b.block s.start b.offset gate b.start) in
      let lt = l.is.gate_in b.offset at in
      let place : c.pc ≡ l.block.place + b.offset = omega (arith, b.place, ap (λ k. k.place) same) in
      (omega (arith, lt, l.below, place), ap (slice_index c.mem) place ∙ has_index c.mem l.block.place b.offset (laid l.block (gate_word (marks s.name)) (λ to. spot_place es (P.link_end s.name to))) l.here (omega (arith, lt, length_laid l.block (gate_word (marks s.name)) (λ to. spot_place es (P.link_end s.name to)))) ∙ laid_gate l.block (gate_word (marks s.name)) (λ to. spot_place es (P.link_end s.name to)) b.offset l.is at)

  settled_rests : (P : FormProgram Form) (n : ℕ) (x : StretchState Path Data) → IsLive (settle M P n x) → stretch_rests (settle M P n x) ≡ true
  settled_rests P zero x live = by (stretch_rests x) refl live
    where
      by : (r : Bool) → stretch_rests x ≡ r → IsLive (stretch_unless r x (λ y. Stuck)) → stretch_rests (stretch_unless r x (λ y. Stuck)) ≡ true
      by true e live = e
      by false e live = absurd live
  settled_rests P (suc n) x live = by (stretch_rests x) refl live (settled_rests P n (next M P x))
    where
      by : (r : Bool) → stretch_rests x ≡ r → IsLive (stretch_unless r x (λ y. settle M P n (next M P y))) → (IsLive (settle M P n (next M P x)) → stretch_rests (settle M P n (next M P x)) ≡ true) → stretch_rests (stretch_unless r x (λ y. settle M P n (next M P y))) ≡ true
      by true e live rest = e
      by false e live rest = rest live

  -- what each step keeps is kept on the way to a gate
  settled_good : (P : FormProgram Form) (Good : StretchState Path Data → Type 0) → ((x : StretchState Path Data) → Good x → Good (next M P x)) → (n : ℕ) (x : StretchState Path Data) → Good x → IsLive (settle M P n x) → Good (settle M P n x)
  settled_good P Good keeps zero x good live = by (stretch_rests x) live
    where
      by : (r : Bool) → IsLive (stretch_unless r x (λ y. Stuck)) → Good (stretch_unless r x (λ y. Stuck))
      by true live = good
      by false live = absurd live
  settled_good P Good keeps (suc n) x good live = by (stretch_rests x) live (settled_good P Good keeps n (next M P x) (keeps x good))
    where
      by : (r : Bool) → IsLive (stretch_unless r x (λ y. settle M P n (next M P y))) → (IsLive (settle M P n (next M P x)) → Good (settle M P n (next M P x))) → Good (stretch_unless r x (λ y. settle M P n (next M P y)))
      by true live rest = good
      by false live rest = rest live

  live_first : (b : Bool) (y : StretchState Path Data) (on : StretchState Path Data → StretchState Path Data) → (b ≡ false → IsLive (on y) → IsLive y) → IsLive (stretch_unless b y on) → IsLive y
  live_first true y on still live = live
  live_first false y on still live = still refl live

  -- the run from a state that does not rest at a mark goes on only from one that lives
  onward_live : (P : FormProgram Form) (short : ℕ) (marks : ℕ → Bool) (k : ℕ) (y : StretchState Path Data) → IsLive (stretch_unless (ends_run marks y) y (λ y. drive M P short marks k y)) → IsLive y
  onward_live P short marks k Stuck live = live
  onward_live P short marks k other live = tt

  -- the machine stands where the state rests
  rest_told : (P : FormProgram Form) (es : ℕ → Option Block) (marks : ℕ → Bool) (y : StretchState Path Data) (e : Cpu) (j : ℕ) → 0 < j → stretch_rests y ≡ true → RepresentsStretch M P es y e → HasImage M P es marks e.mem → to_gate j (state_of e) ≡ rested y e
  rest_told P es marks (Goes s) e j lt rest st image =
      let stands = gate_stands P es marks s e rest image st in
      to_gate_here j (state_of e) (gate_at (marks s.name) e (omega (arith, stands.0)) stands.1).0
  rest_told P es marks (Ended n d) e j lt rest st image = to_gate_stops j (state_of e) (state_of (passed e)) _ st.halts.no_gate lt st.halts.stops
  rest_told P es marks (Failed error n d) e j lt rest st image = to_gate_stops j (state_of e) (state_of (passed e)) _ st.halts.no_gate lt st.halts.stops
  rest_told P es marks Stuck e j lt rest st image = absurd st

  told_counted : (gates count : ℕ) → count ≡ gates → (s : Now Path Data) (e : Cpu) → ((state_of e).0, (state_of e).1, record { end = end.Counted; passed = count }) ≡ told gates count (Goes s) e
  told_counted gates count same s e = let all : true ≡ nat_eq count gates = sym (grind (arith, nat_tests, same)) in ap (λ b. ((state_of e).0, (state_of e).1, record { end = if b then end.Counted else end.AtBreak; passed = count })) all

  told_break : (gates count : ℕ) → count ≢ gates → (s : Now Path Data) (e : Cpu) → ((state_of e).0, (state_of e).1, record { end = end.AtBreak; passed = count }) ≡ told gates count (Goes s) e
  told_break gates count ne s e = let some : false ≡ nat_eq count gates = sym (grind (arith, nat_tests, ne)) in ap (λ b. ((state_of e).0, (state_of e).1, record { end = if b then end.Counted else end.AtBreak; passed = count })) some

  few_unless : (b : Bool) (n k : ℕ) → n ≤ k → sum_unless b n ≤ k
  few_unless true n k le = omega arith
  few_unless false n k le = le

  -- no run passes more gates than were asked for
  pub few_gates : (P : FormProgram Form) (short : ℕ) (marks : ℕ → Bool) (k : ℕ) (x : StretchState Path Data) → gates_passed M P short marks k x ≤ k
  few_gates P short marks zero x = omega arith
  few_gates P short marks (suc k) x = let y = settle M P short (next M P x) in omega (arith, few_unless (ends_run marks y) (gates_passed M P short marks k y) k (few_gates P short marks k y))

  -- what Go gives, for a run that ends at a state
  abbrev pub GoGives : FormProgram Form → (ℕ → Option Block) → (ℕ → Bool) → ℕ → ℕ → StretchState Path Data → MachineState × ConsoleState × Went → Type 0
  GoGives P es marks gates count y r = (e : Cpu) × RepresentsStretch M P es y e × HasImage M P es marks e.mem × (r ≡ told gates count y e)

  module _ (holds_on : (d : Data) (hs : List (Hanging Path)) (c : Cpu) (q : ℕ) → M.Holds d hs c → M.Holds d hs (record c { pc = q })) (P : FormProgram Form) (es : ℕ → Option Block) (marks : ℕ → Bool) (short : ℕ)
      (Good : StretchState Path Data → Type 0) (fits : (x : StretchState Path Data) → Good x → IsGoodState M P x) (keeps : (x : StretchState Path Data) → Good x → Good (next M P x))
      (within : (s : Now Path Data) → Good (Goes s) → is_gate s.start ≡ true → cost M P (Goes s) + spent M P short (stretch M P s) < instruction_limit) where
    -- from a gate on to where the next state rests
    passes : (s : Now Path Data) (c : Cpu) → Good (Goes s) → is_gate s.start ≡ true → HasImage M P es marks c.mem → Before M P es s c → IsLive (settle M P short (stretch M P s))
        → (e : Cpu) × RepresentsStretch M P es (settle M P short (stretch M P s)) e × HasImage M P es marks e.mem × (to_gate instruction_limit (gate_passed (state_of c)) ≡ rested (settle M P short (stretch M P s)) e)
    passes s c good gate image st live =
        let lt = within s good gate in
        let (e, run, st1) = gate_runs M holds_on P es marks Good fits (λ x g r. keeps x g) short s c gate image st good (keeps (Goes s) good) live in
        let image1 = image_still M holds_on P es marks (cost M P (Goes s) + spent M P short (stretch M P s)) (passed c) e run image in
        let (j, long, same) = comes_to_gate (cost M P (Goes s) + spent M P short (stretch M P s)) instruction_limit (passed c) e run.comes (omega (arith, lt)) in
        let pass = pass_gate c (omega (arith, (gate_stands P es marks s c gate image st).0)) in
        (e, st1, image1, ap (to_gate instruction_limit) pass ∙ same ∙ rest_told P es marks (settle M P short (stretch M P s)) e j (omega (arith, lt, long)) (settled_rests P short (stretch M P s) live) st1 image1)

    -- from where a state rests, with so many gates left to pass
    arrive : (k count : ℕ) (y : StretchState Path Data) (e : Cpu) → stretch_rests y ≡ true → Good y → RepresentsStretch M P es y e → HasImage M P es marks e.mem → IsLive (stretch_unless (ends_run marks y) y (λ y. drive M P short marks k y))
        → GoGives P es marks (count + k) (count + sum_unless (ends_run marks y) (gates_passed M P short marks k y)) (stretch_unless (ends_run marks y) y (λ y. drive M P short marks k y)) (run_after_way (run_from_gate None k) count (rested y e))
    arrive k count (Ended n d) e rest good st image live = let z : count ≡ count + 0 = omega arith in (e, st, image, ap (λ n. ((state_of (passed e)).0, (state_of (passed e)).1, record { end = end.Ended; passed = n })) z)
    arrive k count (Failed error n d) e rest good st image live = let z : count ≡ count + 0 = omega arith in (e, st, image, ap (λ n. ((state_of (passed e)).0, (state_of (passed e)).1, record { end = end.Error error; passed = n })) z)
    arrive k count Stuck e rest good st image live = absurd live
    arrive zero count (Goes s) e rest good st image live = by (marks s.name)
      where
        by : (b : Bool) → GoGives P es marks (count + 0) (count + sum_unless b 0) (stretch_unless b (Goes s) (λ y. y)) ((state_of e).0, (state_of e).1, record { end = end.Counted; passed = count })
        by true = (e, st, image, told_counted (count + 0) count (omega arith) s e ∙ ap (λ n. told (count + 0) n (Goes s) e) (let z : count ≡ count + 0 = omega arith in z))
        by false = (e, st, image, told_counted (count + 0) count (omega arith) s e ∙ ap (λ n. told (count + 0) n (Goes s) e) (let z : count ≡ count + 0 = omega arith in z))
    arrive (suc k) count (Goes s) e rest good st image live =
        let stands = gate_stands P es marks s e rest image st in
        let breaks = (gate_at (marks s.name) e (omega (arith, stands.0)) stands.1).1 in
        subst (λ h. GoGives P es marks (count + suc k) (count + sum_unless (marks s.name) (gates_passed M P short marks (suc k) (Goes s))) (stretch_unless (marks s.name) (Goes s) (λ y. drive M P short marks (suc k) y)) (if h then ((state_of e).0, (state_of e).1, record { end = end.AtBreak; passed = count }) else run_after_way (run_from_gate None k) (count + 1) (to_gate instruction_limit (gate_passed (state_of e))))) (sym breaks)
        (by (marks s.name) live (λ y c r g t i l. arrive k (count + 1) y c r g t i l))
      where
        by : (b : Bool) → IsLive (stretch_unless b (Goes s) (λ y. drive M P short marks (suc k) y))
            → ((y : StretchState Path Data) (c : Cpu) → stretch_rests y ≡ true → Good y → RepresentsStretch M P es y c → HasImage M P es marks c.mem → IsLive (stretch_unless (ends_run marks y) y (λ y. drive M P short marks k y)) → GoGives P es marks (count + 1 + k) (count + 1 + sum_unless (ends_run marks y) (gates_passed M P short marks k y)) (stretch_unless (ends_run marks y) y (λ y. drive M P short marks k y)) (run_after_way (run_from_gate None k) (count + 1) (rested y c)))
            → GoGives P es marks (count + suc k) (count + sum_unless b (gates_passed M P short marks (suc k) (Goes s))) (stretch_unless b (Goes s) (λ y. drive M P short marks (suc k) y)) (if b then ((state_of e).0, (state_of e).1, record { end = end.AtBreak; passed = count }) else run_after_way (run_from_gate None k) (count + 1) (to_gate instruction_limit (gate_passed (state_of e))))
        by true live later = (e, st, image, told_break (count + suc k) count (λ n. absurd (omega (arith, n))) s e ∙ ap (λ n. told (count + suc k) n (Goes s) e) (let z : count ≡ count + 0 = omega arith in z))
        by false live later =
            let y = settle M P short (stretch M P s) in
            let live1 = onward_live P short marks k y live in
            let (e1, st1, image1, way) = passes s e good rest image st live1 in
            let good1 = settled_good P Good keeps short (stretch M P s) (keeps (Goes s) good) live1 in
            let (e2, st2, image2, same) = later y e1 (settled_rests P short (stretch M P s) live1) good1 st1 image1 live in
            let gates : count + 1 + k ≡ count + suc k = omega arith in
            let passes_on : count + 1 + sum_unless (ends_run marks y) (gates_passed M P short marks k y) ≡ count + (1 + sum_unless (ends_run marks y) (gates_passed M P short marks k y)) = omega arith in
            (e2, st2, image2, ap (run_after_way (run_from_gate None k) (count + 1)) way ∙ same ∙ ap (λ n. told n (count + 1 + sum_unless (ends_run marks y) (gates_passed M P short marks k y)) (drive M P short marks (suc k) (Goes s)) e2) gates ∙ ap (λ n. told (count + suc k) n (drive M P short marks (suc k) (Goes s)) e2) passes_on)

    -- Go over a memory that holds a program is the run of the program, from a gate
    pub go_runs : (gates : ℕ) (s : Now Path Data) (c : Cpu) → 1 ≤ gates → Good (Goes s) → is_gate s.start ≡ true → HasImage M P es marks c.mem → Before M P es s c → IsLive (drive M P short marks gates (Goes s))
        → GoGives P es marks gates (gates_passed M P short marks gates (Goes s)) (drive M P short marks gates (Goes s)) (go_result None gates (state_of c).0 (state_of c).1)
    go_runs zero s c some good gate image st live = absurd (omega (arith, some))
    go_runs (suc k) s c some good gate image st live =
        let y = settle M P short (stretch M P s) in
        let live1 = onward_live P short marks k y live in
        let (e1, st1, image1, way) = passes s c good gate image st live1 in
        let good1 = settled_good P Good keeps short (stretch M P s) (keeps (Goes s) good) live1 in
        let (e2, st2, image2, same) = arrive k 1 y e1 (settled_rests P short (stretch M P s) live1) good1 st1 image1 live in
        let stands = gate_stands P es marks s c gate image st in
        let here = (gate_at (marks s.name) c (omega (arith, stands.0)) stands.1).0 in
        let less : suc k - 1 ≡ k = omega arith in
        let gates : 1 + k ≡ suc k = omega arith in
        (e2, st2, image2, ap (λ b. if b then run_on_the_way None (suc k) 1 (gate_passed (state_of c)) else run_on_the_way None (suc k) 0 (state_of c)) here ∙ ap (λ j. run_after_way (run_from_gate None j) 1 (to_gate instruction_limit (gate_passed (state_of c)))) less ∙ ap (run_after_way (run_from_gate None k) 1) way ∙ same ∙ ap (λ n. told n (1 + sum_unless (ends_run marks y) (gates_passed M P short marks k y)) (drive M P short marks (suc k) (Goes s)) e2) gates)

    -- the same from a state that does not rest, as the begin of the program: its first gate is newly reached
    pub go_from_runs : (gates : ℕ) (x : StretchState Path Data) (c : Cpu) → gate_here (state_of c) ≡ false → Good x → spent M P short x < instruction_limit → HasImage M P es marks c.mem → RepresentsStretch M P es x c → IsLive (drive_from M P short marks gates x)
        → GoGives P es marks gates (gates_from M P short marks gates x) (drive_from M P short marks gates x) (go_result None gates (state_of c).0 (state_of c).1)
    go_from_runs gates x c no_gate good lt image st live =
        let y = settle M P short x in
        let live1 = onward_live P short marks gates y live in
        let (e, run, st1) = settle_runs M holds_on P es marks Good fits (λ x g r. keeps x g) short x c image st good live1 in
        let image1 = image_still M holds_on P es marks (spent M P short x) c e run image in
        let (j, long, same) = comes_to_gate (spent M P short x) instruction_limit c e run.comes (omega (arith, lt)) in
        let told_there = rest_told P es marks y e j (omega (arith, lt, long)) (settled_rests P short x live1) st1 image1 in
        let (e2, st2, image2, after) = arrive gates 0 y e (settled_rests P short x live1) (settled_good P Good keeps short x good live1) st1 image1 live in
        let less : gates - 0 ≡ gates = omega arith in
        let all : 0 + gates ≡ gates = omega arith in
        let sum : 0 + gates_from M P short marks gates x ≡ gates_from M P short marks gates x = omega arith in
        (e2, st2, image2, ap (λ b. if b then run_on_the_way None gates 1 (gate_passed (state_of c)) else run_on_the_way None gates 0 (state_of c)) no_gate ∙ ap (λ j. run_after_way (run_from_gate None j) 0 (to_gate instruction_limit (state_of c))) less ∙ ap (run_after_way (run_from_gate None gates) 0) (same ∙ told_there) ∙ after ∙ ap (λ n. told n (0 + gates_from M P short marks gates x) (drive_from M P short marks gates x) e2) all ∙ ap (λ n. told gates n (drive_from M P short marks gates x) e2) sum)
