-- Runs keep a state in order, from the start of the program on.
use Rattle.std.proofs.Common.{◌≡◌, ℕ, zero, suc, ◌-◌, Bool, true, false, List, [], ◌∷◌, ◌++◌, Option, Some, None, refl, sym, ap, ◌∙◌, subst, arith}
use Rattle.plain_pascal.specs.Program.{Program, routine_of}
use Rattle.plain_pascal.specs.State.{Status, NotStarted, Halted, Ended, Failed, Data, Control, State, globals_count, heap_count}
use Rattle.plain_pascal.specs.Step.{small_step}
use Rattle.plain_pascal.specs.Run.{Ending, Marks, Stopped, cleared, driven, ends, entry_in, event, is_full, next_gate, over_by, passed, rests, run_by, settled, started, steps_limit, unless, unless_held, unless_over, with_event}
use Rattle.plain_pascal.specs.Typed.{slots_in}
use Rattle.plain_pascal.specs.Valid.{AreOf, HasEntry, HasGate, IsActivation, IsData, IsProgram, IsWellFormed, IsWord}
use Rattle.std.specs.Prelude.{length, replicate}
use Rattle.std.specs.List.{AllByRecursion}
use Rattle.plain_pascal.specs.Laws.{LoadedStands, RunsKeep}
use Rattle.plain_pascal.proofs.Gates.{gate_reached}
use Rattle.plain_pascal.proofs.Named.{row_named}
use Rattle.plain_pascal.proofs.Steps.{steps_keep}

cleared_data : (d : Data) → IsData d → IsData (cleared d)
cleared_data d good = record { globals_long = good.globals_long; globals_words = good.globals_words; heap_long = good.heap_long; heap_words = good.heap_words; used = good.used; cells = good.cells; stack = good.stack; input = good.input }

module _ (P : Program) (program : IsProgram P) where
  -- ---- the start

  pub started_well : (s : State) → IsData s.data_now → IsWellFormed P (started P s)
  started_well s good = gate_reached P program 1 [] [] (entry_in (routine_of P 1)) (record s.data_now { activations = record { routine = 1; static_link = 0; words = []; holds = [] } ∷ [] }) data_good (refl, is, tt, ([], tt)) gate
    where
      data_good : IsData (record s.data_now { activations = record { routine = 1; static_link = 0; words = []; holds = [] } ∷ [] })
      data_good = record { globals_long = good.globals_long; globals_words = good.globals_words; heap_long = good.heap_long; heap_words = good.heap_words; used = good.used; cells = good.cells; stack = omega arith; input = good.input }

      is : IsActivation P (record { routine = 1; static_link = 0; words = []; holds = [] } ∷ []) (record { routine = 1; static_link = 0; words = []; holds = [] }) []
      is = record {
        row = program.main.0;
        found = program.main.1;
        words = subst (λ f. AreOf (record { routine = 1; static_link = 0; words = []; holds = [] } ∷ []) 0 (slots_in f program.main.0.references) []) (sym program.main.2) tt;
        parent = (program.main.3, refl);
      }

      gate : HasGate P 1 [] (entry_in (routine_of P 1))
      gate =
          let h : HasEntry P program.main.0 = program.entries 1 program.main.0 program.main.1 in
          subst (HasGate P 1 []) (sym (ap entry_in program.main.1))
          (record { row = h.0; found = h.1; inside = h.2 ∙ row_named P 1 program.main.0 program.main.1; ended = []; around = sym (ap (λ ks. ks ++ []) h.3) })

  -- ---- from gate to gate

  settled_well : (n : ℕ) (s : State) → IsWellFormed P s → IsWellFormed P (settled n P s)
  unfolding settled
  settled_well zero s w = w
  settled_well (suc n) s w = by (rests s) (settled_well n (small_step P s) (steps_keep P program s w))
    where
      by : (b : Bool) → IsWellFormed P (settled n P (small_step P s)) → IsWellFormed P (unless b s (λ t. settled n P (small_step P t)))
      by true on = w
      by false on = on

  passed_well : (s : State) → IsWellFormed P s → IsWellFormed P (passed P s)
  passed_well s w = settled_well steps_limit (small_step P s) (steps_keep P program s w)

  driven_well : (k : ℕ) (marks : Marks) (s : State) → IsWellFormed P s → IsWellFormed P (driven k P marks s).last
  unfolding driven
  driven_well zero marks s w = by (over_by s.status)
    where
      by : (x : Option Ending) → IsWellFormed P (unless_over x s (λ t. ends (Stopped (next_gate t)) t)).last
      by None = w
      by (Some e) = w
  driven_well (suc k) marks s w = by (over_by s.status) (driven_well k marks (passed P s) (passed_well s w))
    where
      at_mark : (break full : Bool) → IsWellFormed P (driven k P marks (passed P s)).last
          → IsWellFormed P (unless_held break full s (λ u. with_event (event (marks.traces (next_gate u)) (next_gate u)) (driven k P marks (passed P u)))).last
      at_mark true full on = w
      at_mark false true on = w
      at_mark false false on = on

      by : (x : Option Ending) → IsWellFormed P (driven k P marks (passed P s)).last
          → IsWellFormed P (unless_over x s (λ t. unless_held (marks.breaks (next_gate t)) (is_full t) t (λ u. with_event (event (marks.traces (next_gate u)) (next_gate u)) (driven k P marks (passed P u))))).last
      by (Some e) on = w
      by None on = at_mark (marks.breaks (next_gate s)) (is_full s) on

  -- ---- a run

  run_well : (marks : Marks) (k : ℕ) (st : Status) (control : List Control) (d : Data) → IsWellFormed P (record { status = st; control = control; data_now = d })
      → IsWellFormed P (run_by st P marks k (record { status = st; control = control; data_now = d })).last
  run_well marks k NotStarted control d w = driven_well k marks (started P (record { status = NotStarted; control = control; data_now = d })) (started_well (record { status = NotStarted; control = control; data_now = d }) w.data_good)
  run_well marks k Halted control d w = driven_well (k - 1) marks (passed P (record { status = Halted; control = control; data_now = d })) (passed_well (record { status = Halted; control = control; data_now = d }) w)
  run_well marks k Ended control d w = w
  run_well marks k (Failed e n) control d w = w

  cleared_well : (st : Status) (control : List Control) (d : Data) → IsWellFormed P (record { status = st; control = control; data_now = d }) → IsWellFormed P (record { status = st; control = control; data_now = cleared d })
  cleared_well NotStarted control d w = record { data_good = cleared_data d w.data_good; stands = w.stands }
  cleared_well Halted control d w = record { data_good = cleared_data d w.data_good; stands = w.stands }
  cleared_well Ended control d w = record { data_good = cleared_data d w.data_good; stands = tt }
  cleared_well (Failed e n) control d w = record { data_good = cleared_data d w.data_good; stands = tt }

pub runs_keep : RunsKeep
runs_keep P program marks k s w = run_well P program marks k s.status s.control (cleared s.data_now) (cleared_well P program s.status s.control s.data_now w)

-- ---- a program that was loaded

zeros_long : (n : ℕ) → length {A = ℕ} (replicate n 0) ≡ n
zeros_long zero = refl
zeros_long (suc n) = ap suc (zeros_long n)

zeros_words : (n : ℕ) → AllByRecursion IsWord (replicate n 0)
zeros_words zero = tt
zeros_words (suc n) = (omega arith, zeros_words n)

pub loaded_well : LoadedStands
loaded_well P = record {
  data_good = record { globals_long = zeros_long globals_count; globals_words = zeros_words globals_count; heap_long = zeros_long heap_count; heap_words = zeros_words heap_count; used = omega arith; cells = tt; stack = omega arith; input = tt };
  stands = (refl, refl);
}
