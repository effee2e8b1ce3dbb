-- Runs of the plain machine that count gates, and what Go tells of them.
use Rattle.std.specs.Prelude.{ℕ, ◌+◌, zero, suc, Bool, nat_eq, if◌then◌else◌}
use Rattle.pdp11_machine.specs.State.{MachineState}
use Rattle.console_service.specs.Console.{ConsoleState}
use Rattle.console_service.specs.Cpu.{Cpu, state_of}
use Rattle.target_monitor.specs.declared.gates.GoEnd.{GoEnd}
use Rattle.target_monitor.specs.declared.gates.GoEnd.TheVariants as end
use Rattle.target_monitor.specs.declared.gates.Went.{Went}
use Rattle.console_service.specs.Semantics.{Semantics}
use Rattle.console_service.specs.Plain.{FormProgram, StretchState, Goes, Ended, Failed, Stuck, stretch_unless, sum_unless, ends_run, next, settle, drive}
use Rattle.console_service.specs.Image.{passed}

-- how a run of so many gates ends that has passed this many
abbrev pub run_end : {Path Data : Type 0} → ℕ → ℕ → StretchState Path Data → GoEnd
run_end gates count (Goes s) = if nat_eq count gates then end.Counted else end.AtBreak
run_end gates count (Ended n d) = end.Ended
run_end gates count (Failed error n d) = end.Error error
run_end gates count Stuck = end.Bus

-- the instruction that ends a program or fails is executed, a gate is not
abbrev pub left_at : {Path Data : Type 0} → StretchState Path Data → Cpu → Cpu
left_at (Goes s) c = c
left_at other c = passed c

-- what Go leaves and tells, for the state where the run ends and a machine that stands for it
abbrev pub told : {Path Data : Type 0} → ℕ → ℕ → StretchState Path Data → Cpu → MachineState × ConsoleState × Went
told gates count x c =
    let m = state_of (left_at x c) in (m.0, m.1, record { end = run_end gates count x; passed = count })

module _ {Form Path Data : Type 0} (M : Semantics Form Path Data) (P : FormProgram Form) (short : ℕ) (marks : ℕ → Bool) where
  -- how many gates `drive` passes
  abbrev pub gates_passed : ℕ → StretchState Path Data → ℕ
  gates_passed zero x = 0
  gates_passed (suc k) x =
      1 + sum_unless (ends_run marks (settle M P short (next M P x))) (gates_passed k (settle M P short (next M P x)))

  -- a run from a state that stands at no gate: its first gate is newly reached
  abbrev pub drive_from : ℕ → StretchState Path Data → StretchState Path Data
  drive_from k x =
      stretch_unless (ends_run marks (settle M P short x)) (settle M P short x) (λ y. drive M P short marks k y)

  -- how many gates such a run passes
  abbrev pub gates_from : ℕ → StretchState Path Data → ℕ
  gates_from k x = sum_unless (ends_run marks (settle M P short x)) (gates_passed k (settle M P short x))
