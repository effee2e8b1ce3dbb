-- A run of j + k gates is a run of j gates and then one of k.
use Rattle.std.proofs.Common.{◌≡◌, ℕ, zero, suc, ◌+◌, Bool, true, false, List, [], refl, sym, ap, ◌∙◌, append_assoc, arith}
use Rattle.plain_pascal.specs.Program.{Program}
use Rattle.plain_pascal.specs.State.{Status, NotStarted, Halted, Ended, Failed, Data, Control, State}
use Rattle.plain_pascal.specs.Run.{Ending, Stopped, AtBreak, Full, AtEnd, InError, RunResult, Marks, is_full, event, with_event, next_gate, passed, unless_held, driven, continued, continued_by}

module _ (P : Program) (marks : Marks) (k : ℕ) where
  -- events that were before it are so still
  event_first : (ns : List ℕ) (r : RunResult) → with_event ns (continued k P marks r) ≡ continued k P marks (with_event ns r)
  event_first ns r = by r.ending refl
    where
      by : (e : Ending) → r.ending ≡ e → with_event ns (continued_by e k P marks r) ≡ continued_by e k P marks (with_event ns r)
      by (Stopped n) e = ap (λ xs. record { events = xs; ending = (driven k P marks r.last).ending; last = (driven k P marks r.last).last }) (sym (append_assoc ns r.events (driven k P marks r.last).events))
      by (AtBreak n) e = refl
      by (Full n) e = refl
      by AtEnd e = refl
      by (InError x n) e = refl

  abbrev at : Status → List Control → Data → State
  at st control d = record { status = st; control = control; data_now = d }

  abbrev Splits : ℕ → State → Type 0
  Splits j s = driven (j + k) P marks s ≡ continued k P marks (driven j P marks s)

  none : 0 + k ≡ k
  none = omega arith

  ended_run : (i : ℕ) (control : List Control) (d : Data) → driven i P marks (at Ended control d) ≡ record { events = []; ending = AtEnd; last = at Ended control d }
  unfolding driven
  ended_run zero control d = refl
  ended_run (suc i) control d = refl

  failed_run : (i error name : ℕ) (control : List Control) (d : Data) → driven i P marks (at (Failed error name) control d) ≡ record { events = []; ending = InError error name; last = at (Failed error name) control d }
  unfolding driven
  failed_run zero error name control d = refl
  failed_run (suc i) error name control d = refl

  -- a gate is newly reached, with more to pass
  goes_on : (j : ℕ) (s : State) → Splits j (passed P s)
      → unless_held (marks.breaks (next_gate s)) (is_full s) s (λ u. with_event (event (marks.traces (next_gate u)) (next_gate u)) (driven (j + k) P marks (passed P u)))
      ≡ continued k P marks (unless_held (marks.breaks (next_gate s)) (is_full s) s (λ u. with_event (event (marks.traces (next_gate u)) (next_gate u)) (driven j P marks (passed P u))))
  goes_on j s rest = by (marks.breaks (next_gate s)) (is_full s)
    where
      by : (b f : Bool) → unless_held b f s (λ u. with_event (event (marks.traces (next_gate u)) (next_gate u)) (driven (j + k) P marks (passed P u)))
          ≡ continued k P marks (unless_held b f s (λ u. with_event (event (marks.traces (next_gate u)) (next_gate u)) (driven j P marks (passed P u))))
      by true f = refl
      by false true = refl
      by false false =
          ap (with_event (event (marks.traces (next_gate s)) (next_gate s))) rest
          ∙ event_first (event (marks.traces (next_gate s)) (next_gate s)) (driven j P marks (passed P s))

  split_by : (j : ℕ) (st : Status) (control : List Control) (d : Data) → Splits j (at st control d)
  unfolding driven
  split_by zero NotStarted control d = ap (λ i. driven i P marks (at NotStarted control d)) none
  split_by zero Halted control d = ap (λ i. driven i P marks (at Halted control d)) none
  split_by (suc j) NotStarted control d =
      let more : suc j + k ≡ suc (j + k) = omega arith in
      ap (λ i. driven i P marks (at NotStarted control d)) more ∙ goes_on j (at NotStarted control d) (split_by j (passed P (at NotStarted control d)).status (passed P (at NotStarted control d)).control (passed P (at NotStarted control d)).data_now)
  split_by (suc j) Halted control d =
      let more : suc j + k ≡ suc (j + k) = omega arith in
      ap (λ i. driven i P marks (at Halted control d)) more ∙ goes_on j (at Halted control d) (split_by j (passed P (at Halted control d)).status (passed P (at Halted control d)).control (passed P (at Halted control d)).data_now)
  split_by j Ended control d = ended_run (j + k) control d ∙ sym (ap (continued k P marks) (ended_run j control d))
  split_by j (Failed error name) control d = failed_run (j + k) error name control d ∙ sym (ap (continued k P marks) (failed_run j error name control d))

  pub run_splits : (j : ℕ) (s : State) → Splits j s
  run_splits j s = split_by j s.status s.control s.data_now
