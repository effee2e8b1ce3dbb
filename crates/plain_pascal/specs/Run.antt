-- Runs of the plain machine: gates are passed, statement by statement.
use Rattle.std.specs.Prelude.{ℕ, zero, suc, ◌-◌, Bool, true, false, nat_le, List, [], ◌∷◌, ◌++◌, length, Option, Some, None}
use Rattle.plain_pascal.specs.Program.{Program, RoutineRow, routine_of}
use Rattle.plain_pascal.specs.State.{Status, NotStarted, Halted, Ended, Failed, PendingFrame, Control, Data, State}
use Rattle.plain_pascal.specs.Step.{small_step, at_gate}

abbrev pub no_frames : List PendingFrame → Bool
no_frames [] = true
no_frames (f ∷ fs) = false

abbrev pub newest_rests : List Control → Bool
newest_rests [] = true
newest_rests (c ∷ older) = no_frames c.frames

abbrev pub rests_by : Status → List Control → Bool
rests_by Halted control = newest_rests control
rests_by other control = true

-- the machine stands before a gate, or does not go on
abbrev pub rests : State → Bool
rests s = rests_by s.status s.control

abbrev pub unless : Bool → State → (State → State) → State
unless true s on = s
unless false s on = on s

-- on to a rest, in so many steps at the most
unfoldable pub settled : ℕ → Program → State → State
settled zero P s = s
settled (suc n) P s = unless (rests s) s (λ t. settled n P (small_step P t))

-- more steps than any statement takes
abbrev pub steps_limit : ℕ
steps_limit = 1000000

-- how a run ends
pub data Ending : Type 0 where
  Stopped : (name : ℕ) → Ending
  AtBreak : (name : ℕ) → Ending
  Full : (name : ℕ) → Ending
  AtEnd : Ending
  InError : (error name : ℕ) → Ending

-- the passed gates with a trace, the ending and the last state; what the run wrote is that state's output
pub record RunResult : Type 0 where
  pub events : List ℕ
  pub ending : Ending
  pub last : State

-- gates with a break and with a trace
pub record Marks : Type 0 where
  pub breaks : ℕ → Bool
  pub traces : ℕ → Bool

-- a run stops at a gate at which it has written so many bytes
abbrev pub full_output : ℕ
full_output = 1048576

abbrev pub is_full : State → Bool
is_full s = nat_le full_output (length s.data_now.output)

abbrev pub event : Bool → ℕ → List ℕ
event true n = n ∷ []
event false n = []

abbrev pub with_event : List ℕ → RunResult → RunResult
with_event ns r = record r { events = ns ++ r.events }

abbrev pub ends : Ending → State → RunResult
ends ending s = record { events = []; ending = ending; last = s }

abbrev pub over_by : Status → Option Ending
over_by Ended = Some AtEnd
over_by (Failed e n) = Some (InError e n)
over_by other = None

abbrev pub newest_statement : List Control → ℕ
newest_statement [] = 0
newest_statement (c ∷ older) = c.statement

abbrev pub next_gate : State → ℕ
next_gate s = newest_statement s.control

-- the gate is passed, on to the next one
abbrev pub passed : Program → State → State
passed P s = settled steps_limit P (small_step P s)

abbrev pub unless_over : Option Ending → State → (State → RunResult) → RunResult
unless_over (Some e) s on = ends e s
unless_over None s on = on s

abbrev pub unless_held : Bool → Bool → State → (State → RunResult) → RunResult
unless_held true full s on = ends (AtBreak (next_gate s)) s
unless_held false true s on = ends (Full (next_gate s)) s
unless_held false false s on = on s

-- at a newly reached gate, with so many still to pass
unfoldable pub driven : ℕ → Program → Marks → State → RunResult
driven zero P marks s = unless_over (over_by s.status) s (λ t. ends (Stopped (next_gate t)) t)
driven (suc k) P marks s = unless_over (over_by s.status) s (λ t. unless_held (marks.breaks (next_gate t)) (is_full t) t (λ u. with_event (event (marks.traces (next_gate u)) (next_gate u)) (driven k P marks (passed P u))))

abbrev pub entry_in : Option RoutineRow → ℕ
entry_in None = 0
entry_in (Some r) = r.entry

-- the program's activation is made, before the first gate
abbrev pub started : Program → State → State
started P s = at_gate P (entry_in (routine_of P 1)) [] (record s.data_now { activations = record { routine = 1; static_link = 0; words = []; holds = [] } ∷ [] })

abbrev pub run_by : Status → Program → Marks → ℕ → State → RunResult
run_by NotStarted P marks k s = driven k P marks (started P s)
run_by Halted P marks k s = with_event (event (marks.traces (next_gate s)) (next_gate s)) (driven (k - 1) P marks (passed P s))
run_by other P marks k s = unless_over (over_by s.status) s (λ t. ends AtEnd t)

-- a run begins without output
abbrev pub cleared : Data → Data
cleared d = record d { output = []; drained = 0 }

-- a run of so many gates; the gate before which it is halted is passed first
abbrev pub run_of : Program → Marks → ℕ → State → RunResult
run_of P marks k s = run_by s.status P marks k (record s { data_now = cleared s.data_now })

-- a program that was not started, with these data
abbrev pub fresh : Data → State
fresh d = record { status = NotStarted; control = []; data_now = d }

-- what a run comes to that goes on, with so many gates more, where it was stopped
abbrev pub continued_by : Ending → ℕ → Program → Marks → RunResult → RunResult
continued_by (Stopped n) k P marks r = with_event r.events (driven k P marks r.last)
continued_by other k P marks r = r

abbrev pub continued : ℕ → Program → Marks → RunResult → RunResult
continued k P marks r = continued_by r.ending k P marks r
