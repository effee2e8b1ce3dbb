-- Runs of the plain machine: gates are passed, statement by statement.
use Rattle.std.specs.Prelude.{ℕ, zero, suc, Bool, true, false, List, [], ◌∷◌}
use Rattle.pascal_semantics.specs.Program.{Program}
use Rattle.pascal_semantics.specs.State.{Status, NotStarted, Halted, PendingFrame, Activation, State}
use Rattle.pascal_semantics.specs.Step.{small_step, arrived}

-- no node is under evaluation
abbrev pub no_frames : List PendingFrame → Bool
no_frames [] = true
no_frames (f ∷ fs) = false

-- the newest activation stands before a gate
abbrev pub newest_rests : List Activation → Bool
newest_rests [] = true
newest_rests (a ∷ older) = no_frames a.frames

-- the same by status and activations
abbrev pub rests_by : Status → List Activation → Bool
rests_by Halted activations = newest_rests activations
rests_by other activations = true

-- the machine stands before a gate, or does not go on
abbrev pub rests : State → Bool
rests s = rests_by s.status s.activations

-- the state, or else what it goes on to
abbrev pub unless : Bool → State → (State → State) → State
unless true s on = s
unless false s on = on s

-- on to a rest, in so many steps at the most
unfoldable pub settled : ℕ → Program → State → State
settled zero P s = s
settled (suc n) P s = unless (rests s) s (λ t. settled n P (small_step P t))

-- more steps than any statement takes
abbrev pub steps_limit : ℕ
steps_limit = 1000000

-- the same by the status
abbrev pub is_over_by : Status → Bool
is_over_by Halted = false
is_over_by other = true

-- no run goes on from there: before the start, at the end, in an error
abbrev pub is_over : State → Bool
is_over s = is_over_by s.status

-- from a gate that was newly reached, so many gates are still passed
unfoldable pub driven : ℕ → Program → State → State
driven zero P s = s
driven (suc k) P s = unless (is_over s) s (λ t. driven k P (settled steps_limit P (small_step P t)))

-- the program's activation is made, before the first gate
abbrev pub started_by : Status → Program → State → State
started_by NotStarted P s =
    arrived P.entry (record { routine = 1; statement = 0; frames = [] }) [] (record s { status = Halted })
started_by other P s = s

-- the same as a state is, which stays where it was started before
abbrev pub started : Program → State → State
started P s = started_by s.status P s

-- the last state of a run of so many gates, which begins with no output
abbrev pub run_of : Program → ℕ → State → State
run_of P k s = driven k P (started P (record s { output = [] }))
