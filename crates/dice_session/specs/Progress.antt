-- How far a program is, as the session keeps it: the four statuses of the plain machine in three.
use Rattle.std.specs.Prelude.{Bool, true, false}
use Rattle.pascal_semantics.specs.State.{Status, NotStarted, Halted, Ended, Failed}
use Rattle.dice_session.specs.declared.progress.Progress.{Progress}
use Rattle.dice_session.specs.declared.progress.Progress.TheVariants as progress

-- how far a program with this status is
abbrev pub progress_of : Status → Progress
progress_of NotStarted = progress.NotStarted
progress_of Halted = progress.Halted
progress_of Ended = progress.Over
progress_of (Failed error name) = progress.Over

-- the program has ended, or is in error: no run goes on from there
abbrev pub is_over : Progress → Bool
is_over progress.Over = true
is_over _ = false

-- the program is stopped at a statement
abbrev pub is_halted : Progress → Bool
is_halted progress.Halted = true
is_halted _ = false

-- how far a program is after a run, which has come to its end or to an error, or has not
abbrev pub progress_after : Bool → Progress
progress_after true = progress.Over
progress_after false = progress.Halted
