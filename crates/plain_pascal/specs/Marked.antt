-- The pauses of a run with marks: a break, and before that no room for output; and how a run has ended.
use Rattle.std.specs.Prelude.{ℕ, zero, suc, Bool, true, false, nat_le, length, Option, Some, None}
use Rattle.plain_machine.specs.Plain.{State, Goes, Ended, Failed, Overflowed, Stuck}
use Rattle.plain_pascal.specs.Run.{Marks, full_output, Ending, Stopped, AtBreak, Full, AtEnd, InError}
use Rattle.plain_pascal.specs.Blocks.{Path, Store}

pub data Pause : Type 0 where
  Break : Pause
  NoRoom : Pause

-- a break is tried first
abbrev pub pause_by : Bool → Bool → Option Pause
pause_by true full = Some Break
pause_by false true = Some NoRoom
pause_by false false = None

abbrev pub is_full : Store → Bool
is_full s = nat_le full_output (length s.data_now.output)

abbrev pub pauses_of : Marks → ℕ → Store → Option Pause
pauses_of marks n s = pause_by (marks.breaks n) (is_full s)

abbrev pub paused_end : Option Pause → ℕ → Ending
paused_end (Some Break) n = AtBreak n
paused_end (Some NoRoom) n = Full n
paused_end None n = Stopped n

-- with so many gates still to pass
abbrev pub gate_end : ℕ → Option Pause → ℕ → Ending
gate_end zero pause n = Stopped n
gate_end (suc left) pause n = paused_end pause n

abbrev pub ending_of : Marks → ℕ → State Path Store → Ending
ending_of marks left (Goes s) = gate_end left (pauses_of marks s.name s.data_now) s.name
ending_of marks left (Ended n d) = AtEnd
ending_of marks left (Failed e n d) = InError e n
ending_of marks left (Overflowed r a d) = InError 8 a.name
ending_of marks left Stuck = Stopped 0
