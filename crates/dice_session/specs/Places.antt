-- What the debugger tells from places of the machine, and the words that it writes there.
use Rattle.std.specs.Prelude.{ℕ, ◌+◌, ◌-◌, ◌*◌, nat_lt, Bool, true, false, if◌then◌else◌, List, [], ◌∷◌, ◌++◌, codes}
use Rattle.std.specs.Fmt.{decimal}
use Rattle.console_service.specs.declared.memory_map.TheConstants.{CODE_BYTE, CODE_WORD, MEMORY_END_BYTE}
use Rattle.pascal_semantics.specs.declared.form.Statement.{Statement}
use Rattle.pascal_semantics.specs.Charge.{charge_of, program_charge}
use Rattle.pascal_semantics.specs.Valid.{program_name}
use Rattle.pdp11_machine.specs.State.{MachineState, with_word, with_reg}
use Rattle.target_monitor.specs.declared.gates.GoEnd.{GoEnd}
use Rattle.target_monitor.specs.declared.gates.GoEnd.TheVariants.{Counted, AtBreak, Ended, Error}
use Rattle.dice_session.specs.World.{reply_line}

-- the statement whose block a word number lies in, among those that begin behind `finish`; 0 behind them all
unfoldable pub name_from : ℕ → List Statement → ℕ → ℕ
name_from finish [] place = 0
name_from finish (s ∷ ss) place =
    if nat_lt place (finish + charge_of s.form) then s.name
    else name_from (finish + charge_of s.form) ss place

-- the same among all blocks of the program, whose own name stands for all words before the statements
abbrev pub name_at : List Statement → ℕ → ℕ
name_at ss place =
    if nat_lt place (CODE_WORD + program_charge) then program_name
    else name_from (CODE_WORD + program_charge) ss place

-- what is told of a run that ended so, with PC at this word number: behind a TRAP, PC is one word past it. Nothing is
-- told of the other ends, which no program comes to
abbrev pub ending_text : List Statement → GoEnd → ℕ → List ℕ
ending_text ss Counted place = reply_line (codes "stopped at " ++ decimal (name_at ss place))
ending_text ss AtBreak place = reply_line (codes "stopped at " ++ decimal (name_at ss place))
ending_text ss Ended place = reply_line (codes "ended")
ending_text ss (Error error) place =
    reply_line (codes "error " ++ (decimal error ++ (codes " at " ++ decimal (name_at ss (place - 1)))))
ending_text ss other place = []

-- a run that ends so comes to the end of the program, or to an error
abbrev pub ends : GoEnd → Bool
ends Ended = true
ends (Error error) = true
ends other = false

-- the machine with these words written from this word number on
unfoldable pub with_words : MachineState → ℕ → List ℕ → MachineState
with_words m place [] = m
with_words m place (w ∷ ws) = with_words (with_word m (2 * place) w) (place + 1) ws

-- the machine ready for the first run: SP at the end of the memory, PC at the begin of the code
abbrev pub with_start : MachineState → MachineState
with_start m = with_reg (with_reg m 6 MEMORY_END_BYTE) 7 CODE_BYTE
