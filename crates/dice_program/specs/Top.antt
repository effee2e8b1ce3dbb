-- What a run of the program reads, writes and leaves, status by status.
use Rattle.std.specs.Prelude.{◌≡◌, ℕ, ◌+◌, ◌<◌, ◌≤◌, ◌⊎◌, List, [], ◌∷◌, ◌++◌, length, take, codes, Result, Ok, Err}
use Rattle.std.specs.Io.KnownBytes.{Appends, Consumes}
use Rattle.dice_base.specs.Causes.{Rose}
use Rattle.dice_base.specs.Part.{WritesPart}
use Rattle.pdp11_machine.specs.State.{MachineState}
use Rattle.dice_command.specs.declared.command.Command.{Command}
use Rattle.dice_session.specs.World.{reply_line, reply_of, transcript_of, last_world}
use Rattle.dice_session.specs.Simulates.{Simulates}
use Rattle.dice_program.specs.Ends.{Input, Output}
use Rattle.dice_program.specs.Entries.{whole_entries, script_entries, HasQuit, AreCommandsOf}
use Rattle.dice_program.specs.Script.{ended_lines, lines_in, acted, IsTooLong}
use Rattle.dice_program.specs.declared.limits.TheConstants.{MAX_BYTES, MAX_LINES}
use Rattle.dice_program.specs.Status.{number_of, message_of}
use Rattle.dice_program.specs.Taking.{ScriptPart, TakesOnly, TakesAll, TakesToQuit, Begins}
use Rattle.dice_program.specs.declared.serve.Ending.{Ending}
use Rattle.dice_program.specs.declared.serve.Ending.TheVariants as ending
use Rattle.dice_program.specs.declared.serve.Fault.{Fault}
use Rattle.dice_program.specs.declared.serve.Fault.TheVariants as fault
use Rattle.dice_program.specs.declared.status.Status.{Status}
use Rattle.dice_program.specs.declared.status.Status.TheVariants.{Done, Usage, ReadFault, WriteFault, TooMany, NoMemory}

-- the script was read to its end or to `quit`: the transcript is written, and the machine stands for the last state
pub record IsDone (input : Input) (output : Output) (machine : MachineState) : Type 0 where
  pub part : ScriptPart input.left input.left_then
  pub commands : List Command
  pub read : AreCommandsOf (script_entries (acted part.script)) commands
  pub wrote : Appends output.held output.held_then (transcript_of commands)
  pub stands : Simulates (last_world commands) machine
  pub ended : TakesToQuit part.taken ⊎ TakesAll part

-- what was taken is too long, by one byte or by one line
pub record IsJustTooLong (taken : List ℕ) : Type 0 where
  pub long : IsTooLong taken
  pub bytes : length taken ≤ MAX_BYTES + 1
  pub lines : length (lines_in taken) ≤ MAX_LINES

-- the script is too long, and `quit` stands nowhere before the place where it is
pub record IsTooMany (input : Input) (output : Output) (machine : MachineState) : Type 0 where
  pub part : ScriptPart input.left input.left_then
  pub commands : List Command
  pub read : AreCommandsOf (whole_entries (acted part.script)) commands
  pub wrote : Appends output.held output.held_then (transcript_of commands)
  pub stands : Simulates (last_world commands) machine
  pub long : IsJustTooLong part.taken
  pub going : ¬ (HasQuit (acted part.script))

-- the source failed: each whole line that was taken is answered
pub record IsBroken (input : Input) (output : Output) (machine : MachineState) : Type 0 where
  pub taken : List ℕ
  pub took : Consumes input.left input.left_then taken
  pub commands : List Command
  pub read : AreCommandsOf (whole_entries (ended_lines taken)) commands
  pub wrote : Appends output.held output.held_then (transcript_of commands)
  pub stands : Simulates (last_world commands) machine

-- a front of a text, and not all of it, was written behind another
abbrev pub AppendsPart : Output → List ℕ → List ℕ → Type 0
AppendsPart output whole cut =
    (n : ℕ) × (n < length cut) × Appends output.held output.held_then (whole ++ take n cut)

-- the sink failed: the replies to all commands but the last are written, and of that one's a part; nothing behind its
-- line was taken, unless that is the end of the script
pub record IsCut (input : Input) (output : Output) (machine : MachineState) : Type 0 where
  pub part : ScriptPart input.left input.left_then
  pub commands : List Command
  pub last : Command
  pub begins : Begins part.script (commands ++ last ∷ [])
  pub wrote : AppendsPart output (transcript_of commands) (reply_of (last_world commands) last).text
  pub stands : Simulates (last_world (commands ++ last ∷ [])) machine
  pub stopped : TakesOnly part.taken (commands ++ last ∷ []) ⊎ TakesAll part

-- memory was refused behind these commands: all of them are answered, and at most one line more was taken from
pub record IsShort (input : Input) (output : Output) : Type 0 where
  pub part : ScriptPart input.left input.left_then
  pub commands : List Command
  pub lines : List (List ℕ)
  pub rest : List (List ℕ)
  pub parts : acted part.script ≡ lines ++ rest
  pub read : AreCommandsOf (whole_entries lines) commands
  pub wrote : Appends output.held output.held_then (transcript_of commands)
  pub more : List (List ℕ)
  pub taken : lines_in part.taken ≡ lines ++ more
  pub one : length more ≤ 1

-- how a run over a script ended
abbrev pub Serves : Result Ending Fault → Input → Output → MachineState → Type 0
Serves (Ok ending.Done) input output machine = IsDone input output machine
Serves (Ok ending.TooMany) input output machine = IsTooMany input output machine
Serves (Err fault.ReadFault) input output machine = IsBroken input output machine
Serves (Err fault.WriteFault) input output machine = IsCut input output machine
Serves (Err fault.NoMemory) input output machine = IsShort input output

abbrev pub usage_line : List ℕ
usage_line = reply_line (codes "usage: dice11 [--plan TEXT or --big N]")

-- the usage line was written, and nothing read
pub record IsUsage (input : Input) (output : Output) (now then : MachineState) : Type 0 where
  pub wrote : Appends output.held output.held_then usage_line
  pub unread : input.left_then ≡ input.left
  pub kept : then ≡ now

-- the sink failed in the usage line
pub record IsUsageCut (input : Input) (output : Output) (now then : MachineState) : Type 0 where
  pub wrote : WritesPart output.held output.held_then usage_line
  pub rose : Rose output.faults output.faults_then
  pub unread : input.left_then ≡ input.left
  pub kept : then ≡ now

-- with these words on the command line, a run ended so
abbrev pub Ended : {Word : Type 0} → List Word → Status → Input → Output
    → MachineState → MachineState → Type 0
Ended [] Done input output now then = IsDone input output then
Ended [] TooMany input output now then = IsTooMany input output then
Ended [] ReadFault input output now then =
    IsBroken input output then × Rose input.faults input.faults_then
Ended [] WriteFault input output now then =
    IsCut input output then × Rose output.faults output.faults_then
Ended [] NoMemory input output now then = IsShort input output
Ended [] Usage input output now then = ⊥
Ended (w ∷ ws) Usage input output now then = IsUsage input output now then
Ended (w ∷ ws) WriteFault input output now then = IsUsageCut input output now then
Ended (w ∷ ws) other input output now then = ⊥

-- a status was told: its line was written whole, or the sink failed in it
abbrev pub Tells : Output → Status → Type 0
Tells output status =
    Appends output.held output.held_then (message_of status)
    ⊎ (WritesPart output.held output.held_then (message_of status)
    × Rose output.faults output.faults_then)

-- The run ended so, with these words on the command line. The number is that of its status, which is also told in words.
pub record EndsWith
    {Word : Type 0} (words : List Word) (number : ℕ) (input : Input) (output errors : Output)
    (now then : MachineState) : Type 0 where
  pub status : Status
  pub ended : Ended words status input output now then
  pub is : number ≡ number_of status
  pub told : Tells errors status
