-- What one turn of a run reads, does and writes.
use Rattle.std.specs.Prelude.{◌≡◌, ◌<◌, ◌≤◌, ◌⊎◌, ℕ, Bool, true, false, List, [], ◌∷◌, length, Result, Ok, Err}
use Rattle.std.specs.declared.option.Option.{Option}
use Rattle.std.specs.Io.KnownBytes.{Keeps, Appends, Consumes}
use Rattle.dice_base.specs.Lines.{some_line}
use Rattle.dice_base.specs.Part.{WritesPart}
use Rattle.script_lines.specs.Front.{strip}
use Rattle.script_lines.specs.Took.{LineRead, WholeLine, LastLine, PastRoom, Broken}
use Rattle.script_lines.specs.declared.line.LineFault.{LineFault}
use Rattle.script_lines.specs.declared.line.LineFault.TheVariants.{SourceFailed}
use Rattle.script_lines.specs.declared.line.LineFault.TheVariants as line
use Rattle.pdp11_machine.specs.State.{MachineState}
use Rattle.dice_command.specs.declared.command.Command.{Command}
use Rattle.dice_command.specs.Command.{IsCommandOf, ends_script}
use Rattle.dice_session.specs.declared.session.Session.{Session}
use Rattle.dice_session.specs.World.{World, reply_of, replies_from, world_after}
use Rattle.dice_session.specs.SessionOf.{IsSessionOf}
use Rattle.dice_program.specs.Entries.{Entry, Position, Behind, entries_from, position_after, line_entries, line_position, AreCommandsOf}
use Rattle.dice_program.specs.Kept.{HasText}
use Rattle.dice_program.specs.Script.{lines_in}
use Rattle.dice_program.specs.declared.serve.Turn.{Turn}
use Rattle.dice_program.specs.declared.serve.Turn.TheVariants.{On, Quit, Last, TooFar}
use Rattle.dice_program.specs.declared.serve.Ending.{Ending}
use Rattle.dice_program.specs.declared.serve.Ending.TheVariants.{Done, TooMany}
use Rattle.dice_program.specs.declared.serve.Fault.{Fault}
use Rattle.dice_program.specs.declared.serve.Fault.TheVariants.{ReadFault, WriteFault, NoMemory}

-- a line and its text were read as a command, which was carried out and answered
pub record Answered
    (w : World) (e : Entry) (session : Session) (machine : MachineState)
    (held held_then : Option (List ℕ)) : Type 0 where
  pub command : Command
  pub reads : IsCommandOf e.line e.text command
  pub wrote : Appends held held_then (reply_of w command).text
  pub lives : IsSessionOf (reply_of w command).world session machine

-- they were read as a command, which was carried out and not answered whole
pub record CutShort
    (w : World) (e : Entry) (session : Session) (machine : MachineState)
    (held held_then : Option (List ℕ)) : Type 0 where
  pub command : Command
  pub reads : IsCommandOf e.line e.text command
  pub wrote : WritesPart held held_then (reply_of w command).text
  pub lives : IsSessionOf (reply_of w command).world session machine

-- what became of a line and its text, and whether it was `quit`
abbrev pub Answers : Result Bool Fault → World → Entry → Session → MachineState
    → Option (List ℕ) → Option (List ℕ) → Type 0
Answers (Ok quit) w e session machine held held_then =
    Answered w e session machine held held_then × (quit ≡ ends_script e.line)
Answers (Err ReadFault) w e session machine held held_then = ⊥
Answers (Err WriteFault) w e session machine held held_then =
    CutShort w e session machine held held_then
Answers (Err NoMemory) w e session machine held held_then = Keeps held held_then

-- all of these were carried out and answered
pub record AnsweredAll
    (w : World) (entries : List Entry) (session : Session) (machine : MachineState)
    (held held_then : Option (List ℕ)) : Type 0 where
  pub commands : List Command
  pub reads : AreCommandsOf entries commands
  pub wrote : Appends held held_then (replies_from w commands)
  pub lives : IsSessionOf (world_after w commands) session machine

-- there is one, and it was not answered whole
pub record CutIn
    (w : World) (entries : List Entry) (session : Session) (machine : MachineState)
    (held held_then : Option (List ℕ)) : Type 0 where
  pub last : Entry
  pub is : entries ≡ last ∷ []
  pub cut : CutShort w last session machine held held_then

-- what became of the entries, of which there is one at most
abbrev pub AnswersAll : {A : Type 0} → Result A Fault → World → List Entry → Session → MachineState
    → Option (List ℕ) → Option (List ℕ) → Type 0
AnswersAll (Ok a) w entries session machine held held_then =
    AnsweredAll w entries session machine held held_then
AnswersAll (Err ReadFault) w entries session machine held held_then = ⊥
AnswersAll (Err WriteFault) w entries session machine held held_then =
    CutIn w entries session machine held held_then
AnswersAll (Err NoMemory) w entries session machine held held_then = Keeps held held_then

-- where the script is then: this text is open, or none, or the last line was `quit`
abbrev pub IsQuit : Bool → Position → Type 0
IsQuit true at = at ≡ Behind
IsQuit false at = ¬ (at ≡ Behind)

abbrev pub LeavesAt : Result Bool Fault → Position → Option (List ℕ) → Type 0
LeavesAt (Ok quit) at text = HasText at text × IsQuit quit at
LeavesAt (Err fault) at text = Unit {0}

-- nothing was answered
pub record Unanswered
    (w : World) (session : Session) (machine : MachineState)
    (held held_then : Option (List ℕ)) : Type 0 where
  pub kept : Keeps held held_then
  pub lives : IsSessionOf w session machine

-- no more than one line was taken, whole or in part
pub record TakesOneLine (read : LineRead) : Type 0 where
  pub taken : List ℕ
  pub took : Consumes read.left read.left_then taken
  pub one : length (lines_in taken) ≤ 1

-- a turn: the world and the position before it; session, machine and text behind it; and what the sink holds
pub record Around : Type 0 where
  pub world : World
  pub at : Position
  pub session : Session
  pub machine : MachineState
  pub text : Option (List ℕ)
  pub held : Option (List ℕ)
  pub held_then : Option (List ℕ)

-- the next line was acted on
pub record ActsOn (line : List ℕ) (quit : Bool) (a : Around) : Type 0 where
  pub answered : AnsweredAll a.world (line_entries a.at line) a.session a.machine a.held a.held_then
  pub text : HasText (line_position a.at line) a.text
  pub ended : IsQuit quit (line_position a.at line)

-- the last line was acted on, if there is one
pub record ActsOnLast (lines : List (List ℕ)) (a : Around) : Type 0 where
  pub answered : AnsweredAll a.world (entries_from a.at lines) a.session a.machine a.held a.held_then
  pub text : HasText (position_after a.at lines) a.text

-- what became of a turn: what was read of the script, and what was answered
abbrev pub Turns : Result Turn Fault → LineRead → Around → Type 0
Turns (Ok On) read a = (whole : WholeLine read) × ActsOn (strip whole.line) false a
Turns (Ok Quit) read a = (whole : WholeLine read) × ActsOn (strip whole.line) true a
Turns (Ok Last) read a = (end : LastLine read) × ActsOnLast (some_line end.line) a
Turns (Ok TooFar) read a =
    PastRoom read × Unanswered a.world a.session a.machine a.held a.held_then
Turns (Err ReadFault) read a =
    Broken read × Unanswered a.world a.session a.machine a.held a.held_then
Turns (Err WriteFault) read a =
    ((whole : WholeLine read)
    × CutIn a.world (line_entries a.at (strip whole.line)) a.session a.machine a.held a.held_then)
    ⊎ ((end : LastLine read)
    × CutIn a.world (entries_from a.at (some_line end.line)) a.session a.machine a.held a.held_then)
Turns (Err NoMemory) read a = TakesOneLine read × Keeps a.held a.held_then

-- where no more lines are acted on: the script has one more, or it is at its end
abbrev pub IsMore : LineRead → Type 0
IsMore read = PastRoom read ⊎ (WholeLine read ⊎ ((end : LastLine read) × (0 < length end.line)))

abbrev pub IsNoMore : LineRead → Type 0
IsNoMore read = (end : LastLine read) × (end.line ≡ [])

abbrev pub Finals : Result Ending LineFault → LineRead → Type 0
Finals (Ok Done) read = IsNoMore read
Finals (Ok TooMany) read = IsMore read
Finals (Err fault) read = Broken read

-- why a line could not be read
abbrev pub fault_of : LineFault → Fault
fault_of SourceFailed = ReadFault
fault_of line.NoMemory = NoMemory
