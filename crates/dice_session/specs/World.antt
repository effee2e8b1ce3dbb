-- The world of a session, and what a command does to it: the world after it, what is written, and whether the machine
-- is touched. The commands and their replies are the debugger's own; docs/COMMANDS.md has them for its user.
use Rattle.std.specs.Prelude.{ℕ, ◌+◌, ◌-◌, ◌==◌, nat_lt, Bool, true, false, if◌then◌else◌, List, [], ◌∷◌, ◌++◌, length, codes, slice_index, Option, Some, None, Result, Ok, Err}
use Rattle.std.specs.Fmt.{decimal}
use Rattle.pascal_tree.specs.declared.program.Tree.{Tree}
use Rattle.pascal_tree.specs.declared.stmt.Stmt.{Stmt}
use Rattle.pascal_semantics.specs.declared.form.Statement.{Statement}
use Rattle.pascal_semantics.specs.Charge.{program_charge, charges_of}
use Rattle.pascal_semantics.specs.Program.{program_of}
use Rattle.pascal_semantics.specs.State.{Status, NotStarted, Halted, Ended, Failed, Activation, State, loaded_state}
use Rattle.pascal_semantics.specs.Run.{run_of}
use Rattle.pascal_semantics.specs.Valid.{code_room}
use Rattle.pascal_scanner.specs.declared.fault.ScanFault.{ScanFault}
use Rattle.pascal_scanner.specs.declared.fault.ScanFault.TheVariants as scan
use Rattle.token_reader.specs.declared.fault.ParseFault.{ParseFault}
use Rattle.token_reader.specs.declared.fault.ParseFault.TheVariants as parse
use Rattle.simple_form.specs.Simple.{resolution_of}
use Rattle.tree_edit.specs.declared.fault.EditFault.{EditFault}
use Rattle.tree_edit.specs.declared.fault.EditFault.TheVariants as edit
use Rattle.tree_edit.specs.Edited.{replaced_program}
use Rattle.tree_listing.specs.Listing.{listing}
use Rattle.dice_command.specs.declared.command.CommandFault.{CommandFault}
use Rattle.dice_command.specs.declared.command.CommandFault.TheVariants.{LineTooLong, NotACommand, BadNumber, Scan, Parse}
use Rattle.dice_command.specs.declared.command.Command.{Command}
use Rattle.dice_command.specs.declared.command.Command.TheVariants as command
use Rattle.dice_session.specs.Progress.{progress_of, is_over, is_halted}

-- the present program and its state, and the draft, which edits change: trees whose items have names
pub record World : Type 0 where
  pub present : Option Tree
  pub draft : Option Tree
  pub state : State

-- before the first command
abbrev pub empty_world : World
empty_world = record { present = None; draft = None; state = loaded_state }

-- what comes of a command: the world after it, the bytes that are written, and whether it touches the machine. One that
-- does not touch it leaves all registers and all memory as they were.
pub record Reply : Type 0 where
  pub world : World
  pub text : List ℕ
  pub touches : Bool

-- the reply to a command that the session carries out by itself
abbrev pub host_reply : World → List ℕ → Reply
host_reply w text = record { world = w; text = text; touches = false }

-- the reply to a command that loads the machine or runs it
abbrev pub machine_reply : World → List ℕ → Reply
machine_reply w text = record { world = w; text = text; touches = true }

-- a line of a reply
abbrev pub reply_line : List ℕ → List ℕ
reply_line text = text ++ (10 ∷ [])

-- a command that is refused says why, and changes nothing
abbrev pub refusal : World → List ℕ → Reply
refusal w text = host_reply w (reply_line text)

-- a command that needs a program is refused where there is none
abbrev pub if_program : Option Tree → World → (Tree → Reply) → Reply
if_program None w reply = refusal w (codes "no program")
if_program (Some p) w reply = reply p

-- ---- lines that are no commands, and texts that are not read

-- why a text is not cut into tokens, with the place, a byte of the text that is counted from 0
abbrev pub scan_fault_text : ScanFault → List ℕ
scan_fault_text (scan.BadCharacter at) = codes "scan fault character at " ++ decimal at
scan_fault_text (scan.OpenComment at) = codes "scan fault comment at " ++ decimal at
scan_fault_text (scan.OpenString at) = codes "scan fault string at " ++ decimal at
scan_fault_text (scan.NumberTooLarge at) = codes "scan fault number at " ++ decimal at
scan_fault_text scan.TextTooLong = codes "text too long"
scan_fault_text scan.NoMemory = []

-- why tokens are not read; they are counted from 0
abbrev pub parse_fault_text : ParseFault → List ℕ
parse_fault_text (parse.Unexpected token) = codes "parse fault at token " ++ decimal token
parse_fault_text parse.EndsEarly = codes "parse fault end"
parse_fault_text parse.TooDeep = codes "too deep"
parse_fault_text parse.NoMemory = []

-- why a line, or its text, is no command; none is for want of memory, where there is no reply at all
abbrev pub fault_text : CommandFault → List ℕ
fault_text LineTooLong = codes "line too long"
fault_text NotACommand = codes "not a command"
fault_text BadNumber = codes "bad number"
fault_text (Scan fault) = scan_fault_text fault
fault_text (Parse fault) = parse_fault_text fault

-- ---- runs

-- the last byte of a text that is not empty
abbrev pub last_of : List ℕ → ℕ
last_of text = slice_index text (length text - 1)

-- a text, closed by a line end where it has none
abbrev pub whole_lines : List ℕ → List ℕ
whole_lines text = if last_of text == 10 then text else reply_line text

-- what the run wrote, behind a line with its length; nothing where it wrote nothing
abbrev pub written_part : List ℕ → List ℕ
written_part [] = []
written_part (b ∷ bs) =
    reply_line (codes "output " ++ decimal (length (b ∷ bs))) ++ whole_lines (b ∷ bs)

-- the statement of the newest activation, which a program stops at; each program that runs has an activation
abbrev pub newest_name : List Activation → ℕ
newest_name [] = 0
newest_name (a ∷ older) = a.statement

-- how a run ended; none leaves a program that is not started (`Ran`, its field `started`)
abbrev pub ending_of : Status → List Activation → List ℕ
ending_of NotStarted activations = []
ending_of Halted activations = reply_line (codes "stopped at " ++ decimal (newest_name activations))
ending_of Ended activations = reply_line (codes "ended")
ending_of (Failed error name) activations =
    reply_line (codes "error " ++ (decimal error ++ (codes " at " ++ decimal name)))

-- what is written of a run that left this state
abbrev pub run_lines : State → List ℕ
run_lines s = written_part s.output ++ ending_of s.status s.activations

-- the statements that have a block: none of a program that is not built
abbrev pub or_none : Option (List Statement) → List Statement
or_none None = []
or_none (Some ss) = ss

-- the statements of a program that have a block
abbrev pub statements_of : Tree → List Statement
statements_of p = or_none (resolution_of p)

-- the present program ran, and left this state
abbrev pub ran_reply : World → State → Reply
ran_reply w next = machine_reply (record w { state = next }) (run_lines next)

-- a run over so many gates, where the program is not over
abbrev pub run_reply : World → ℕ → Tree → Reply
run_reply w k p =
    if is_over (progress_of w.state.status) then refusal w (codes "already ended")
    else ran_reply w (run_of (program_of (statements_of p)) k w.state)

-- ---- loads

-- `loaded B blocks W words`: all blocks, and the sum of their charges
abbrev pub loaded_line : List Statement → List ℕ
loaded_line ss =
    reply_line (codes "loaded " ++ (decimal (1 + length ss)
    ++ (codes " blocks " ++ (decimal (program_charge + charges_of ss) ++ codes " words"))))

-- what is told of blocks that do not go into the code area
abbrev pub full_words : ℕ → List ℕ
full_words words = codes "code full: " ++ (decimal words ++ codes " words")

-- the same of the blocks of these statements
abbrev pub full_text : List Statement → List ℕ
full_text ss = full_words (program_charge + charges_of ss)

-- a load is refused where the blocks do not fit
abbrev pub if_fits : List Statement → World → Reply → Reply
if_fits ss w reply =
    if nat_lt code_room (program_charge + charges_of ss) then refusal w (full_text ss) else reply

-- this program is the present one, and not started
abbrev pub with_program : World → Tree → World
with_program w p = record w { present = Some p; state = loaded_state }

-- the machine is loaded with this program
abbrev pub begun_reply : World → Tree → List Statement → Reply
begun_reply w p ss = machine_reply (with_program w p) (loaded_line ss)

-- a text is loaded: the program is the present one and the draft
abbrev pub load_reply : World → Tree → List Statement → Reply
load_reply w p ss =
    if_fits ss w (machine_reply (record (with_program w p) { draft = Some p }) (loaded_line ss))

-- a program is refused that is of no form that is built
abbrev pub if_built : Option (List Statement) → World → (List Statement → Reply) → Reply
if_built None w reply = refusal w (codes "not built")
if_built (Some ss) w reply = reply ss

-- the program of a text is loaded, where it is built
abbrev pub program_reply : World → Tree → Reply
program_reply w p = if_built (resolution_of p) w (load_reply w p)

-- not yet where the present program is stopped at a statement
abbrev pub unless_halted : World → Reply → Reply
unless_halted w reply =
    if is_halted (progress_of w.state.status) then refusal w (codes "not built") else reply

-- the draft becomes the present program
abbrev pub apply_fitting : World → Tree → List Statement → Reply
apply_fitting w p ss = if_fits ss w (unless_halted w (begun_reply w p ss))

-- the draft becomes the present program, where it is built
abbrev pub apply_reply : World → Tree → Reply
apply_reply w p = if_built (resolution_of p) w (apply_fitting w p)

-- ---- the draft

-- the draft is listed, with its names
abbrev pub list_reply : World → Tree → Reply
list_reply w p = host_reply w (listing true p)

-- why an edit is refused; none is for want of memory, where there is no reply at all
abbrev pub edit_fault_text : EditFault → List ℕ
edit_fault_text (edit.NoSuchName name) = codes "no such name " ++ decimal name.0
edit_fault_text (edit.WrongKind name) = codes "wrong kind " ++ decimal name.0
edit_fault_text edit.TooDeep = codes "too deep"
edit_fault_text edit.NamesSpent = codes "names spent"
edit_fault_text edit.NoMemory = []

-- what comes of an edit: another draft, or why not
abbrev pub edit_reply : World → ℕ → Result Tree EditFault → Reply
edit_reply w name (Ok p) =
    host_reply (record w { draft = Some p }) (reply_line (codes "edited " ++ decimal name))
edit_reply w name (Err fault) = refusal w (edit_fault_text fault)

-- a statement is put in the place of another in this draft
abbrev pub replace_reply : World → ℕ → Stmt → Tree → Reply
replace_reply w name s p = edit_reply w name (replaced_program name s p)

-- ---- all commands

-- what comes of a command
unfoldable pub reply_of : World → Command → Reply
reply_of w command.Blank = host_reply w []
reply_of w (command.Load p) = program_reply w p
reply_of w command.List = if_program w.draft w (list_reply w)
reply_of w (command.Replace name s) = if_program w.draft w (replace_reply w name.0 s)
reply_of w command.Apply = if_program w.draft w (apply_reply w)
reply_of w (command.Run k) = if_program w.present w (run_reply w k)
reply_of w command.Quit = host_reply w []
reply_of w command.Unbuilt = refusal w (codes "not built")
reply_of w (command.Bad fault) = refusal w (fault_text fault)

-- what is written of these commands, from this world on
abbrev pub replies_from : World → List Command → List ℕ
replies_from w [] = []
replies_from w (c ∷ cs) = (reply_of w c).text ++ replies_from (reply_of w c).world cs

-- the world after these commands
abbrev pub world_after : World → List Command → World
world_after w [] = w
world_after w (c ∷ cs) = world_after (reply_of w c).world cs

-- what is written of a whole session of these commands
abbrev pub transcript_of : List Command → List ℕ
transcript_of commands = replies_from empty_world commands

-- the world after a whole session of these commands
abbrev pub last_world : List Command → World
last_world commands = world_after empty_world commands
