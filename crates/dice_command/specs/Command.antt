-- Which command a line is, with the text that it takes.
use Rattle.std.specs.Prelude.{◌≡◌, ℕ, ◌≤◌, Bool, true, false, List, Result, Ok, Err}
use Rattle.pascal_scanner.specs.declared.fault.ScanFault.TheVariants as scan
use Rattle.token_reader.specs.declared.fault.ParseFault.TheVariants as parse
use Rattle.pascal_tree.specs.declared.program.Tree.{Tree}
use Rattle.pascal_tree.specs.declared.stmt.Stmt.{Stmt}
use Rattle.pascal_tree.specs.Formed.{is_formed_stmt}
use Rattle.dice_command.specs.declared.command.CommandFault.{CommandFault}
use Rattle.dice_command.specs.declared.command.CommandFault.TheVariants.{Scan, Parse}
use Rattle.dice_command.specs.declared.command.Command.{Command}
use Rattle.dice_command.specs.declared.command.Command.TheVariants as command
use Rattle.dice_command.specs.Line.{Asked, Blank, Load, Listing, Replace, Apply, Run, Quit, Unbuilt, Bad, asked_of}
use Rattle.dice_command.specs.Reading.{IsProgramText, IsStmtText}

-- want of memory is told of no line
abbrev pub IsTold : CommandFault → Type 0
IsTold (Scan scan.NoMemory) = ⊥
IsTold (Parse parse.NoMemory) = ⊥
IsTold fault = Unit {0}

-- the command of a tree, or the refusal of the text that is none
abbrev pub command_with : {A : Type 0} → (A → Command) → Result A CommandFault → Command
command_with make (Ok tree) = make tree
command_with make (Err fault) = command.Bad fault

-- what a line asks for, with this text behind it, is this command
abbrev pub IsAskedFor : Asked → List ℕ → Command → Type 0
IsAskedFor Blank body c = c ≡ command.Blank
IsAskedFor Load body c =
    (read : Result Tree CommandFault) × IsProgramText body read × (c ≡ command_with (λ p. command.Load p) read)
IsAskedFor Listing body c = c ≡ command.List
IsAskedFor (Replace name text) body c =
    (read : Result Stmt CommandFault) × IsStmtText text read
    × (c ≡ command_with (λ s. command.Replace (record { 0 = name }) s) read)
IsAskedFor Apply body c = c ≡ command.Apply
IsAskedFor (Run k) body c = c ≡ command.Run k
IsAskedFor Quit body c = c ≡ command.Quit
IsAskedFor Unbuilt body c = c ≡ command.Unbuilt
IsAskedFor (Bad fault) body c = c ≡ command.Bad fault

-- the line, with this text behind it, is this command
abbrev pub IsCommandOf : List ℕ → List ℕ → Command → Type 0
IsCommandOf line body c = IsAskedFor (asked_of line) body c

abbrev pub is_load : Asked → Bool
is_load Load = true
is_load other = false

-- the lines behind this one are its text, up to the end line
abbrev pub takes_text : List ℕ → Bool
takes_text line = is_load (asked_of line)

abbrev pub asks_to_quit : Asked → Bool
asks_to_quit Quit = true
asks_to_quit other = false

-- the line ends the script
abbrev pub ends_script : List ℕ → Bool
ends_script line = asks_to_quit (asked_of line)

-- the same of its command
abbrev pub is_quit : Command → Bool
is_quit command.Quit = true
is_quit other = false

-- numbers are in range, a statement is one that some text spells, and a refusal is none for want of memory
abbrev pub IsWellRead : Command → Type 0
IsWellRead (command.Replace name s) =
    (1 ≤ name.0) × (name.0 ≤ 1000000) × (is_formed_stmt s ≡ true)
IsWellRead (command.Run k) = (1 ≤ k) × (k ≤ 1000000)
IsWellRead (command.Bad fault) = IsTold fault
IsWellRead other = Unit {0}
