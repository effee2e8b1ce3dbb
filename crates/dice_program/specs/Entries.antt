-- The commands of a script: its lines are cut into command lines, each with the lines that are its text.
use Rattle.std.specs.Prelude.{◌≡◌, ℕ, ◌+◌, if◌then◌else◌, List, [], ◌∷◌, ◌++◌, codes, bytes_eq}
use Rattle.dice_command.specs.declared.command.Command.{Command}
use Rattle.dice_command.specs.Command.{IsCommandOf, takes_text, ends_script}

-- a command line, and the text that it takes, which is empty for most
pub record Entry : Type 0 where
  pub line : List ℕ
  pub text : List ℕ

-- where a script is: before a command line; in the text of a line, behind this front of it; or behind `quit`
pub data Position : Type 0 where
  Between : Position
  Inside : (line text : List ℕ) → Position
  Behind : Position

-- the line that ends a text
abbrev pub end_line : List ℕ
end_line = codes "."

-- the lines that a command line alone makes whole, and where the script is behind it
abbrev pub command_entries : List ℕ → List Entry
command_entries line = if takes_text line then [] else (record { line = line; text = [] } ∷ [])

abbrev pub command_position : List ℕ → Position
command_position line =
    if takes_text line then Inside line [] else if ends_script line then Behind else Between

-- the same of the next line, wherever the script is; behind `quit` nothing is read
abbrev pub line_entries : Position → List ℕ → List Entry
line_entries Between next = command_entries next
line_entries (Inside line text) next =
    if bytes_eq next end_line then (record { line = line; text = text } ∷ []) else []
line_entries Behind next = []

abbrev pub line_position : Position → List ℕ → Position
line_position Between next = command_position next
line_position (Inside line text) next =
    if bytes_eq next end_line then Between else Inside line (text ++ (next ++ 10 ∷ []))
line_position Behind next = Behind

-- the same of these lines, one after the other
abbrev pub entries_from : Position → List (List ℕ) → List Entry
entries_from at [] = []
entries_from at (l ∷ ls) = line_entries at l ++ entries_from (line_position at l) ls

abbrev pub position_after : Position → List (List ℕ) → Position
position_after at [] = at
position_after at (l ∷ ls) = position_after (line_position at l) ls

-- lines from the begin of a script on; a text that is open is left out
abbrev pub whole_entries : List (List ℕ) → List Entry
whole_entries lines = entries_from Between lines

abbrev pub position_of : List (List ℕ) → Position
position_of lines = position_after Between lines

-- at the end of a script, a text that is open is ended
abbrev pub open_entries : Position → List Entry
open_entries (Inside line text) = record { line = line; text = text } ∷ []
open_entries other = []

-- all lines of a script
abbrev pub script_entries : List (List ℕ) → List Entry
script_entries lines = whole_entries lines ++ open_entries (position_of lines)

-- one of the lines is `quit`, as a command line
abbrev pub HasQuit : List (List ℕ) → Type 0
HasQuit lines = position_of lines ≡ Behind

-- these are the commands of the entries, one by one
abbrev pub AreCommandsOf : List Entry → List Command → Type 0
AreCommandsOf [] [] = Unit {0}
AreCommandsOf [] (c ∷ cs) = ⊥
AreCommandsOf (e ∷ es) [] = ⊥
AreCommandsOf (e ∷ es) (c ∷ cs) = IsCommandOf e.line e.text c × AreCommandsOf es cs
