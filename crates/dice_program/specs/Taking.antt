-- How far a run took its script. Each reply is written before the next line is read, so that a user at a terminal gets
-- it: every ending says that nothing was taken behind the last line that was acted on.
use Rattle.std.specs.Prelude.{◌≡◌, ◌⊎◌, ℕ, List, [], ◌∷◌, ◌++◌, IfSome}
use Rattle.std.specs.declared.option.Option.{Option}
use Rattle.std.specs.Io.KnownBytes.{Consumes, IsAtEnd}
use Rattle.dice_command.specs.declared.command.Command.{Command}
use Rattle.dice_program.specs.Entries.{whole_entries, script_entries, HasQuit, AreCommandsOf}
use Rattle.dice_program.specs.Script.{ended_lines, last_piece, acted, IsTooLong}

-- the script: the bytes of the source, where it tells them
abbrev pub IsScript : Option (List ℕ) → List ℕ → Type 0
IsScript left script = IfSome left (λ whole. whole ≡ script)

-- the script, and the part of it that was taken from the source
pub record ScriptPart (left left_then : Option (List ℕ)) : Type 0 where
  pub script : List ℕ
  pub taken : List ℕ
  pub rest : List ℕ
  pub parts : script ≡ taken ++ rest
  pub is : IsScript left script
  pub took : Consumes left left_then taken

-- these commands are those of the lines that were taken, and no byte behind the last line feed was taken
pub record TakesOnly (taken : List ℕ) (commands : List Command) : Type 0 where
  pub read : AreCommandsOf (whole_entries (ended_lines taken)) commands
  pub exact : last_piece taken ≡ []

-- the whole script was taken, and it is not too long
pub record TakesAll
    {left left_then : Option (List ℕ)} (part : ScriptPart left left_then) : Type 0 where
  pub all : part.rest ≡ []
  pub ended : IsAtEnd left_then
  pub fits : ¬ (IsTooLong part.script)

-- `quit` was the last line that was taken
pub record TakesToQuit (taken : List ℕ) : Type 0 where
  pub before : List (List ℕ)
  pub quit : List ℕ
  pub lines : ended_lines taken ≡ before ++ quit ∷ []
  pub exact : last_piece taken ≡ []
  pub going : ¬ (HasQuit before)
  pub over : HasQuit (before ++ quit ∷ [])

-- These are the commands of lines and, behind all lines of a script that is not too long, that of a text whose `.` is
-- missing. A text that is open where a script is too long is not ended.
abbrev pub AreBegun : List ℕ → List (List ℕ) → List (List ℕ) → List Command → Type 0
AreBegun script lines rest commands =
    AreCommandsOf (whole_entries lines) commands
    ⊎ ((rest ≡ []) × (¬ (IsTooLong script)) × AreCommandsOf (script_entries lines) commands)

-- the lines that are acted on begin with these commands
pub record Begins (script : List ℕ) (commands : List Command) : Type 0 where
  pub lines : List (List ℕ)
  pub rest : List (List ℕ)
  pub parts : acted script ≡ lines ++ rest
  pub read : AreBegun script lines rest commands
