-- What the loop over the lines keeps of a text, and of a line.
use Rattle.std.specs.Prelude.{◌≡◌, ℕ, ◌+◌, true, List, take, Option, Some, None}
use Rattle.std.specs.Option.{option_map}
use Rattle.std.specs.Global.{Vec}
use Rattle.script_lines.specs.Front.{longest_text}
use Rattle.dice_command.specs.declared.command.Command.{Command}
use Rattle.dice_command.specs.Command.{IsCommandOf, takes_text}
use Rattle.dice_program.specs.Entries.{Entry, Position, Between, Inside, Behind}

-- of a text no more than this is kept: one byte more than the longest that is loaded, so that a longer one is known
abbrev pub kept_text : ℕ
kept_text = longest_text + 1

-- the bytes of a text that is kept, or of none
abbrev pub items_of : Option (Vec ℕ) → Option (List ℕ)
items_of kept = option_map (λ v. v.items) kept

-- the front of a text that is open
pub record HasFront (line text : List ℕ) (kept : Option (List ℕ)) : Type 0 where
  pub takes : takes_text line ≡ true
  pub front : kept ≡ Some (take kept_text text)

-- the text that is open, or none
abbrev pub HasText : Position → Option (List ℕ) → Type 0
HasText Between kept = kept ≡ None
HasText (Inside line text) kept = HasFront line text kept
HasText Behind kept = kept ≡ None

-- what is kept of a line and its text is the command that the whole is
abbrev pub IsReadAs : Entry → List ℕ → List ℕ → Type 0
IsReadAs e line text = (c : Command) → IsCommandOf line text c → IsCommandOf e.line e.text c
