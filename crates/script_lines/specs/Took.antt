-- What a call for the next line took from the bytes that are left, and what it kept of the line.
use Rattle.std.specs.Prelude.{◌≡◌, ℕ, ◌+◌, List, [], ◌∷◌, ◌++◌, length, take}
use Rattle.std.specs.declared.option.Option.{Option}
use Rattle.std.specs.Io.KnownBytes.{Consumes, IsAtEnd}
use Rattle.dice_base.specs.Lines.{NoFeed}
use Rattle.script_lines.specs.Front.{kept_bytes}
use Rattle.script_lines.specs.declared.line.Got.{Got}
use Rattle.script_lines.specs.declared.line.Got.TheVariants.{Whole, Last, TooFar}

-- a call for the next line: what it kept of the line, how many bytes more may be taken, and the bytes that the source
-- has left, before the call and after it
pub record LineRead : Type 0 where
  pub kept : List ℕ
  pub room : ℕ
  pub room_then : ℕ
  pub left : Option (List ℕ)
  pub left_then : Option (List ℕ)

-- a line and its line feed
pub record WholeLine (read : LineRead) : Type 0 where
  pub line : List ℕ
  pub front : read.kept ≡ take kept_bytes line
  pub plain : NoFeed line
  pub took : Consumes read.left read.left_then (line ++ 10 ∷ [])
  pub space : read.room ≡ read.room_then + length line + 1

-- a line that the end of the source ends, and that may be empty
pub record LastLine (read : LineRead) : Type 0 where
  pub line : List ℕ
  pub front : read.kept ≡ take kept_bytes line
  pub plain : NoFeed line
  pub took : Consumes read.left read.left_then line
  pub ended : IsAtEnd read.left_then
  pub space : read.room ≡ read.room_then + length line

-- as many bytes as there was room for, and one more
pub record PastRoom (read : LineRead) : Type 0 where
  pub line : List ℕ
  pub plain : NoFeed line
  pub byte : ℕ
  pub took : Consumes read.left read.left_then (line ++ byte ∷ [])
  pub space : read.room ≡ length line

-- a part of a line, after which the source failed or memory was refused
pub record Broken (read : LineRead) : Type 0 where
  pub line : List ℕ
  pub plain : NoFeed line
  pub took : Consumes read.left read.left_then line

-- what was taken, by the way that the line ends
abbrev pub Took : Got → LineRead → Type 0
Took Whole read = WholeLine read
Took Last read = LastLine read
Took TooFar read = PastRoom read
