-- What a line asks for. The faults are tried in this order: length, bytes, first word, number of words, number.
use Rattle.std.specs.Prelude.{ℕ, ◌≤◌, Bool, true, ◌&&◌, ◌||◌, nat_lt, if◌then◌else◌, List, length, bytes_eq, codes, Option, None, Some}
use Rattle.pascal_scanner.specs.Longest.{past}
use Rattle.dice_command.specs.Words.{is_blank, is_text_byte, every, is_empty, word_of, after_word, number_of, is_identifier}
use Rattle.dice_command.specs.declared.keyword.Arguments.{Arguments}
use Rattle.dice_command.specs.declared.keyword.Arguments.TheVariants.{Nothing, Number, Text, Side, Identifier}
use Rattle.dice_command.specs.declared.keyword.Keyword.{Keyword}
use Rattle.dice_command.specs.declared.keyword.Keyword.TheVariants as keyword
use Rattle.dice_command.specs.Keyword.{keyword_of}
use Rattle.dice_command.specs.declared.command.CommandFault.{CommandFault}
use Rattle.dice_command.specs.declared.command.CommandFault.TheVariants.{LineTooLong, NotACommand, BadNumber}
use Rattle.dice_command.specs.declared.line.LineCommand.{LineCommand}
use Rattle.dice_command.specs.declared.line.LineCommand.TheVariants as line

-- what a line asks for, with a text in place of the bytes that it borrows
pub data Asked : Type 0 where
  Blank : Asked
  Load : Asked
  Listing : Asked
  Replace : ℕ → List ℕ → Asked
  Apply : Asked
  Run : ℕ → Asked
  Quit : Asked
  Unbuilt : Asked
  Bad : CommandFault → Asked

-- the same of the answer of the code
abbrev pub asked : LineCommand → Asked
asked line.Blank = Blank
asked line.Load = Load
asked line.List = Listing
asked (line.Replace n text) = Replace n text.now
asked line.Apply = Apply
asked (line.Run n) = Run n
asked line.Quit = Quit
asked line.Unbuilt = Unbuilt
asked (line.Bad fault) = Bad fault

-- numbers are in range, and a text is no longer than a line
abbrev pub IsInRange : Asked → Type 0
IsInRange (Replace n text) = (1 ≤ n) × (n ≤ 1000000) × (length text ≤ 4096)
IsInRange (Run n) = (1 ≤ n) × (n ≤ 1000000)
IsInRange other = Unit {0}

-- a command of one word
abbrev pub alone : Asked → List ℕ → Asked
alone command rest = if is_empty (word_of rest) then command else Bad NotACommand

-- a command that is told a number
abbrev pub with_number : (ℕ → Asked) → Option ℕ → Asked
with_number command None = Bad BadNumber
with_number command (Some n) = command n

-- a run is told one number, and no more words
abbrev pub one_number : List ℕ → Asked
one_number rest =
    if is_empty (word_of (after_word rest)) then with_number Run (number_of (word_of rest))
    else Bad NotACommand

-- what stands behind the first word and the blanks behind it, with the blanks at the end of the line
abbrev pub text_of : List ℕ → List ℕ
text_of rest = past is_blank (after_word rest)

-- a statement is replaced by a text, which may be empty
abbrev pub number_and_text : List ℕ → Asked
number_and_text rest = with_number (λ n. Replace n (text_of rest)) (number_of (word_of rest))

-- where a statement is inserted
abbrev pub is_side : List ℕ → Bool
is_side word = bytes_eq word (codes "before") || (bytes_eq word (codes "after") || bytes_eq word (codes "first"))

-- this may stand behind the first word of a command that is not built yet
abbrev pub fits : Arguments → List ℕ → Bool
fits Nothing rest = is_empty (word_of rest)
fits Number rest = is_empty (word_of (after_word rest))
fits Text rest = true
fits Side rest = is_side (word_of rest)
fits Identifier rest = is_identifier (word_of rest) && is_empty (word_of (after_word (after_word rest)))

-- a command by its first word and what stands behind it
abbrev pub by_keyword : Keyword → List ℕ → Asked
by_keyword keyword.Load rest = alone Load rest
by_keyword keyword.List rest = alone Listing rest
by_keyword keyword.Replace rest = number_and_text rest
by_keyword keyword.Apply rest = alone Apply rest
by_keyword keyword.Run rest = one_number rest
by_keyword keyword.Quit rest = alone Quit rest
by_keyword (keyword.Unbuilt arguments) rest = if fits arguments rest then Unbuilt else Bad NotACommand

-- the same, where the first word may be none that begins a command
abbrev pub with_arguments : Option Keyword → List ℕ → Asked
with_arguments None rest = Bad NotACommand
with_arguments (Some keyword) rest = by_keyword keyword rest

-- what a line asks for, tried in this order
abbrev pub asked_of : List ℕ → Asked
asked_of line =
    if nat_lt 4096 (length line) then Bad LineTooLong
    else if is_empty (word_of line) then Blank
    else if every is_text_byte line then with_arguments (keyword_of (word_of line)) (after_word line)
    else Bad NotACommand
