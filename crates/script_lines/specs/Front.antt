-- How much of a line tells what it is.
use Rattle.std.specs.Prelude.{◌≡◌, ◌==◌, ℕ, ◌+◌, ◌-◌, if◌then◌else◌, List, length, take, slice_index}

-- a line without the carriage return before its line feed
abbrev pub strip : List ℕ → List ℕ
strip line = if slice_index line (length line - 1) == 13 then take (length line - 1) line else line

-- so many bytes of a line are kept
abbrev pub kept_bytes : ℕ
kept_bytes = 65538

-- the longest text that is loaded
abbrev pub longest_text : ℕ
longest_text = 65536

-- two lines begin alike, up to one byte more than the longest text has: so they are one and the same, or are both longer
abbrev pub SameFront : List ℕ → List ℕ → Type 0
SameFront a b = take (longest_text + 1) a ≡ take (longest_text + 1) b
