-- The lines of a script.
use Rattle.std.specs.Prelude.{◌<◌, ◌≤◌, ◌⊎◌, ℕ, ◌-◌, if◌then◌else◌, List, [], ◌++◌, length, take, map, slice_index_or, nat_lt}
use Rattle.dice_base.specs.Lines.{pieces, whole_lines, some_line}
use Rattle.script_lines.specs.Front.{strip}
use Rattle.dice_program.specs.declared.limits.TheConstants.{MAX_BYTES, MAX_LINES}

-- the lines that end by a line feed, without it and without a carriage return before it
unfoldable pub ended_lines : List ℕ → List (List ℕ)
ended_lines text = map strip (whole_lines text)

-- what stands behind the last line feed
unfoldable pub last_piece : List ℕ → List ℕ
last_piece text = slice_index_or (pieces text) (length (pieces text) - 1) []

-- the lines of a script: a last one without a line feed counts where it is not empty
unfoldable pub lines_in : List ℕ → List (List ℕ)
lines_in text = ended_lines text ++ some_line (last_piece text)

-- of the lines that there is room for, so many at most
unfoldable pub acted_within : ℕ → ℕ → List ℕ → List (List ℕ)
acted_within lines bytes script = take lines
    (if nat_lt bytes (length script) then ended_lines (take bytes script) else lines_in script)

-- the lines of a script that are acted on
abbrev pub acted : List ℕ → List (List ℕ)
acted script = acted_within (MAX_LINES - 1) MAX_BYTES script

abbrev pub IsTooLong : List ℕ → Type 0
IsTooLong script = (MAX_BYTES < length script) ⊎ (MAX_LINES ≤ length (lines_in script))
