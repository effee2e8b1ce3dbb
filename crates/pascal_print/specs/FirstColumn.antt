-- The numbers in the first column of a listing with names.
use Rattle.std.specs.Prelude.{ℕ, ◌==◌, if◌then◌else◌, List, [], ◌∷◌, take, bytes_eq}
use Rattle.std.specs.List.{flat_map, take_while}
use Rattle.dice_base.specs.Lexemes.{digit_byte, value_of}
use Rattle.dice_base.specs.Lines.{lines_of}
use Rattle.tree_listing.specs.Listing.{blanks}

-- what follows the blanks at the front of a line
abbrev pub after_blanks : List ℕ → List ℕ
after_blanks [] = []
after_blanks (c ∷ cs) = if c == 32 then after_blanks cs else c ∷ cs

-- the number at the front of a line; none where the first six places are blank
abbrev pub number_in_front : List ℕ → List ℕ
number_in_front line =
    if bytes_eq (take 6 line) (blanks 6) then []
    else value_of (take_while digit_byte (after_blanks line)) ∷ []

-- the numbers at the front of the lines of a text
abbrev pub first_column : List ℕ → List ℕ
first_column text = flat_map number_in_front (lines_of text)
