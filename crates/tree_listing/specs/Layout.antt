-- A listing in the making: the text so far, and that of what is still to come.
use Rattle.std.specs.Prelude.{List, ◌∷◌, ◌++◌, ℕ, Option, Some, None}
use Rattle.tree_listing.specs.declared.event.Event.{Event}
use Rattle.tree_listing.specs.declared.event.Line.{Line}
use Rattle.tree_listing.specs.declared.layout.Layout.{Layout}
use Rattle.tree_listing.specs.Listing.{Rest, rest_of, text_of_lines}

-- the line under way with the tokens that it has yet, and the lines behind it
abbrev pub going : Option Line → Rest → List Line
going None rest = rest.1
going (Some line) rest = record { name = line.name; level = line.level; tokens = line.tokens ++ rest.0 } ∷ rest.1

abbrev pub whole : Layout → Rest → List ℕ
whole l rest = l.out ++ text_of_lines l.names (going l.line rest)

abbrev pub whole_with : Layout → List Event → List ℕ
whole_with l es = whole l (rest_of es l.back)
