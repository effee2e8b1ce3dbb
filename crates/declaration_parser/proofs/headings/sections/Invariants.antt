use Rattle.std.proofs.Common.{◌≡◌, ◌-◌, [], ◌∷◌}
use Rattle.token_reader.specs.Readers.{many_from, separated, expect, ◌>>◌}
use Rattle.pascal_tree.specs.Classes.{semicolon_class}
use Rattle.declaration_parser.specs.Readers.{section}
use Rattle.declaration_parser.proofs.headings.sections.Given as goal

abbrev pub invariant-loop-turn : goal.invariant-loop-turn
invariant-loop-turn l =
    separated semicolon_class section l.fn.tokens
    ≡ many_from (semicolon_class ∷ []) (expect semicolon_class >> section)
    (l._turn-end - l._turn) l.found l.tokens
