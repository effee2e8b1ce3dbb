use Rattle.std.proofs.Common.{◌≡◌, ◌-◌, [], ◌∷◌}
use Rattle.token_reader.specs.Readers.{many_from, separated, expect, ◌>>◌}
use Rattle.pascal_tree.specs.Classes.{comma_class}
use Rattle.expression_parser.specs.Readers.{access, inside}
use Rattle.statement_parser.proofs.parts.records.Given as goal

abbrev pub invariant-loop-turn : goal.invariant-loop-turn
invariant-loop-turn l =
    separated comma_class (access (inside l.depth)) l.fn.tokens
    ≡ many_from (comma_class ∷ []) (expect comma_class >> access (inside l.depth))
    (l._turn-end - l._turn) l.found l.tokens
