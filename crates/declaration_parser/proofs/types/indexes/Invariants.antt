use Rattle.std.proofs.Common.{◌≡◌, ◌-◌, [], ◌∷◌}
use Rattle.token_reader.specs.Readers.{many_from, separated, expect, ◌>>◌}
use Rattle.pascal_tree.specs.Classes.{comma_class}
use Rattle.declaration_parser.specs.Readers.{simple_in}
use Rattle.declaration_parser.proofs.types.indexes.Given as goal

abbrev pub invariant-loop-turn : goal.invariant-loop-turn
invariant-loop-turn l =
    separated comma_class (simple_in l.depth) l.fn.tokens
    ≡ many_from (comma_class ∷ []) (expect comma_class >> simple_in l.depth)
    (l._turn-end - l._turn) l.found l.tokens
