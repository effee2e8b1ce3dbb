use Rattle.std.proofs.Common.{◌≡◌, ◌-◌, [], ◌∷◌}
use Rattle.token_reader.specs.Readers.{many_from, number, separated, expect, ◌>>◌}
use Rattle.pascal_tree.specs.Classes.{comma_class}
use Rattle.declaration_parser.proofs.decls.numbers.Given as goal

abbrev pub invariant-loop-turn : goal.invariant-loop-turn
invariant-loop-turn l =
    separated comma_class number l.fn.tokens
    ≡ many_from (comma_class ∷ []) (expect comma_class >> number) (l._turn-end - l._turn) l.found l.tokens
