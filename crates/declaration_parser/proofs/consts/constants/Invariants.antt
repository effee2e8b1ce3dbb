use Rattle.std.proofs.Common.{◌≡◌, ◌-◌, [], ◌∷◌}
use Rattle.token_reader.specs.Readers.{many_from, separated, expect, ◌>>◌}
use Rattle.pascal_tree.specs.Classes.{comma_class}
use Rattle.declaration_parser.specs.Readers.{constant}
use Rattle.declaration_parser.proofs.consts.constants.Given as goal

abbrev pub invariant-loop-turn : goal.invariant-loop-turn
invariant-loop-turn l =
    separated comma_class constant l.fn.tokens
    ≡ many_from (comma_class ∷ []) (expect comma_class >> constant) (l._turn-end - l._turn) l.found l.tokens
