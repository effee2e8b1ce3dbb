use Rattle.std.proofs.Common.{◌≡◌, ◌-◌, [], ◌∷◌}
use Rattle.pascal_tree.specs.Classes.{comma_class}
use Rattle.token_reader.specs.Readers.{many_from, separated, expect, ◌>>◌}
use Rattle.expression_parser.specs.Readers.{inside}
use Rattle.expression_parser.proofs.exprs.Grammar.exprs.Given as goal

abbrev pub invariant-loop-turn : goal.invariant-loop-turn
invariant-loop-turn g l =
    separated comma_class ((inside l.depth).expr) l.fn.tokens
    ≡ many_from (comma_class ∷ []) (expect comma_class >> (inside l.depth).expr)
    (l._turn-end - l._turn) l.found l.tokens
