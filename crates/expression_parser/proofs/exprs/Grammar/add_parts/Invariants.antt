use Rattle.std.proofs.Common.{◌≡◌, ◌-◌, []}
use Rattle.token_reader.specs.Readers.{many, many_from}
use Rattle.dice_base.specs.Tokens.{keys}
use Rattle.pascal_tree.specs.Expressions.{add_ops}
use Rattle.expression_parser.specs.Readers.{inside, add_part}
use Rattle.expression_parser.proofs.exprs.Grammar.add_parts.Given as goal

abbrev pub invariant-loop-turn : goal.invariant-loop-turn
invariant-loop-turn g l =
    many (keys add_ops) (add_part (inside l.depth)) [] l.fn.tokens
    ≡ many_from (keys add_ops) (add_part (inside l.depth)) (l._turn-end - l._turn) l.found l.tokens
