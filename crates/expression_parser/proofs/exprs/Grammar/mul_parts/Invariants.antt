use Rattle.std.proofs.Common.{◌≡◌, ◌-◌, []}
use Rattle.token_reader.specs.Readers.{many, many_from}
use Rattle.dice_base.specs.Tokens.{keys}
use Rattle.pascal_tree.specs.Expressions.{mul_ops}
use Rattle.expression_parser.specs.Readers.{inside, mul_part}
use Rattle.expression_parser.proofs.exprs.Grammar.mul_parts.Given as goal

abbrev pub invariant-loop-turn : goal.invariant-loop-turn
invariant-loop-turn g l =
    many (keys mul_ops) (mul_part (inside l.depth)) [] l.fn.tokens
    ≡ many_from (keys mul_ops) (mul_part (inside l.depth)) (l._turn-end - l._turn) l.found l.tokens
