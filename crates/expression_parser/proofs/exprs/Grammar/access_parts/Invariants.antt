use Rattle.std.proofs.Common.{◌≡◌, ◌-◌, []}
use Rattle.token_reader.specs.Readers.{many, many_from}
use Rattle.expression_parser.specs.Readers.{inside, access_part, part_first}
use Rattle.expression_parser.proofs.exprs.Grammar.access_parts.Given as goal

abbrev pub invariant-loop-turn : goal.invariant-loop-turn
invariant-loop-turn g l =
    many part_first (access_part (inside l.depth)) [] l.fn.tokens
    ≡ many_from part_first (access_part (inside l.depth)) (l._turn-end - l._turn) l.found l.tokens
