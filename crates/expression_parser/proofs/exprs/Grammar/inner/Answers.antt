use Rattle.std.proofs.Common.{arith, ◌<◌, ◌-◌}
use Rattle.token_reader.proofs.Turns.{deeper}
use Rattle.expression_parser.specs.Readers.{inside}
use Rattle.expression_parser.proofs.exprs.Grammar.inner.Goals as goal

pub returns : goal.returns
unfolding inside
returns g c =
    let less : c.args.depth - 1 < c.args.depth = omega arith in
    rw (deeper (λ n. (inside n).expr c.args.tokens.now) c.args.depth (omega arith))
    (c.requires.reads _ _ _ _ _ less c.expr.ensures)
