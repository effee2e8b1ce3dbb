-- The reader of an operand of `not`, one level further in.
use Rattle.std.proofs.Common.{◌≡◌, ℕ, ◌-◌, ◌<◌, Err, ap}
use Rattle.dice_base.specs.Tokens.{Toks}
use Rattle.token_reader.specs.declared.stop.Stop.TheVariants.{Deep}
use Rattle.token_reader.proofs.Turns.{deeper}
use Rattle.expression_parser.specs.Readers.{inside, factor}

pub operand_none : (d : ℕ) (ts : Toks) → d ≡ 0 → (inside d).factor ts ≡ (Err Deep, ts)
unfolding inside
operand_none d ts e = ap (λ n. (inside n).factor ts) e

pub operand_some : (d : ℕ) (ts : Toks) → 0 < d → (inside d).factor ts ≡ factor (inside (d - 1)) ts
unfolding inside
operand_some d ts some = deeper (λ n. (inside n).factor ts) d some
