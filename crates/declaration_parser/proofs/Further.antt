-- The reader of a level, by that of the level further in.
use Rattle.std.proofs.Common.{◌≡◌, ℕ, ◌-◌, ◌<◌, Err, ap}
use Rattle.dice_base.specs.Tokens.{Toks}
use Rattle.token_reader.specs.declared.stop.Stop.TheVariants.{Deep}
use Rattle.token_reader.proofs.Turns.{deeper}
use Rattle.declaration_parser.specs.Readers.{simple, simple_in, whole_type, type_in}

pub simple_none : (d : ℕ) (ts : Toks) → d ≡ 0 → simple_in d ts ≡ (Err Deep, ts)
unfolding simple_in
simple_none d ts e = ap (λ n. simple_in n ts) e

pub simple_some : (d : ℕ) (ts : Toks) → 0 < d → simple_in d ts ≡ simple ts
unfolding simple_in
simple_some d ts some = deeper (λ n. simple_in n ts) d some

pub type_none : (d : ℕ) (ts : Toks) → d ≡ 0 → type_in d ts ≡ (Err Deep, ts)
unfolding type_in
type_none d ts e = ap (λ n. type_in n ts) e

pub type_some : (d : ℕ) (ts : Toks) → 0 < d → type_in d ts ≡ whole_type (simple_in (d - 1)) (type_in (d - 1)) ts
unfolding type_in
type_some d ts some = deeper (λ n. type_in n ts) d some
