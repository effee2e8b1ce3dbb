-- The readers of no level, and of one level or more.
use Rattle.std.proofs.Common.{◌≡◌, ℕ, ◌-◌, ◌<◌, Err, ap}
use Rattle.dice_base.specs.Tokens.{Toks}
use Rattle.token_reader.specs.declared.stop.Stop.TheVariants.{Deep}
use Rattle.token_reader.specs.Readers.{separated}
use Rattle.token_reader.proofs.Turns.{deeper}
use Rattle.pascal_tree.specs.Classes.{semicolon_class}
use Rattle.expression_parser.specs.Readers.{inside}
use Rattle.statement_parser.specs.Readers.{compound, statement, stmt_in, hole, hole_list, header_in, body_in}

pub stmt_none : (d : ℕ) (ts : Toks) → d ≡ 0 → stmt_in d ts ≡ (Err Deep, ts)
unfolding stmt_in
stmt_none d ts e = ap (λ n. stmt_in n ts) e

pub stmt_some : (d : ℕ) (ts : Toks) → 0 < d
    → stmt_in d ts ≡ statement (inside (d - 1)) (stmt_in (d - 1)) (separated semicolon_class (stmt_in (d - 1))) ts
unfolding stmt_in
stmt_some d ts some = deeper (λ n. stmt_in n ts) d some

pub header_none : (d : ℕ) (ts : Toks) → d ≡ 0 → header_in d ts ≡ (Err Deep, ts)
unfolding header_in
header_none d ts e = ap (λ n. header_in n ts) e

pub header_some : (d : ℕ) (ts : Toks) → 0 < d → header_in d ts ≡ statement (inside (d - 1)) hole hole_list ts
unfolding header_in
header_some d ts some = deeper (λ n. header_in n ts) d some

pub body_none : (d : ℕ) (ts : Toks) → d ≡ 0 → body_in d ts ≡ (Err Deep, ts)
unfolding body_in
body_none d ts e = ap (λ n. body_in n ts) e

pub body_some : (d : ℕ) (ts : Toks) → 0 < d → body_in d ts ≡ compound (stmt_in (d - 1)) ts
unfolding body_in
body_some d ts some = deeper (λ n. body_in n ts) d some
