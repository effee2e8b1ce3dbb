-- The reader of a routine, by that of the level further in; and the directive `forward`.
use Rattle.std.specs.Prelude.{◌≡◌, ℕ, true, false, List, [], ◌∷◌, Ok, Err, drop}
use Rattle.std.proofs.Common.{◌-◌, ◌<◌, ap, refl}
use Rattle.dice_base.specs.declared.token.TokenKind.TheVariants.{Word, Ident, Number, Str, Sign, Hole}
use Rattle.dice_base.specs.Tokens.{Toks}
use Rattle.pascal_tree.specs.declared.stmt.StmtKind.{StmtKind}
use Rattle.pascal_tree.specs.Programs.{forward_of}
use Rattle.token_reader.specs.declared.stop.Stop.TheVariants.{At, Deep}
use Rattle.token_reader.specs.Readers.{Parser, one, is_ident}
use Rattle.token_reader.proofs.Turns.{deeper}
use Rattle.block_parser.specs.Readers.{whole_routine, routine_in, block_in}

pub routine_none : (body : ℕ → Parser StmtKind) (d : ℕ) (ts : Toks) → d ≡ 0 → routine_in body d ts ≡ (Err Deep, ts)
unfolding routine_in
routine_none body d ts e = ap (λ n. routine_in body n ts) e

pub routine_some : (body : ℕ → Parser StmtKind) (d : ℕ) (ts : Toks) → 0 < d
    → routine_in body d ts ≡ whole_routine (block_in body (d - 1)) ts
unfolding routine_in block_in
routine_some body d ts some = deeper (λ n. routine_in body n ts) d some

abbrev forward_text : List ℕ
forward_text = 102 ∷ 111 ∷ 114 ∷ 119 ∷ 97 ∷ 114 ∷ 100 ∷ []

pub forward_some : (ts : Toks) → is_ident forward_text ts ≡ true → one forward_of ts ≡ (Ok tt, drop 1 ts)
forward_some [] e = absurd cc
forward_some (Ident x ∷ ts) e = rw e refl
forward_some (Word k ∷ ts) e = absurd cc
forward_some (Number n ∷ ts) e = absurd cc
forward_some (Str x ∷ ts) e = absurd cc
forward_some (Sign k ∷ ts) e = absurd cc
forward_some (Hole ∷ ts) e = absurd cc

pub forward_none : (ts : Toks) → is_ident forward_text ts ≡ false → one forward_of ts ≡ (Err At, ts)
forward_none [] e = refl
forward_none (Ident x ∷ ts) e = rw e refl
forward_none (Word k ∷ ts) e = refl
forward_none (Number n ∷ ts) e = refl
forward_none (Str x ∷ ts) e = refl
forward_none (Sign k ∷ ts) e = refl
forward_none (Hole ∷ ts) e = refl
