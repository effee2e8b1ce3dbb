-- A function value that reads types of so many levels.
use Rattle.std.specs.Prelude.{ℕ, Result}
use Rattle.std.specs.declared.alloc.Global.{Global}
use denote.Ref.{MutBor}
use Rattle.pascal_tree.specs.declared.typing.TypeText.{TypeText}
use Rattle.dice_base.specs.Tokens.{Toks}
use Rattle.token_reader.specs.declared.stop.Stop.{Stop}
use Rattle.token_reader.specs.Readers.{Reads}
use Rattle.declaration_parser.specs.Readers.{type_in}

pub record NestsTypes (depth : ℕ) (pre : Global → MutBor Toks → ℕ → Type 0)
    (post : Global → MutBor Toks → ℕ → Result TypeText Stop → MutBor Toks → Type 0) : Type 0 where
  pub callable : (alloc : Global) (old : MutBor Toks) → pre alloc old depth
  pub reads : (alloc : Global) (old new : MutBor Toks) (r : Result TypeText Stop) → post alloc old depth r new
      → Reads (type_in depth old.now) r new.now
