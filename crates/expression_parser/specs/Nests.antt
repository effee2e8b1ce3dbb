-- A function value that reads expressions of fewer levels: so each function is proved by itself, over a reader of what
-- nests in it, and only the last one closes the circle.
use Rattle.std.specs.Prelude.{ℕ, ◌<◌, Result}
use Rattle.std.specs.declared.alloc.Global.{Global}
use denote.Ref.{MutBor}
use Rattle.dice_base.specs.Tokens.{Toks}
use Rattle.pascal_tree.specs.declared.expr.Expr.{Expr}
use Rattle.token_reader.specs.Readers.{Reads}
use Rattle.token_reader.specs.declared.stop.Stop.{Stop}
use Rattle.expression_parser.specs.Readers.{expr, inside}

-- it may be called with fewer levels, and then answers what the reader answers
pub record Nests (depth : ℕ) (pre : Global → MutBor Toks → ℕ → Type 0)
    (post : Global → MutBor Toks → ℕ → Result Expr Stop → MutBor Toks → Type 0) : Type 0 where
  pub callable : (alloc : Global) (old : MutBor Toks) (d : ℕ) → d < depth → pre alloc old d
  pub reads : (alloc : Global) (old new : MutBor Toks) (d : ℕ) (r : Result Expr Stop) →
      d < depth → post alloc old d r new → Reads (expr (inside d) old.now) r new.now
