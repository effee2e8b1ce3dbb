-- What stands for the substatements of a statement, and a function value that reads statements.
use Rattle.std.specs.Prelude.{ℕ, List, Result}
use Rattle.std.specs.declared.alloc.Global.{Global}
use denote.Ref.{MutBor}
use Rattle.dice_base.specs.Tokens.{Toks}
use Rattle.token_reader.specs.declared.stop.Stop.{Stop}
use Rattle.token_reader.specs.Readers.{Parser, Reads, separated}
use Rattle.pascal_tree.specs.declared.stmt.Stmt.{Stmt}
use Rattle.pascal_tree.specs.Classes.{semicolon_class}
use Rattle.statement_parser.specs.Readers.{stmt_in, hole, hole_list}
use Rattle.statement_parser.specs.declared.stmts.Parts.{Parts}
use Rattle.statement_parser.specs.declared.stmts.Parts.TheVariants.{Written, Holes}

-- the reader of a substatement
abbrev pub part_in : Parts → ℕ → Parser Stmt
part_in Written d = stmt_in d
part_in Holes d = hole

-- the reader of the statements of a `repeat`
abbrev pub sequence_in : Parts → ℕ → Parser (List Stmt)
sequence_in Written d = separated semicolon_class (stmt_in d)
sequence_in Holes d = hole_list

-- the function reads a statement of at most so many levels
pub record NestsStmt (depth : ℕ) (pre : Global → MutBor Toks → ℕ → Type 0)
    (post : Global → MutBor Toks → ℕ → Result Stmt Stop → MutBor Toks → Type 0) : Type 0 where
  pub callable : (alloc : Global) (old : MutBor Toks) → pre alloc old depth
  pub reads : (alloc : Global) (old new : MutBor Toks) (r : Result Stmt Stop)
      → post alloc old depth r new → Reads (stmt_in depth old.now) r new.now
