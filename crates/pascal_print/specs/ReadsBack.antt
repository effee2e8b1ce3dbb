-- A text that is read back as the program, or the statement, that it was written from.
use Rattle.std.specs.Prelude.{◌≡◌, ℕ, Bool, List}
use Rattle.dice_base.specs.Lexemes.{Lexes}
use Rattle.dice_base.specs.Tokens.{Toks}
use Rattle.pascal_tree.specs.declared.stmt.Stmt.{Stmt}
use Rattle.pascal_tree.specs.declared.program.Tree.{Tree}
use Rattle.pascal_tree.specs.Statements.{stmt_at}
use Rattle.pascal_tree.specs.Programs.{Derives}
use Rattle.pascal_tree.specs.Unnamed.{unnamed_stmt, unnamed_program}
use Rattle.pascal_tree.specs.Sources.{HasStatementSource}
use Rattle.tree_listing.specs.Events.{program_tokens, statement_tokens}

-- the text has these tokens, they derive this tree, and no other tree is derived by tokens that the text has
pub record IsListingOf (text : List ℕ) (tokens : Toks) (tree : Tree) : Type 0 where
  pub lexes : Lexes text tokens
  pub derives : Derives tree tokens
  pub only : (us : Toks) (other : Tree) → Lexes text us → Derives other us → other ≡ tree

-- this text has the program's own tokens, and is read as this program, names aside
abbrev pub ReadsBack : Tree → List ℕ → Type 0
ReadsBack p text = IsListingOf text (program_tokens p) (unnamed_program p)

-- the same of a statement that some text spells, with at most so many levels, open or not
pub record IsStatementListingOf (levels : ℕ) (text : List ℕ) (tokens : Toks) (tree : Stmt) (flag : Bool) : Type 0 where
  pub lexes : Lexes text tokens
  pub derives : (stmt_at levels).full tree flag tokens
  pub only : (us : Toks) (other : Stmt) (w : Bool) → Lexes text us → (stmt_at levels).full other w us → other ≡ tree

abbrev pub StatementReadsBack : Stmt → List ℕ → Type 0
StatementReadsBack s text =
    (levels : ℕ) (source : HasStatementSource levels s)
    → IsStatementListingOf levels text (statement_tokens s) (unnamed_stmt s) source.flag
