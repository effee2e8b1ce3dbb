-- Tokens that a text has (ISO 7185:1990, 6.1), and programs and statements that a text spells, names aside: its tokens are
-- those of a spelling by the grammar (6.2 to 6.10), with no more than the allowed levels.
use Rattle.std.specs.Prelude.{ℕ, Bool, List}
use Rattle.dice_base.specs.declared.token.TokenKind.{TokenKind}
use Rattle.dice_base.specs.Lexemes.{Lexeme, Lexes}
use Rattle.dice_base.specs.Tokens.{Toks}
use Rattle.pascal_tree.specs.declared.stmt.Stmt.{Stmt}
use Rattle.pascal_tree.specs.declared.program.Tree.{Tree}
use Rattle.pascal_tree.specs.Statements.{stmt_at}
use Rattle.pascal_tree.specs.Programs.{Derives}
use Rattle.pascal_tree.specs.Unnamed.{unnamed_stmt, unnamed_program}

-- some text is this token
pub record HasLexeme (t : TokenKind) : Type 0 where
  pub text : List ℕ
  pub is : Lexeme text t

-- some text spells the program
pub record HasSource (p : Tree) : Type 0 where
  pub source : List ℕ
  pub tokens : Toks
  pub lexes : Lexes source tokens
  pub derives : Derives (unnamed_program p) tokens

-- some text spells the statement, with at most so many levels; it is open, or not
pub record HasStatementSource (levels : ℕ) (s : Stmt) : Type 0 where
  pub source : List ℕ
  pub tokens : Toks
  pub flag : Bool
  pub lexes : Lexes source tokens
  pub derives : (stmt_at levels).full (unnamed_stmt s) flag tokens
