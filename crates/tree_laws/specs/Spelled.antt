-- Trees that a text can spell: by the grammar from tokens of which each is one of some text.
use Rattle.std.specs.List.{AllByRecursion}
use Rattle.dice_base.specs.Tokens.{Toks}
use Rattle.pascal_tree.specs.declared.decl.Decl.{Decl}
use Rattle.pascal_tree.specs.declared.decl.Heading.{Heading}
use Rattle.pascal_tree.specs.declared.decl.Routine.{Routine}
use Rattle.pascal_tree.specs.declared.program.Tree.{Tree}
use Rattle.pascal_tree.specs.declared.stmt.Stmt.{Stmt}
use Rattle.pascal_tree.specs.Programs.{Derives, DerivesStmt, DerivesDecl, DerivesRoutine, DerivesHeading}
use Rattle.pascal_tree.specs.Unnamed.{unnamed_stmt, unnamed_decl, unnamed_routine, unnamed_program}
use Rattle.pascal_tree.specs.Sources.{HasLexeme}

-- tokens of which each is one of some text, and of which this holds
pub record Holds (P : Toks → Type 0) : Type 0 where
  pub tokens : Toks
  pub holds : P tokens
  pub each : AllByRecursion HasLexeme tokens

-- some such tokens spell the program, names aside, with at most 64 levels; and so a statement, a declaration, a routine
-- and a heading by itself
abbrev pub IsSpelled : Tree → Type 0
IsSpelled p = Holds (Derives (unnamed_program p))

abbrev pub IsSpelledStmt : Stmt → Type 0
IsSpelledStmt s = Holds (DerivesStmt (unnamed_stmt s))

abbrev pub IsSpelledDecl : Decl → Type 0
IsSpelledDecl d = Holds (DerivesDecl (unnamed_decl d))

abbrev pub IsSpelledRoutine : Routine → Type 0
IsSpelledRoutine r = Holds (DerivesRoutine (unnamed_routine r))

abbrev pub IsSpelledHeading : Heading → Type 0
IsSpelledHeading h = Holds (DerivesHeading h)
