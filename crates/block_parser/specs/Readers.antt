-- Blocks (ISO 7185:1990, 6.2.1), procedures and functions (6.6.1, 6.6.2) and programs (6.10), read from left to right.
-- What reads the body of a block is left open: a reader for each number of levels.
use Rattle.std.specs.Prelude.{ℕ, zero, suc, List, [], ◌∷◌, Option, Some, None}
use Rattle.dice_base.specs.Tokens.{Classes}
use Rattle.token_reader.specs.Readers.{Parser, ◌>>=◌, ◌>>◌, pure, deep, one, by, on, expect, ident, many, some}
use Rattle.pascal_tree.specs.declared.typing.TypeText.{TypeText}
use Rattle.pascal_tree.specs.declared.decl.Decl.{Decl}
use Rattle.pascal_tree.specs.declared.decl.DeclKind.{DeclKind}
use Rattle.pascal_tree.specs.declared.decl.Heading.{Heading}
use Rattle.pascal_tree.specs.declared.decl.Block.{Block}
use Rattle.pascal_tree.specs.declared.decl.Routine.{Routine}
use Rattle.pascal_tree.specs.declared.program.Tree.{Tree}
use Rattle.pascal_tree.specs.declared.stmt.StmtKind.{StmtKind}
use Rattle.pascal_tree.specs.Classes.{ident_class, const_class, function_class, label_class, procedure_class, program_class, type_class, var_class, open_class, close_class, period_class, semicolon_class}
use Rattle.pascal_tree.specs.Declarations.{make_decl}
use Rattle.pascal_tree.specs.Programs.{forward_of, make_block, make_routine, make_program}
use Rattle.declaration_parser.specs.Readers.{idents, type_in, labels, constdef, typedef, vardef, heading}

-- ---- the declarations of a block

-- a declaration with its semicolon
unfoldable pub ended_decl : Parser DeclKind → Parser Decl
ended_decl kind = do
  k ← kind
  expect semicolon_class
  pure (make_decl k)

unfoldable pub labels_part : Parser (Option Decl)
labels_part = on label_class (ended_decl labels >>= (λ d. pure (Some d))) (pure None)

-- a word and one declaration or more, or none
unfoldable pub decls_part : ℕ → Parser DeclKind → Parser (List Decl)
decls_part word kind = on word (some (ident_class ∷ []) (ended_decl kind)) (pure [])

-- ---- blocks and routines

-- the classes with which a routine begins
abbrev pub routine_first : Classes
routine_first = procedure_class ∷ function_class ∷ []

-- a routine with its semicolon
unfoldable pub ended_routine : Parser Routine → Parser Routine
ended_routine routine = do
  p ← routine
  expect semicolon_class
  pure p

-- where a type is at the level of the block, and a routine and the body are one level further in
unfoldable pub block : Parser TypeText → Parser Routine → Parser StmtKind → Parser Block
block typ routine body = do
  ls ← labels_part
  cs ← decls_part const_class constdef
  ts ← decls_part type_class (typedef typ)
  vs ← decls_part var_class (vardef typ)
  ps ← many routine_first (ended_routine routine) []
  b ← body
  pure (make_block ls cs ts vs ps b)

-- what follows the heading and its semicolon: the directive `forward`, or a block
unfoldable pub routine_rest : Parser Block → Heading → Parser Routine
routine_rest inner h =
    by (ident_class ∷ []) (one forward_of >>= (λ _. pure (make_routine h None)))
    (inner >>= (λ b. pure (make_routine h (Some b))))

unfoldable pub whole_routine : Parser Block → Parser Routine
whole_routine inner = do
  h ← heading
  expect semicolon_class
  routine_rest inner h

-- ---- programs

-- the program parameters, or none
unfoldable pub files : Parser (List (List ℕ))
files =
    on open_class (do
      xs ← idents
      expect close_class
      pure xs)
    (pure [])

unfoldable pub whole_program : Parser Block → Parser Tree
whole_program inner = do
  expect program_class
  x ← ident
  fs ← files
  expect semicolon_class
  b ← inner
  expect period_class
  pure (make_program x fs b)

-- ---- with this many levels

module _ (body : ℕ → Parser StmtKind) where
  unfoldable pub routine_in : ℕ → Parser Routine
  routine_in zero = deep
  routine_in (suc d) = whole_routine (block (type_in (suc d)) (routine_in d) (body d))

  -- besides that of the block, and of the program
  unfoldable pub block_in : ℕ → Parser Block
  block_in d = block (type_in (suc d)) (routine_in d) (body d)

  unfoldable pub program_in : ℕ → Parser Tree
  program_in d = whole_program (block_in d)
