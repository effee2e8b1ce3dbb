-- Statements (ISO 7185:1990, 6.8), their headers and the bodies of blocks, read from left to right.
use Rattle.std.specs.Prelude.{ℕ, zero, suc, List, [], ◌∷◌, ◌++◌, Some, None}
use Rattle.dice_base.specs.Tokens.{Classes, operator_of}
use Rattle.token_reader.specs.Readers.{Parser, ◌>>=◌, ◌>>◌, pure, deep, one, by, on, expect, ident, number, separated, ended}
use Rattle.pascal_tree.specs.declared.expr.Expr.{Expr}
use Rattle.pascal_tree.specs.declared.stmt.Stmt.{Stmt}
use Rattle.pascal_tree.specs.declared.stmt.StmtKind.{StmtKind}
use Rattle.pascal_tree.specs.declared.stmt.StmtKind.TheVariants as s
use Rattle.pascal_tree.specs.declared.stmt.Arm.{Arm}
use Rattle.pascal_tree.specs.Classes.{ident_class, number_class, hole_class, begin_class, case_class, do_class, else_class, end_class, for_class, goto_class, if_class, of_class, repeat_class, then_class, until_class, while_class, with_class, becomes_class, comma_class, semicolon_class, colon_class}
use Rattle.pascal_tree.specs.Statements.{directions, make_stmt, make_arm}
use Rattle.expression_parser.specs.Readers.{Inner, inside, expr, access, access_rest, args, part_first}
use Rattle.declaration_parser.specs.Readers.{constant, constant_first}

-- what tells, behind an identifier, that an assignment follows
abbrev pub assign_first : Classes
assign_first = part_first ++ becomes_class ∷ []

-- ---- without substatements

-- a goto statement (6.8.2.4)
unfoldable pub goto_statement : Parser StmtKind
goto_statement = expect goto_class >> (number >>= (λ n. pure (s.Goto n)))

module _ (inner : Inner) where
  -- an assignment (6.8.2.2), behind the identifier
  unfoldable pub assign : List ℕ → Parser StmtKind
  assign x = do
    a ← access_rest inner x
    expect becomes_class
    e ← expr inner
    pure (s.Assign a e)

  -- a procedure statement (6.8.2.3), behind the identifier
  unfoldable pub call : List ℕ → Parser StmtKind
  call x = args inner >>= (λ args. pure (s.Call x args))

  -- an identifier, and by what follows it an assignment or a call
  unfoldable pub by_ident : Parser StmtKind
  by_ident = ident >>= (λ x. by assign_first (assign x) (call x))

-- ---- over the reader of a statement one level further in

module _ (stmt : Parser Stmt) where
  -- a compound statement (6.8.3.2)
  unfoldable pub compound : Parser StmtKind
  compound = do
    expect begin_class
    body ← separated semicolon_class stmt
    expect end_class
    pure (s.Compound body)

  -- behind the first branch: an `else` that comes next belongs to this `if`
  unfoldable pub else_part : Expr → Stmt → Parser StmtKind
  else_part c a = on else_class (stmt >>= (λ b. pure (s.If c a (Some b)))) (pure (s.If c a None))

  -- constants, and the statement that they choose
  unfoldable pub arm : Parser Arm
  arm = do
    constants ← separated comma_class constant
    expect colon_class
    body ← stmt
    pure (make_arm constants body)

module _ (inner : Inner) (stmt : Parser Stmt) where
  -- an if statement (6.8.3.4)
  unfoldable pub if_statement : Parser StmtKind
  if_statement = do
    expect if_class
    c ← expr inner
    expect then_class
    a ← stmt
    else_part stmt c a

  -- a case statement (6.8.3.5)
  unfoldable pub case_statement : Parser StmtKind
  case_statement = do
    expect case_class
    e ← expr inner
    expect of_class
    arms ← ended semicolon_class constant_first (arm stmt)
    expect end_class
    pure (s.Case e arms)

  -- a while statement (6.8.3.8)
  unfoldable pub while_statement : Parser StmtKind
  while_statement = do
    expect while_class
    c ← expr inner
    expect do_class
    body ← stmt
    pure (s.While c body)

  -- a for statement (6.8.3.9)
  unfoldable pub for_statement : Parser StmtKind
  for_statement = do
    expect for_class
    x ← ident
    expect becomes_class
    first ← expr inner
    down ← one (operator_of directions)
    last ← expr inner
    expect do_class
    body ← stmt
    pure (s.For x first down last body)

  -- a with statement (6.8.3.10)
  unfoldable pub with_statement : Parser StmtKind
  with_statement = do
    expect with_class
    records ← separated comma_class (access inner)
    expect do_class
    body ← stmt
    pure (s.With records body)

  -- and over the reader of the statements of a `repeat`
  module _ (sequence : Parser (List Stmt)) where
    -- a repeat statement (6.8.3.7)
    unfoldable pub repeat_statement : Parser StmtKind
    repeat_statement = do
      expect repeat_class
      body ← sequence
      expect until_class
      c ← expr inner
      pure (s.Repeat body c)

    -- a statement without its label
    unfoldable pub kind : Parser StmtKind
    kind =
        by (begin_class ∷ []) (compound stmt)
        (by (if_class ∷ []) if_statement
        (by (case_class ∷ []) case_statement
        (by (while_class ∷ []) while_statement
        (by (repeat_class ∷ []) repeat_statement
        (by (for_class ∷ []) for_statement
        (by (with_class ∷ []) with_statement
        (by (goto_class ∷ []) goto_statement
        (by (ident_class ∷ []) (by_ident inner)
        (pure s.Empty)))))))))

    -- behind its label
    unfoldable pub labelled : Parser Stmt
    labelled = do
      n ← number
      expect colon_class
      x ← kind
      pure (make_stmt (Some n) x)

    -- a statement, behind its label or without one (6.8.1)
    unfoldable pub statement : Parser Stmt
    statement = by (number_class ∷ []) labelled (kind >>= (λ x. pure (make_stmt None x)))

-- ---- with at most so many levels

unfoldable pub stmt_in : ℕ → Parser Stmt
stmt_in zero = deep
stmt_in (suc d) = statement (inside d) (stmt_in d) (separated semicolon_class (stmt_in d))

-- a substatement that is left out
unfoldable pub hole : Parser Stmt
hole = expect hole_class >> pure (make_stmt None s.Empty)

-- the statements of a `repeat`, left out as one
unfoldable pub hole_list : Parser (List Stmt)
hole_list = hole >>= (λ x. pure (x ∷ []))

-- a statement whose substatements are left out
unfoldable pub header_in : ℕ → Parser Stmt
header_in zero = deep
header_in (suc d) = statement (inside d) hole hole_list

-- the body of a block
unfoldable pub body_in : ℕ → Parser StmtKind
body_in zero = deep
body_in (suc d) = compound (stmt_in d)
