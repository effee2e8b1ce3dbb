-- The grammar of statements (ISO 7185:1990, 6.8). The flag says that a statement is open: it is an `if` without `else`, or
-- its last part is an open statement that no word ends. An `else` belongs to the nearest `if` that has none (6.8.3.4), so
-- the first branch of an `if` with `else` is not open.
use Rattle.std.specs.Prelude.{ℕ, zero, suc, Bool, true, false, List, [], ◌∷◌, Option, Some, None}
use Rattle.dice_base.specs.Tokens.{operator_of}
use Rattle.dice_base.specs.Forms.{Form, never, just, one, token, chain, either, list_of, ended_list, named, numeral}
use Rattle.pascal_tree.specs.Classes.{begin_class, case_class, do_class, downto_class, else_class, end_class, for_class, goto_class, if_class, of_class, repeat_class, then_class, to_class, until_class, while_class, with_class, hole_class, becomes_class, comma_class, semicolon_class, colon_class}
use Rattle.pascal_tree.specs.declared.expr.Expr.{Expr}
use Rattle.pascal_tree.specs.declared.stmt.Constant.{Constant}
use Rattle.pascal_tree.specs.declared.stmt.Stmt.{Stmt, roll-Stmt}
use Rattle.pascal_tree.specs.declared.stmt.StmtKind.{StmtKind}
use Rattle.pascal_tree.specs.declared.stmt.StmtKind.TheVariants as s
use Rattle.pascal_tree.specs.declared.stmt.Arm.{Arm, roll-Arm}
use Rattle.pascal_tree.specs.Expressions.{access_form, args_form, expr_at}
use Rattle.pascal_tree.specs.Declarations.{no_name, constant_form}

-- trees of their parts
abbrev pub make_stmt : Option ℕ → StmtKind → Stmt
make_stmt label kind = roll-Stmt (record { name = no_name; label = label; kind = kind })

abbrev pub make_arm : List Constant → Stmt → Arm
make_arm constants body = roll-Arm (record { constants = constants; body = body })

-- the steps of a `for` statement go up or down
abbrev pub directions : List (ℕ × Bool)
directions = (to_class, false) ∷ (downto_class, true) ∷ []

-- ---- where E is an expression of the statement, and A an expression one level further in

module _ (E A : Form Expr) where
  -- an assignment (6.8.2.2)
  abbrev pub assign_form : Form StmtKind
  assign_form = chain (access_form A) (λ a _. token becomes_class (chain E (λ e _. just (s.Assign a e) false)))

module _ (A : Form Expr) where
  -- a procedure statement (6.8.2.3)
  abbrev pub call_form : Form StmtKind
  call_form = chain named (λ x _. chain (args_form A) (λ args _. just (s.Call x args) false))

-- ---- and S is a statement one level further in, and Q the statements of a `repeat`

module _ (E A : Form Expr) (S : Form Stmt) (Q : Form (List Stmt)) where
  -- what follows `begin` (6.8.3.2)
  abbrev pub compound_in : Form StmtKind
  compound_in = chain (list_of semicolon_class S) (λ body _. token end_class (just (s.Compound body) false))

  -- what follows the first branch of an `if` (6.8.3.4)
  abbrev pub else_form : Expr → Stmt → Bool → Form StmtKind
  else_form c a true = just (s.If c a None) true
  else_form c a false =
      either (token else_class (chain S (λ b w. just (s.If c a (Some b)) w))) (just (s.If c a None) true)

  abbrev pub if_in : Form StmtKind
  if_in = chain E (λ c _. token then_class (chain S (λ a w. else_form c a w)))

  -- constants, and the statement that they choose (6.8.3.5)
  abbrev pub arm_form : Form Arm
  arm_form =
      chain (list_of comma_class constant_form) (λ constants _.
      token colon_class (chain S (λ body w. just (make_arm constants body) w)))

  abbrev pub case_in : Form StmtKind
  case_in =
      chain E (λ e _. token of_class (chain (ended_list semicolon_class arm_form) (λ arms _.
      token end_class (just (s.Case e arms) false))))

  -- what follows `while` (6.8.3.8)
  abbrev pub while_in : Form StmtKind
  while_in = chain E (λ c _. token do_class (chain S (λ body w. just (s.While c body) w)))

  -- what follows `repeat` (6.8.3.7)
  abbrev pub repeat_in : Form StmtKind
  repeat_in = chain Q (λ body _. token until_class (chain E (λ c _. just (s.Repeat body c) false)))

  -- what follows `for` (6.8.3.9)
  abbrev pub for_in : Form StmtKind
  for_in =
      chain named (λ x _. token becomes_class (chain E (λ first _.
      chain (one (operator_of directions)) (λ down _. chain E (λ last _.
      token do_class (chain S (λ body w. just (s.For x first down last body) w)))))))

  -- what follows `with` (6.8.3.10)
  abbrev pub with_in : Form StmtKind
  with_in =
      chain (list_of comma_class (access_form A)) (λ records _.
      token do_class (chain S (λ body w. just (s.With records body) w)))

  -- a statement without its label
  abbrev pub kind_form : Form StmtKind
  kind_form =
      either (token begin_class compound_in)
      (either (token if_class if_in)
      (either (token case_class case_in)
      (either (token while_class while_in)
      (either (token repeat_class repeat_in)
      (either (token for_class for_in)
      (either (token with_class with_in)
      (either (token goto_class (chain numeral (λ n _. just (s.Goto n) false)))
      (either (either (assign_form E A) (call_form A))
      (just s.Empty false)))))))))

  -- a statement, behind its label or without one (6.8.1)
  abbrev pub stmt_form : Form Stmt
  stmt_form =
      either (chain numeral (λ n _. token colon_class (chain kind_form (λ kind w. just (make_stmt (Some n) kind) w))))
      (chain kind_form (λ kind w. just (make_stmt None kind) w))

-- a statement with at most so many levels
unfoldable pub stmt_at : ℕ → Form Stmt
stmt_at zero = never
stmt_at (suc d) = stmt_form (expr_at (suc d)) (expr_at d) (stmt_at d) (list_of semicolon_class (stmt_at d))

-- ---- headers: each substatement is left out, and of a `repeat` all of them as one

abbrev pub hole_form : Form Stmt
hole_form = token hole_class (just (make_stmt None s.Empty) false)

unfoldable pub header_at : ℕ → Form Stmt
header_at zero = never
header_at (suc d) =
    stmt_form (expr_at (suc d)) (expr_at d) hole_form (chain hole_form (λ hole _. just (hole ∷ []) false))
