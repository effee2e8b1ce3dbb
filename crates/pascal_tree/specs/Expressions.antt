-- The grammar of variable accesses (ISO 7185:1990, 6.5), of expressions (6.7) and of arguments (6.7.3, 6.9.3.1).
use Rattle.std.specs.Prelude.{ℕ, zero, suc, false, List, [], ◌∷◌, Option, Some, None}
use Rattle.dice_base.specs.Tokens.{operator_of}
use Rattle.dice_base.specs.Forms.{Form, never, just, one, token, chain, either, operator_or, rows, list_of, named, numeral, quoted}
use Rattle.pascal_tree.specs.Classes.{and_class, div_class, in_class, mod_class, nil_class, not_class, or_class, plus_class, minus_class, times_class, equal_class, not_equal_class, less_class, greater_class, at_most_class, at_least_class, open_class, close_class, left_class, right_class, period_class, comma_class, colon_class, range_class, arrow_class}
use Rattle.pascal_tree.specs.declared.expr.Prefix.{Prefix}
use Rattle.pascal_tree.specs.declared.expr.Prefix.TheVariants as prefix
use Rattle.pascal_tree.specs.declared.expr.AddOp.{AddOp}
use Rattle.pascal_tree.specs.declared.expr.AddOp.TheVariants as add
use Rattle.pascal_tree.specs.declared.expr.MulOp.{MulOp}
use Rattle.pascal_tree.specs.declared.expr.MulOp.TheVariants as mul
use Rattle.pascal_tree.specs.declared.expr.RelOp.{RelOp}
use Rattle.pascal_tree.specs.declared.expr.RelOp.TheVariants as rel
use Rattle.pascal_tree.specs.declared.expr.Expr.{Expr, roll-Expr}
use Rattle.pascal_tree.specs.declared.expr.RelPart.{RelPart, roll-RelPart}
use Rattle.pascal_tree.specs.declared.expr.SumExpr.{SumExpr, roll-SumExpr}
use Rattle.pascal_tree.specs.declared.expr.AddPart.{AddPart, roll-AddPart}
use Rattle.pascal_tree.specs.declared.expr.Term.{Term, roll-Term}
use Rattle.pascal_tree.specs.declared.expr.MulPart.{MulPart, roll-MulPart}
use Rattle.pascal_tree.specs.declared.expr.Factor.{Factor}
use Rattle.pascal_tree.specs.declared.expr.Factor.TheVariants as f
use Rattle.pascal_tree.specs.declared.expr.SetMember.{SetMember, roll-SetMember}
use Rattle.pascal_tree.specs.declared.expr.Arg.{Arg, roll-Arg}
use Rattle.pascal_tree.specs.declared.expr.Access.{Access, roll-Access}
use Rattle.pascal_tree.specs.declared.expr.AccessPart.{AccessPart}
use Rattle.pascal_tree.specs.declared.expr.AccessPart.TheVariants as part

-- ---- operators (6.7.2.1), each with the class of its token

abbrev pub mul_ops : List (ℕ × MulOp)
mul_ops =
    (times_class, mul.Times) ∷ (div_class, mul.Div) ∷ (mod_class, mul.Mod) ∷ (and_class, mul.And) ∷ []

abbrev pub add_ops : List (ℕ × AddOp)
add_ops = (plus_class, add.Plus) ∷ (minus_class, add.Minus) ∷ (or_class, add.Or) ∷ []

abbrev pub rel_ops : List (ℕ × RelOp)
rel_ops =
    (equal_class, rel.Equal) ∷ (not_equal_class, rel.NotEqual)
    ∷ (less_class, rel.Less) ∷ (greater_class, rel.Greater)
    ∷ (at_most_class, rel.LessEqual) ∷ (at_least_class, rel.GreaterEqual)
    ∷ (in_class, rel.Member) ∷ []

-- the signs before a sum or a constant
abbrev pub signs : List (ℕ × Prefix)
signs = (plus_class, prefix.Plus) ∷ (minus_class, prefix.Minus) ∷ []

-- ---- trees of their parts

abbrev pub make_mul : MulOp → Factor → MulPart
make_mul op x = roll-MulPart (record { op = op; right = x })

abbrev pub make_add : AddOp → Term → AddPart
make_add op x = roll-AddPart (record { op = op; right = x })

abbrev pub make_rel : RelOp → SumExpr → RelPart
make_rel op x = roll-RelPart (record { op = op; right = x })

abbrev pub make_access : List ℕ → List AccessPart → Access
make_access x parts = roll-Access (record { ident = x; parts = parts })

abbrev pub make_member : Expr → Option Expr → SetMember
make_member first last = roll-SetMember (record { first = first; last = last })

abbrev pub make_arg : Expr → Option Expr → Arg
make_arg e width = roll-Arg (record { value = e; width = width })

abbrev pub make_term : Factor → List MulPart → Term
make_term x rest = roll-Term (record { first = x; rest = rest })

abbrev pub make_sum : Prefix → Term → List AddPart → SumExpr
make_sum p x rest = roll-SumExpr (record { prefix = p; first = x; rest = rest })

abbrev pub make_expr : SumExpr → Option RelPart → Expr
make_expr x rest = roll-Expr (record { first = x; rest = rest })

-- ---- accesses, arguments, sets and factors, where E and N are an expression and an operand of `not` one level further in

module _ (E : Form Expr) where
  -- one step to a component: indices (6.5.3.2), a field (6.5.3.3), or what a pointer identifies (6.5.4)
  abbrev pub part_form : Form AccessPart
  part_form =
      either (token left_class (chain (list_of comma_class E) (λ found _.
      token right_class (just (part.Index found) false))))
      (either (token period_class (chain named (λ x _. just (part.Field x) false)))
      (either (token arrow_class (just part.Dereference false)) never))

  -- an identifier and its steps (6.5.1)
  abbrev pub access_form : Form Access
  access_form = chain named (λ x _. chain (rows part_form) (λ parts _. just (make_access x parts) false))

  -- the width after a colon, as in the parameters of `write` (6.9.3.1)
  abbrev pub width_form : Form (Option Expr)
  width_form = either (token colon_class (chain E (λ e _. just (Some e) false))) (just None false)

  abbrev pub arg_form : Form Arg
  arg_form = chain E (λ e _. chain width_form (λ width _. just (make_arg e width) false))

  -- what follows `(` of a parameter list (6.7.3)
  abbrev pub args_in : Form (List Arg)
  args_in = chain (list_of comma_class arg_form) (λ args _. token close_class (just args false))

  -- a parameter list, or none
  abbrev pub args_form : Form (List Arg)
  args_form = either (token open_class args_in) (just [] false)

  -- a member, or the last one of a range (6.7.1)
  abbrev pub last_form : Form (Option Expr)
  last_form = either (token range_class (chain E (λ e _. just (Some e) false))) (just None false)

  abbrev pub member_form : Form SetMember
  member_form = chain E (λ first _. chain last_form (λ last _. just (make_member first last) false))

  -- what follows `[` of a set constructor (6.7.1)
  abbrev pub members_in : Form Factor
  members_in =
      either (token right_class (just (f.Members []) false))
      (chain (list_of comma_class member_form) (λ found _. token right_class (just (f.Members found) false)))

  module _ (N : Form Factor) where
    abbrev pub factor_form : Form Factor
    factor_form =
        either (chain numeral (λ n _. just (f.Number n) false))
        (either (chain quoted (λ x _. just (f.Str x) false))
        (either (token nil_class (just f.Nil false))
        (either (either (chain named (λ x _. token open_class (chain args_in (λ args _. just (f.Call x args) false))))
        (chain access_form (λ a _. just (f.Access a) false)))
        (either (token left_class members_in)
        (either (token open_class (chain E (λ e _. token close_class (just (f.Paren e) false))))
        (either (token not_class (chain N (λ x _. just (f.Not x) false))) never))))))

-- ---- terms, sums and expressions over factors

abbrev pub sign_form : Form Prefix
sign_form = operator_or signs prefix.Without

module _ (factor : Form Factor) where
  abbrev pub mul_form : Form MulPart
  mul_form = chain (one (operator_of mul_ops)) (λ o _. chain factor (λ x _. just (make_mul o x) false))

  abbrev pub term_form : Form Term
  term_form = chain factor (λ x _. chain (rows mul_form) (λ rest _. just (make_term x rest) false))

  abbrev pub add_form : Form AddPart
  add_form = chain (one (operator_of add_ops)) (λ o _. chain term_form (λ x _. just (make_add o x) false))

  abbrev pub sum_form : Form SumExpr
  sum_form =
      chain sign_form (λ p _. chain term_form (λ x _. chain (rows add_form) (λ rest _.
      just (make_sum p x rest) false)))

  abbrev pub rel_form : Form (Option RelPart)
  rel_form =
      either (chain (one (operator_of rel_ops)) (λ o _. chain sum_form (λ x _. just (Some (make_rel o x)) false)))
      (just None false)

  abbrev pub expr_form : Form Expr
  expr_form = chain sum_form (λ x _. chain rel_form (λ rest _. just (make_expr x rest) false))

-- ---- with at most so many levels

unfoldable mutual
  pub expr_at : ℕ → Form Expr
  expr_at zero = never
  expr_at (suc d) = expr_form (factor_form (expr_at d) (factor_at d))

  pub factor_at : ℕ → Form Factor
  factor_at zero = never
  factor_at (suc d) = factor_form (expr_at d) (factor_at d)
