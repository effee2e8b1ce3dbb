-- Expressions (ISO 7185:1990, 6.7), accesses (6.5) and arguments, read from left to right.
use Rattle.std.specs.Prelude.{ℕ, zero, suc, List, [], ◌∷◌, Option, Some, None}
use Rattle.dice_base.specs.Tokens.{Classes, operator_of, keys}
use Rattle.token_reader.specs.Readers.{Parser, ◌>>=◌, ◌>>◌, pure, refuse, deep, one, by, on, expect, ident, number, string, operator_or_else, separated, many}
use Rattle.pascal_tree.specs.declared.expr.Prefix.{Prefix}
use Rattle.pascal_tree.specs.declared.expr.Prefix.TheVariants as prefix
use Rattle.pascal_tree.specs.declared.expr.Expr.{Expr}
use Rattle.pascal_tree.specs.declared.expr.RelPart.{RelPart}
use Rattle.pascal_tree.specs.declared.expr.SumExpr.{SumExpr}
use Rattle.pascal_tree.specs.declared.expr.AddPart.{AddPart}
use Rattle.pascal_tree.specs.declared.expr.Term.{Term}
use Rattle.pascal_tree.specs.declared.expr.MulPart.{MulPart}
use Rattle.pascal_tree.specs.declared.expr.Factor.{Factor}
use Rattle.pascal_tree.specs.declared.expr.Factor.TheVariants as f
use Rattle.pascal_tree.specs.declared.expr.SetMember.{SetMember}
use Rattle.pascal_tree.specs.declared.expr.Arg.{Arg}
use Rattle.pascal_tree.specs.declared.expr.Access.{Access}
use Rattle.pascal_tree.specs.declared.expr.AccessPart.{AccessPart}
use Rattle.pascal_tree.specs.declared.expr.AccessPart.TheVariants as part
use Rattle.pascal_tree.specs.Classes.{ident_class, number_class, string_class, nil_class, not_class, open_class, close_class, left_class, right_class, period_class, comma_class, colon_class, range_class, arrow_class}
use Rattle.pascal_tree.specs.Expressions.{mul_ops, add_ops, rel_ops, signs, make_mul, make_add, make_rel, make_access, make_member, make_arg, make_term, make_sum, make_expr}

-- what reads one level further in
pub record Inner : Type 0 where
  pub expr : Parser Expr
  pub factor : Parser Factor

unfoldable pub sign : Parser Prefix
sign = operator_or_else signs prefix.Without

-- the classes with which a part of an access begins
abbrev pub part_first : Classes
part_first = left_class ∷ period_class ∷ arrow_class ∷ []

module _ (inner : Inner) where
  unfoldable pub access_part : Parser AccessPart
  access_part =
      on left_class (do
        found ← separated comma_class inner.expr
        expect right_class
        pure (part.Index found))
      (on period_class (ident >>= (λ x. pure (part.Field x)))
      (on arrow_class (pure part.Dereference) refuse))

  -- what follows the identifier
  unfoldable pub access_rest : List ℕ → Parser Access
  access_rest x = many part_first access_part [] >>= (λ parts. pure (make_access x parts))

  unfoldable pub access : Parser Access
  access = ident >>= access_rest

  unfoldable pub width : Parser (Option Expr)
  width = on colon_class (inner.expr >>= (λ e. pure (Some e))) (pure None)

  unfoldable pub arg : Parser Arg
  arg = do
    e ← inner.expr
    w ← width
    pure (make_arg e w)

  -- what follows `(`
  unfoldable pub args_rest : Parser (List Arg)
  args_rest = do
    args ← separated comma_class arg
    expect close_class
    pure args

  unfoldable pub args : Parser (List Arg)
  args = on open_class args_rest (pure [])

  unfoldable pub last : Parser (Option Expr)
  last = on range_class (inner.expr >>= (λ e. pure (Some e))) (pure None)

  unfoldable pub member : Parser SetMember
  member = do
    first ← inner.expr
    l ← last
    pure (make_member first l)

  -- what follows `[`
  unfoldable pub members_rest : Parser Factor
  members_rest =
      on right_class (pure (f.Members []))
      (do
        found ← separated comma_class member
        expect right_class
        pure (f.Members found))

  -- an identifier, and by what follows it a call or an access
  unfoldable pub by_ident : Parser Factor
  by_ident = ident >>= (λ x.
      on open_class (args_rest >>= (λ args. pure (f.Call x args)))
      (access_rest x >>= (λ a. pure (f.Access a))))

  unfoldable pub factor : Parser Factor
  factor =
      by (number_class ∷ []) (number >>= (λ n. pure (f.Number n)))
      (by (string_class ∷ []) (string >>= (λ x. pure (f.Str x)))
      (on nil_class (pure f.Nil)
      (by (ident_class ∷ []) by_ident
      (on left_class members_rest
      (on open_class (do
        e ← inner.expr
        expect close_class
        pure (f.Paren e))
      (on not_class (inner.factor >>= (λ x. pure (f.Not x))) refuse))))))

  unfoldable pub mul_part : Parser MulPart
  mul_part = do
    o ← one (operator_of mul_ops)
    x ← factor
    pure (make_mul o x)

  unfoldable pub term : Parser Term
  term = do
    x ← factor
    rest ← many (keys mul_ops) mul_part []
    pure (make_term x rest)

  unfoldable pub add_part : Parser AddPart
  add_part = do
    o ← one (operator_of add_ops)
    x ← term
    pure (make_add o x)

  unfoldable pub sum : Parser SumExpr
  sum = do
    p ← sign
    x ← term
    rest ← many (keys add_ops) add_part []
    pure (make_sum p x rest)

  unfoldable pub rel_part : Parser (Option RelPart)
  rel_part = by (keys rel_ops) (do
    o ← one (operator_of rel_ops)
    x ← sum
    pure (Some (make_rel o x)))
      (pure None)

  unfoldable pub expr : Parser Expr
  expr = do
    x ← sum
    rest ← rel_part
    pure (make_expr x rest)

-- with this many levels that may nest
unfoldable pub inside : ℕ → Inner
inside zero = record { expr = deep; factor = deep }
inside (suc d) = record { expr = expr (inside d); factor = factor (inside d) }
