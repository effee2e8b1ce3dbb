-- Whether an expression is formed and how many levels it takes, by the same of its parts.
use Rattle.std.specs.Prelude.{ℕ, Bool}
use Rattle.pascal_tree.specs.declared.expr.AccessPart.{AccessPart, AccessPart-F, roll-AccessPart, map-AccessPart}
use Rattle.pascal_tree.specs.declared.expr.Factor.{Factor, Factor-F, roll-Factor, map-Factor}
use Rattle.pascal_tree.specs.declared.expr.Access.{Access, Access-F, roll-Access, map-Access}
use Rattle.pascal_tree.specs.declared.expr.AddPart.{AddPart, AddPart-F, roll-AddPart, map-AddPart}
use Rattle.pascal_tree.specs.declared.expr.Arg.{Arg, Arg-F, roll-Arg, map-Arg}
use Rattle.pascal_tree.specs.declared.expr.Expr.{Expr, Expr-F, roll-Expr, map-Expr}
use Rattle.pascal_tree.specs.declared.expr.MulPart.{MulPart, MulPart-F, roll-MulPart, map-MulPart}
use Rattle.pascal_tree.specs.declared.expr.RelPart.{RelPart, RelPart-F, roll-RelPart, map-RelPart}
use Rattle.pascal_tree.specs.declared.expr.SetMember.{SetMember, SetMember-F, roll-SetMember, map-SetMember}
use Rattle.pascal_tree.specs.declared.expr.SumExpr.{SumExpr, SumExpr-F, roll-SumExpr, map-SumExpr}
use Rattle.pascal_tree.specs.declared.expr.Term.{Term, Term-F, roll-Term, map-Term}
use Rattle.pascal_tree.specs.declared.expr.AccessPart.TheFolds.{fold-roll-AccessPart, fold-roll-Factor, fold-roll-Access, fold-roll-AddPart, fold-roll-Arg, fold-roll-Expr, fold-roll-MulPart, fold-roll-RelPart, fold-roll-SetMember, fold-roll-SumExpr, fold-roll-Term}
use Rattle.pascal_tree.specs.FormedExprs.{formed_access_part, formed_factor, formed_access, formed_add_part, formed_arg, formed_expr, formed_mul_part, formed_rel_part, formed_member, formed_sum, formed_term, access_part_is_formed, factor_is_formed, access_is_formed, add_part_is_formed, arg_is_formed, expr_is_formed, mul_part_is_formed, rel_part_is_formed, member_is_formed, sum_is_formed, term_is_formed}
use Rattle.pascal_tree.specs.Depth.{depth_of_access_part, depth_of_factor, depth_of_access, depth_of_add_part, depth_of_arg, depth_of_expr, depth_of_mul_part, depth_of_rel_part, depth_of_member, depth_of_sum, depth_of_term, access_part_depth, factor_depth, access_depth, add_part_depth, arg_depth, expr_depth, mul_part_depth, rel_part_depth, member_depth, sum_depth, term_depth}
use Rattle.expression_laws.proofs.Layers.{Layer}

-- ---- a layer of each, with trees in the places of its parts

abbrev pub AccessPartLayer : Type 0
AccessPartLayer = AccessPart-F AccessPart Factor Access AddPart Arg Expr MulPart RelPart SetMember SumExpr Term

abbrev pub FactorLayer : Type 0
FactorLayer = Factor-F AccessPart Factor Access AddPart Arg Expr MulPart RelPart SetMember SumExpr Term

abbrev pub AccessLayer : Type 0
AccessLayer = Access-F AccessPart Factor Access AddPart Arg Expr MulPart RelPart SetMember SumExpr Term

abbrev pub AddPartLayer : Type 0
AddPartLayer = AddPart-F AccessPart Factor Access AddPart Arg Expr MulPart RelPart SetMember SumExpr Term

abbrev pub ArgLayer : Type 0
ArgLayer = Arg-F AccessPart Factor Access AddPart Arg Expr MulPart RelPart SetMember SumExpr Term

abbrev pub ExprLayer : Type 0
ExprLayer = Expr-F AccessPart Factor Access AddPart Arg Expr MulPart RelPart SetMember SumExpr Term

abbrev pub MulPartLayer : Type 0
MulPartLayer = MulPart-F AccessPart Factor Access AddPart Arg Expr MulPart RelPart SetMember SumExpr Term

abbrev pub RelPartLayer : Type 0
RelPartLayer = RelPart-F AccessPart Factor Access AddPart Arg Expr MulPart RelPart SetMember SumExpr Term

abbrev pub SetMemberLayer : Type 0
SetMemberLayer = SetMember-F AccessPart Factor Access AddPart Arg Expr MulPart RelPart SetMember SumExpr Term

abbrev pub SumExprLayer : Type 0
SumExprLayer = SumExpr-F AccessPart Factor Access AddPart Arg Expr MulPart RelPart SetMember SumExpr Term

abbrev pub TermLayer : Type 0
TermLayer = Term-F AccessPart Factor Access AddPart Arg Expr MulPart RelPart SetMember SumExpr Term

-- ---- what a layer says

abbrev pub access_part_formed : AccessPartLayer → Bool
access_part_formed x =
    formed_access_part (map-AccessPart AccessPart Factor Access AddPart Arg Expr MulPart RelPart SetMember SumExpr
    Term
    Bool Bool Bool Bool Bool Bool Bool Bool Bool Bool Bool
    access_part_is_formed factor_is_formed access_is_formed add_part_is_formed arg_is_formed expr_is_formed
    mul_part_is_formed rel_part_is_formed member_is_formed sum_is_formed term_is_formed x)

abbrev pub access_part_levels : AccessPartLayer → ℕ
access_part_levels x =
    depth_of_access_part
    (map-AccessPart AccessPart Factor Access AddPart Arg Expr MulPart RelPart SetMember SumExpr Term
    ℕ ℕ ℕ ℕ ℕ ℕ ℕ ℕ ℕ ℕ ℕ
    access_part_depth factor_depth access_depth add_part_depth arg_depth expr_depth mul_part_depth rel_part_depth
    member_depth sum_depth term_depth x)

pub access_part_layer : Layer access_part_is_formed access_part_depth roll-AccessPart access_part_formed
    access_part_levels
unfolding access_part_is_formed factor_is_formed access_is_formed add_part_is_formed arg_is_formed expr_is_formed mul_part_is_formed rel_part_is_formed member_is_formed sum_is_formed term_is_formed access_part_depth factor_depth access_depth add_part_depth arg_depth expr_depth mul_part_depth rel_part_depth member_depth sum_depth term_depth
access_part_layer = record {
  formed_is = λ x. fold-roll-AccessPart Bool Bool Bool Bool Bool Bool Bool Bool Bool Bool Bool formed_access_part
      formed_factor formed_access formed_add_part formed_arg formed_expr formed_mul_part formed_rel_part formed_member
      formed_sum formed_term x;
  depth_is = λ x. fold-roll-AccessPart ℕ ℕ ℕ ℕ ℕ ℕ ℕ ℕ ℕ ℕ ℕ depth_of_access_part depth_of_factor depth_of_access
      depth_of_add_part depth_of_arg depth_of_expr depth_of_mul_part depth_of_rel_part depth_of_member depth_of_sum
      depth_of_term x;
}

abbrev pub factor_formed : FactorLayer → Bool
factor_formed x =
    formed_factor (map-Factor AccessPart Factor Access AddPart Arg Expr MulPart RelPart SetMember SumExpr Term
    Bool Bool Bool Bool Bool Bool Bool Bool Bool Bool Bool
    access_part_is_formed factor_is_formed access_is_formed add_part_is_formed arg_is_formed expr_is_formed
    mul_part_is_formed rel_part_is_formed member_is_formed sum_is_formed term_is_formed x)

abbrev pub factor_levels : FactorLayer → ℕ
factor_levels x =
    depth_of_factor (map-Factor AccessPart Factor Access AddPart Arg Expr MulPart RelPart SetMember SumExpr Term
    ℕ ℕ ℕ ℕ ℕ ℕ ℕ ℕ ℕ ℕ ℕ
    access_part_depth factor_depth access_depth add_part_depth arg_depth expr_depth mul_part_depth rel_part_depth
    member_depth sum_depth term_depth x)

pub factor_layer : Layer factor_is_formed factor_depth roll-Factor factor_formed factor_levels
unfolding access_part_is_formed factor_is_formed access_is_formed add_part_is_formed arg_is_formed expr_is_formed mul_part_is_formed rel_part_is_formed member_is_formed sum_is_formed term_is_formed access_part_depth factor_depth access_depth add_part_depth arg_depth expr_depth mul_part_depth rel_part_depth member_depth sum_depth term_depth
factor_layer = record {
  formed_is = λ x. fold-roll-Factor Bool Bool Bool Bool Bool Bool Bool Bool Bool Bool Bool formed_access_part
      formed_factor formed_access formed_add_part formed_arg formed_expr formed_mul_part formed_rel_part formed_member
      formed_sum formed_term x;
  depth_is = λ x. fold-roll-Factor ℕ ℕ ℕ ℕ ℕ ℕ ℕ ℕ ℕ ℕ ℕ depth_of_access_part depth_of_factor depth_of_access
      depth_of_add_part depth_of_arg depth_of_expr depth_of_mul_part depth_of_rel_part depth_of_member depth_of_sum
      depth_of_term x;
}

abbrev pub access_formed : AccessLayer → Bool
access_formed x =
    formed_access (map-Access AccessPart Factor Access AddPart Arg Expr MulPart RelPart SetMember SumExpr Term
    Bool Bool Bool Bool Bool Bool Bool Bool Bool Bool Bool
    access_part_is_formed factor_is_formed access_is_formed add_part_is_formed arg_is_formed expr_is_formed
    mul_part_is_formed rel_part_is_formed member_is_formed sum_is_formed term_is_formed x)

abbrev pub access_levels : AccessLayer → ℕ
access_levels x =
    depth_of_access (map-Access AccessPart Factor Access AddPart Arg Expr MulPart RelPart SetMember SumExpr Term
    ℕ ℕ ℕ ℕ ℕ ℕ ℕ ℕ ℕ ℕ ℕ
    access_part_depth factor_depth access_depth add_part_depth arg_depth expr_depth mul_part_depth rel_part_depth
    member_depth sum_depth term_depth x)

pub access_layer : Layer access_is_formed access_depth roll-Access access_formed access_levels
unfolding access_part_is_formed factor_is_formed access_is_formed add_part_is_formed arg_is_formed expr_is_formed mul_part_is_formed rel_part_is_formed member_is_formed sum_is_formed term_is_formed access_part_depth factor_depth access_depth add_part_depth arg_depth expr_depth mul_part_depth rel_part_depth member_depth sum_depth term_depth
access_layer = record {
  formed_is = λ x. fold-roll-Access Bool Bool Bool Bool Bool Bool Bool Bool Bool Bool Bool formed_access_part
      formed_factor formed_access formed_add_part formed_arg formed_expr formed_mul_part formed_rel_part formed_member
      formed_sum formed_term x;
  depth_is = λ x. fold-roll-Access ℕ ℕ ℕ ℕ ℕ ℕ ℕ ℕ ℕ ℕ ℕ depth_of_access_part depth_of_factor depth_of_access
      depth_of_add_part depth_of_arg depth_of_expr depth_of_mul_part depth_of_rel_part depth_of_member depth_of_sum
      depth_of_term x;
}

abbrev pub add_part_formed : AddPartLayer → Bool
add_part_formed x =
    formed_add_part (map-AddPart AccessPart Factor Access AddPart Arg Expr MulPart RelPart SetMember SumExpr Term
    Bool Bool Bool Bool Bool Bool Bool Bool Bool Bool Bool
    access_part_is_formed factor_is_formed access_is_formed add_part_is_formed arg_is_formed expr_is_formed
    mul_part_is_formed rel_part_is_formed member_is_formed sum_is_formed term_is_formed x)

abbrev pub add_part_levels : AddPartLayer → ℕ
add_part_levels x =
    depth_of_add_part (map-AddPart AccessPart Factor Access AddPart Arg Expr MulPart RelPart SetMember SumExpr Term
    ℕ ℕ ℕ ℕ ℕ ℕ ℕ ℕ ℕ ℕ ℕ
    access_part_depth factor_depth access_depth add_part_depth arg_depth expr_depth mul_part_depth rel_part_depth
    member_depth sum_depth term_depth x)

pub add_part_layer : Layer add_part_is_formed add_part_depth roll-AddPart add_part_formed add_part_levels
unfolding access_part_is_formed factor_is_formed access_is_formed add_part_is_formed arg_is_formed expr_is_formed mul_part_is_formed rel_part_is_formed member_is_formed sum_is_formed term_is_formed access_part_depth factor_depth access_depth add_part_depth arg_depth expr_depth mul_part_depth rel_part_depth member_depth sum_depth term_depth
add_part_layer = record {
  formed_is = λ x. fold-roll-AddPart Bool Bool Bool Bool Bool Bool Bool Bool Bool Bool Bool formed_access_part
      formed_factor formed_access formed_add_part formed_arg formed_expr formed_mul_part formed_rel_part formed_member
      formed_sum formed_term x;
  depth_is = λ x. fold-roll-AddPart ℕ ℕ ℕ ℕ ℕ ℕ ℕ ℕ ℕ ℕ ℕ depth_of_access_part depth_of_factor depth_of_access
      depth_of_add_part depth_of_arg depth_of_expr depth_of_mul_part depth_of_rel_part depth_of_member depth_of_sum
      depth_of_term x;
}

abbrev pub arg_formed : ArgLayer → Bool
arg_formed x =
    formed_arg (map-Arg AccessPart Factor Access AddPart Arg Expr MulPart RelPart SetMember SumExpr Term
    Bool Bool Bool Bool Bool Bool Bool Bool Bool Bool Bool
    access_part_is_formed factor_is_formed access_is_formed add_part_is_formed arg_is_formed expr_is_formed
    mul_part_is_formed rel_part_is_formed member_is_formed sum_is_formed term_is_formed x)

abbrev pub arg_levels : ArgLayer → ℕ
arg_levels x =
    depth_of_arg (map-Arg AccessPart Factor Access AddPart Arg Expr MulPart RelPart SetMember SumExpr Term
    ℕ ℕ ℕ ℕ ℕ ℕ ℕ ℕ ℕ ℕ ℕ
    access_part_depth factor_depth access_depth add_part_depth arg_depth expr_depth mul_part_depth rel_part_depth
    member_depth sum_depth term_depth x)

pub arg_layer : Layer arg_is_formed arg_depth roll-Arg arg_formed arg_levels
unfolding access_part_is_formed factor_is_formed access_is_formed add_part_is_formed arg_is_formed expr_is_formed mul_part_is_formed rel_part_is_formed member_is_formed sum_is_formed term_is_formed access_part_depth factor_depth access_depth add_part_depth arg_depth expr_depth mul_part_depth rel_part_depth member_depth sum_depth term_depth
arg_layer = record {
  formed_is = λ x. fold-roll-Arg Bool Bool Bool Bool Bool Bool Bool Bool Bool Bool Bool formed_access_part
      formed_factor formed_access formed_add_part formed_arg formed_expr formed_mul_part formed_rel_part formed_member
      formed_sum formed_term x;
  depth_is = λ x. fold-roll-Arg ℕ ℕ ℕ ℕ ℕ ℕ ℕ ℕ ℕ ℕ ℕ depth_of_access_part depth_of_factor depth_of_access
      depth_of_add_part depth_of_arg depth_of_expr depth_of_mul_part depth_of_rel_part depth_of_member depth_of_sum
      depth_of_term x;
}

abbrev pub expr_formed : ExprLayer → Bool
expr_formed x =
    formed_expr (map-Expr AccessPart Factor Access AddPart Arg Expr MulPart RelPart SetMember SumExpr Term
    Bool Bool Bool Bool Bool Bool Bool Bool Bool Bool Bool
    access_part_is_formed factor_is_formed access_is_formed add_part_is_formed arg_is_formed expr_is_formed
    mul_part_is_formed rel_part_is_formed member_is_formed sum_is_formed term_is_formed x)

abbrev pub expr_levels : ExprLayer → ℕ
expr_levels x =
    depth_of_expr (map-Expr AccessPart Factor Access AddPart Arg Expr MulPart RelPart SetMember SumExpr Term
    ℕ ℕ ℕ ℕ ℕ ℕ ℕ ℕ ℕ ℕ ℕ
    access_part_depth factor_depth access_depth add_part_depth arg_depth expr_depth mul_part_depth rel_part_depth
    member_depth sum_depth term_depth x)

pub expr_layer : Layer expr_is_formed expr_depth roll-Expr expr_formed expr_levels
unfolding access_part_is_formed factor_is_formed access_is_formed add_part_is_formed arg_is_formed expr_is_formed mul_part_is_formed rel_part_is_formed member_is_formed sum_is_formed term_is_formed access_part_depth factor_depth access_depth add_part_depth arg_depth expr_depth mul_part_depth rel_part_depth member_depth sum_depth term_depth
expr_layer = record {
  formed_is = λ x. fold-roll-Expr Bool Bool Bool Bool Bool Bool Bool Bool Bool Bool Bool formed_access_part
      formed_factor formed_access formed_add_part formed_arg formed_expr formed_mul_part formed_rel_part formed_member
      formed_sum formed_term x;
  depth_is = λ x. fold-roll-Expr ℕ ℕ ℕ ℕ ℕ ℕ ℕ ℕ ℕ ℕ ℕ depth_of_access_part depth_of_factor depth_of_access
      depth_of_add_part depth_of_arg depth_of_expr depth_of_mul_part depth_of_rel_part depth_of_member depth_of_sum
      depth_of_term x;
}

abbrev pub mul_part_formed : MulPartLayer → Bool
mul_part_formed x =
    formed_mul_part (map-MulPart AccessPart Factor Access AddPart Arg Expr MulPart RelPart SetMember SumExpr Term
    Bool Bool Bool Bool Bool Bool Bool Bool Bool Bool Bool
    access_part_is_formed factor_is_formed access_is_formed add_part_is_formed arg_is_formed expr_is_formed
    mul_part_is_formed rel_part_is_formed member_is_formed sum_is_formed term_is_formed x)

abbrev pub mul_part_levels : MulPartLayer → ℕ
mul_part_levels x =
    depth_of_mul_part (map-MulPart AccessPart Factor Access AddPart Arg Expr MulPart RelPart SetMember SumExpr Term
    ℕ ℕ ℕ ℕ ℕ ℕ ℕ ℕ ℕ ℕ ℕ
    access_part_depth factor_depth access_depth add_part_depth arg_depth expr_depth mul_part_depth rel_part_depth
    member_depth sum_depth term_depth x)

pub mul_part_layer : Layer mul_part_is_formed mul_part_depth roll-MulPart mul_part_formed mul_part_levels
unfolding access_part_is_formed factor_is_formed access_is_formed add_part_is_formed arg_is_formed expr_is_formed mul_part_is_formed rel_part_is_formed member_is_formed sum_is_formed term_is_formed access_part_depth factor_depth access_depth add_part_depth arg_depth expr_depth mul_part_depth rel_part_depth member_depth sum_depth term_depth
mul_part_layer = record {
  formed_is = λ x. fold-roll-MulPart Bool Bool Bool Bool Bool Bool Bool Bool Bool Bool Bool formed_access_part
      formed_factor formed_access formed_add_part formed_arg formed_expr formed_mul_part formed_rel_part formed_member
      formed_sum formed_term x;
  depth_is = λ x. fold-roll-MulPart ℕ ℕ ℕ ℕ ℕ ℕ ℕ ℕ ℕ ℕ ℕ depth_of_access_part depth_of_factor depth_of_access
      depth_of_add_part depth_of_arg depth_of_expr depth_of_mul_part depth_of_rel_part depth_of_member depth_of_sum
      depth_of_term x;
}

abbrev pub rel_part_formed : RelPartLayer → Bool
rel_part_formed x =
    formed_rel_part (map-RelPart AccessPart Factor Access AddPart Arg Expr MulPart RelPart SetMember SumExpr Term
    Bool Bool Bool Bool Bool Bool Bool Bool Bool Bool Bool
    access_part_is_formed factor_is_formed access_is_formed add_part_is_formed arg_is_formed expr_is_formed
    mul_part_is_formed rel_part_is_formed member_is_formed sum_is_formed term_is_formed x)

abbrev pub rel_part_levels : RelPartLayer → ℕ
rel_part_levels x =
    depth_of_rel_part (map-RelPart AccessPart Factor Access AddPart Arg Expr MulPart RelPart SetMember SumExpr Term
    ℕ ℕ ℕ ℕ ℕ ℕ ℕ ℕ ℕ ℕ ℕ
    access_part_depth factor_depth access_depth add_part_depth arg_depth expr_depth mul_part_depth rel_part_depth
    member_depth sum_depth term_depth x)

pub rel_part_layer : Layer rel_part_is_formed rel_part_depth roll-RelPart rel_part_formed rel_part_levels
unfolding access_part_is_formed factor_is_formed access_is_formed add_part_is_formed arg_is_formed expr_is_formed mul_part_is_formed rel_part_is_formed member_is_formed sum_is_formed term_is_formed access_part_depth factor_depth access_depth add_part_depth arg_depth expr_depth mul_part_depth rel_part_depth member_depth sum_depth term_depth
rel_part_layer = record {
  formed_is = λ x. fold-roll-RelPart Bool Bool Bool Bool Bool Bool Bool Bool Bool Bool Bool formed_access_part
      formed_factor formed_access formed_add_part formed_arg formed_expr formed_mul_part formed_rel_part formed_member
      formed_sum formed_term x;
  depth_is = λ x. fold-roll-RelPart ℕ ℕ ℕ ℕ ℕ ℕ ℕ ℕ ℕ ℕ ℕ depth_of_access_part depth_of_factor depth_of_access
      depth_of_add_part depth_of_arg depth_of_expr depth_of_mul_part depth_of_rel_part depth_of_member depth_of_sum
      depth_of_term x;
}

abbrev pub member_formed : SetMemberLayer → Bool
member_formed x =
    formed_member (map-SetMember AccessPart Factor Access AddPart Arg Expr MulPart RelPart SetMember SumExpr Term
    Bool Bool Bool Bool Bool Bool Bool Bool Bool Bool Bool
    access_part_is_formed factor_is_formed access_is_formed add_part_is_formed arg_is_formed expr_is_formed
    mul_part_is_formed rel_part_is_formed member_is_formed sum_is_formed term_is_formed x)

abbrev pub member_levels : SetMemberLayer → ℕ
member_levels x =
    depth_of_member (map-SetMember AccessPart Factor Access AddPart Arg Expr MulPart RelPart SetMember SumExpr Term
    ℕ ℕ ℕ ℕ ℕ ℕ ℕ ℕ ℕ ℕ ℕ
    access_part_depth factor_depth access_depth add_part_depth arg_depth expr_depth mul_part_depth rel_part_depth
    member_depth sum_depth term_depth x)

pub member_layer : Layer member_is_formed member_depth roll-SetMember member_formed member_levels
unfolding access_part_is_formed factor_is_formed access_is_formed add_part_is_formed arg_is_formed expr_is_formed mul_part_is_formed rel_part_is_formed member_is_formed sum_is_formed term_is_formed access_part_depth factor_depth access_depth add_part_depth arg_depth expr_depth mul_part_depth rel_part_depth member_depth sum_depth term_depth
member_layer = record {
  formed_is = λ x. fold-roll-SetMember Bool Bool Bool Bool Bool Bool Bool Bool Bool Bool Bool formed_access_part
      formed_factor formed_access formed_add_part formed_arg formed_expr formed_mul_part formed_rel_part formed_member
      formed_sum formed_term x;
  depth_is = λ x. fold-roll-SetMember ℕ ℕ ℕ ℕ ℕ ℕ ℕ ℕ ℕ ℕ ℕ depth_of_access_part depth_of_factor depth_of_access
      depth_of_add_part depth_of_arg depth_of_expr depth_of_mul_part depth_of_rel_part depth_of_member depth_of_sum
      depth_of_term x;
}

abbrev pub sum_formed : SumExprLayer → Bool
sum_formed x =
    formed_sum (map-SumExpr AccessPart Factor Access AddPart Arg Expr MulPart RelPart SetMember SumExpr Term
    Bool Bool Bool Bool Bool Bool Bool Bool Bool Bool Bool
    access_part_is_formed factor_is_formed access_is_formed add_part_is_formed arg_is_formed expr_is_formed
    mul_part_is_formed rel_part_is_formed member_is_formed sum_is_formed term_is_formed x)

abbrev pub sum_levels : SumExprLayer → ℕ
sum_levels x =
    depth_of_sum (map-SumExpr AccessPart Factor Access AddPart Arg Expr MulPart RelPart SetMember SumExpr Term
    ℕ ℕ ℕ ℕ ℕ ℕ ℕ ℕ ℕ ℕ ℕ
    access_part_depth factor_depth access_depth add_part_depth arg_depth expr_depth mul_part_depth rel_part_depth
    member_depth sum_depth term_depth x)

pub sum_layer : Layer sum_is_formed sum_depth roll-SumExpr sum_formed sum_levels
unfolding access_part_is_formed factor_is_formed access_is_formed add_part_is_formed arg_is_formed expr_is_formed mul_part_is_formed rel_part_is_formed member_is_formed sum_is_formed term_is_formed access_part_depth factor_depth access_depth add_part_depth arg_depth expr_depth mul_part_depth rel_part_depth member_depth sum_depth term_depth
sum_layer = record {
  formed_is = λ x. fold-roll-SumExpr Bool Bool Bool Bool Bool Bool Bool Bool Bool Bool Bool formed_access_part
      formed_factor formed_access formed_add_part formed_arg formed_expr formed_mul_part formed_rel_part formed_member
      formed_sum formed_term x;
  depth_is = λ x. fold-roll-SumExpr ℕ ℕ ℕ ℕ ℕ ℕ ℕ ℕ ℕ ℕ ℕ depth_of_access_part depth_of_factor depth_of_access
      depth_of_add_part depth_of_arg depth_of_expr depth_of_mul_part depth_of_rel_part depth_of_member depth_of_sum
      depth_of_term x;
}

abbrev pub term_formed : TermLayer → Bool
term_formed x =
    formed_term (map-Term AccessPart Factor Access AddPart Arg Expr MulPart RelPart SetMember SumExpr Term
    Bool Bool Bool Bool Bool Bool Bool Bool Bool Bool Bool
    access_part_is_formed factor_is_formed access_is_formed add_part_is_formed arg_is_formed expr_is_formed
    mul_part_is_formed rel_part_is_formed member_is_formed sum_is_formed term_is_formed x)

abbrev pub term_levels : TermLayer → ℕ
term_levels x =
    depth_of_term (map-Term AccessPart Factor Access AddPart Arg Expr MulPart RelPart SetMember SumExpr Term
    ℕ ℕ ℕ ℕ ℕ ℕ ℕ ℕ ℕ ℕ ℕ
    access_part_depth factor_depth access_depth add_part_depth arg_depth expr_depth mul_part_depth rel_part_depth
    member_depth sum_depth term_depth x)

pub term_layer : Layer term_is_formed term_depth roll-Term term_formed term_levels
unfolding access_part_is_formed factor_is_formed access_is_formed add_part_is_formed arg_is_formed expr_is_formed mul_part_is_formed rel_part_is_formed member_is_formed sum_is_formed term_is_formed access_part_depth factor_depth access_depth add_part_depth arg_depth expr_depth mul_part_depth rel_part_depth member_depth sum_depth term_depth
term_layer = record {
  formed_is = λ x. fold-roll-Term Bool Bool Bool Bool Bool Bool Bool Bool Bool Bool Bool formed_access_part
      formed_factor formed_access formed_add_part formed_arg formed_expr formed_mul_part formed_rel_part formed_member
      formed_sum formed_term x;
  depth_is = λ x. fold-roll-Term ℕ ℕ ℕ ℕ ℕ ℕ ℕ ℕ ℕ ℕ ℕ depth_of_access_part depth_of_factor depth_of_access
      depth_of_add_part depth_of_arg depth_of_expr depth_of_mul_part depth_of_rel_part depth_of_member depth_of_sum
      depth_of_term x;
}
