-- The sums of an expression by its topmost operation.
use Rattle.std.proofs.Common.{◌≡◌, ◌+◌, max, map, ap, List, [], ◌∷◌, length, refl, arith}
use Rattle.core_tree.specs.declared.op.CoreExpr.{CoreExpr, out-CoreExpr}
use Rattle.core_tree.specs.declared.op.CoreExpr.TheFolds.{fold_out-CoreExpr}
use Rattle.core_tree.specs.Charge.{expr_charge, exprs_charge, op_charge, expr_need, exprs_need, op_need, op_width, part_count, width, widths}
use Rattle.core_tree.specs.Plain.{Expr, exprs_of}
use Rattle.core_tree.specs.Views.{expr_of, in_expr}

pub charge_layer : (e : CoreExpr) → expr_charge (expr_of e) ≡ op_charge (out-CoreExpr e).op + exprs_charge (exprs_of (map expr_of (out-CoreExpr e).parts))
unfolding expr_of
charge_layer e = ap expr_charge (fold_out-CoreExpr Expr in_expr e)

pub need_layer : (e : CoreExpr) → expr_need (expr_of e) ≡ max (op_need (out-CoreExpr e).op (widths (exprs_of (map expr_of (out-CoreExpr e).parts)))) (exprs_need (exprs_of (map expr_of (out-CoreExpr e).parts)) 0)
unfolding expr_of
need_layer e = ap expr_need (fold_out-CoreExpr Expr in_expr e)

pub width_layer : (e : CoreExpr) → width (expr_of e) ≡ op_width (out-CoreExpr e).op
unfolding expr_of
width_layer e = ap width (fold_out-CoreExpr Expr in_expr e)

pub part_count_layer : (ps : List CoreExpr) → part_count (exprs_of (map expr_of ps)) ≡ length ps
part_count_layer [] = refl
part_count_layer (p ∷ ps) = omega (arith, part_count_layer ps)
