-- What is kept of a resolved expression: the words of its code, and the tree while they fit into one block.
use Rattle.std.specs.Prelude.{ℕ, ◌+◌, nat_le, Bool, true, false, List, [], ◌∷◌, ◌++◌, map, Option, Some, None}
use Rattle.core_tree.specs.declared.op.CoreExpr.{CoreExpr, roll-CoreExpr}
use Rattle.core_tree.specs.declared.op.Op.{Op}
use Rattle.core_tree.specs.declared.shape.Shape.{Shape}
use Rattle.core_tree.specs.Charge.{counted_charge, expr_charge, exprs_charge, op_charge}
use Rattle.core_tree.specs.Plain.{exprs_of}
use Rattle.core_tree.specs.Views.{expr_of}
use Rattle.resolve_expr.specs.declared.context.TheConstants.{MAX_BLOCK_WORDS}
use Rattle.resolve_expr.specs.declared.context.Kept.{Kept}
use Rattle.resolve_expr.specs.declared.context.KeptParts.{KeptParts}

-- an operation with its parts
unfoldable pub operation : Op → Option Shape → List CoreExpr → CoreExpr
operation o s ps = roll-CoreExpr (record { op = o; shape = s; parts = ps })

abbrev pub charge_of : CoreExpr → ℕ
charge_of e = expr_charge (expr_of e)

abbrev pub charges_of : List CoreExpr → ℕ
charges_of es = exprs_charge (exprs_of (map expr_of es))

abbrev pub some_if : {A : Type 0} → Bool → A → Option A
some_if true x = Some x
some_if false x = None

abbrev pub fits_block : ℕ → Bool
fits_block words = nat_le words MAX_BLOCK_WORDS

unfoldable pub kept : CoreExpr → Kept
kept e = record { charge = counted_charge (charge_of e); expr = some_if (fits_block (charge_of e)) e }

unfoldable pub kept_parts : List CoreExpr → KeptParts
kept_parts es = record { charge = counted_charge (charges_of es); exprs = some_if (fits_block (charges_of es)) es }

-- ---- the same of what is kept already

abbrev pub joined : Bool → Option (List CoreExpr) → Option CoreExpr → Option (List CoreExpr)
joined true (Some es) (Some e) = Some (es ++ e ∷ [])
joined _ _ _ = None

unfoldable pub with_part : KeptParts → Kept → KeptParts
with_part ps k = record {
  charge = counted_charge (ps.charge + k.charge);
  exprs = joined (fits_block (ps.charge + k.charge)) ps.exprs k.expr;
}

abbrev pub over : Bool → Op → Option Shape → Option (List CoreExpr) → Option CoreExpr
over true o s (Some es) = Some (operation o s es)
over _ o s _ = None

unfoldable pub applied : Op → Option Shape → KeptParts → Kept
applied o s ps = record {
  charge = counted_charge (counted_charge (op_charge o) + ps.charge);
  expr = over (fits_block (counted_charge (op_charge o) + ps.charge)) o s ps.exprs;
}

-- parts, and all of a list behind them
abbrev pub with_parts : KeptParts → List CoreExpr → KeptParts
with_parts ps [] = ps
with_parts ps (e ∷ es) = with_parts (with_part ps (kept e)) es
