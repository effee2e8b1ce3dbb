-- What is kept of an operation is made from what is kept of its parts.
use Rattle.std.proofs.Common.{◌≡◌, ℕ, ◌+◌, Bool, true, false, List, [], ◌∷◌, ◌++◌, Option, refl, ap, sym, ◌∙◌, arith}
use Rattle.std.proofs.lemmas.Bool.{le-leb, leb-true}
use Rattle.std.proofs.lemmas.Bool.Decides.{nat_tests}
use Rattle.resolve_expr.specs.declared.context.TheConstants.{MAX_BLOCK_WORDS}
use Rattle.core_tree.specs.declared.op.CoreExpr.{CoreExpr}
use Rattle.core_tree.specs.declared.op.CoreExpr.TheFolds.{fold-roll-CoreExpr}
use Rattle.core_tree.specs.declared.op.Op.{Op}
use Rattle.core_tree.specs.declared.shape.Shape.{Shape}
use Rattle.core_tree.specs.Charge.{counted_charge, expr_charge, op_charge}
use Rattle.core_tree.specs.Plain.{Expr}
use Rattle.core_tree.specs.Views.{expr_of, in_expr}
use Rattle.resolve_expr.specs.declared.context.Kept.{Kept}
use Rattle.resolve_expr.specs.declared.context.KeptParts.{KeptParts}
use Rattle.resolve_expr.specs.Kept.{operation, charge_of, charges_of, some_if, fits_block, kept, kept_parts, joined, with_part, over, applied}

charges_after : (es : List CoreExpr) (e : CoreExpr) → charges_of (es ++ e ∷ []) ≡ charges_of es + charge_of e
charges_after [] e = omega arith
charges_after (x ∷ xs) e = omega (arith, charges_after xs e)

charge_layer : (o : Op) (s : Option Shape) (es : List CoreExpr) → charge_of (operation o s es) ≡ op_charge o + charges_of es
unfolding expr_of operation
charge_layer o s es = ap expr_charge (fold-roll-CoreExpr Expr in_expr (record { op = o; shape = s; parts = es }))

counted_both : (a b : ℕ) → counted_charge (counted_charge a + counted_charge b) ≡ counted_charge (a + b)
counted_both a b = omega arith

fits_counted : (a b : ℕ) → fits_block (counted_charge a + counted_charge b) ≡ fits_block (a + b)
fits_counted a b = grind (arith, nat_tests)

fits_first : (a b : ℕ) → fits_block (a + b) ≡ true → fits_block a ≡ true
fits_first a b fits = le-leb a MAX_BLOCK_WORDS (omega (arith, leb-true (a + b) MAX_BLOCK_WORDS fits))

fits_second : (a b : ℕ) → fits_block (a + b) ≡ true → fits_block b ≡ true
fits_second a b fits = le-leb b MAX_BLOCK_WORDS (omega (arith, leb-true (a + b) MAX_BLOCK_WORDS fits))

joined_by : (x y z : Bool) (es : List CoreExpr) (e : CoreExpr) → (x ≡ true → y ≡ true) → (x ≡ true → z ≡ true) → joined x (some_if y es) (some_if z e) ≡ some_if x (es ++ e ∷ [])
joined_by true y z es e first second = rw (first refl) (rw (second refl) refl)
joined_by false y z es e first second = refl

over_by : (x y : Bool) (o : Op) (s : Option Shape) (es : List CoreExpr) → (x ≡ true → y ≡ true) → over x o s (some_if y es) ≡ some_if x (operation o s es)
over_by true y o s es fits = rw (fits refl) refl
over_by false y o s es fits = refl

same_parts : (c d : ℕ) (x y : Option (List CoreExpr)) → c ≡ d → x ≡ y → Path KeptParts (record { charge = c; exprs = x }) (record { charge = d; exprs = y })
same_parts c d x y first second = rw first (rw second refl)

same_kept : (c d : ℕ) (x y : Option CoreExpr) → c ≡ d → x ≡ y → Path Kept (record { charge = c; expr = x }) (record { charge = d; expr = y })
same_kept c d x y first second = rw first (rw second refl)

-- parts and one more
pub kept_with_part : (es : List CoreExpr) (e : CoreExpr) → with_part (kept_parts es) (kept e) ≡ kept_parts (es ++ e ∷ [])
unfolding with_part kept_parts kept
kept_with_part es e =
    let a = charges_of es in
    let b = charge_of e in
    same_parts (counted_charge (counted_charge a + counted_charge b)) (counted_charge (charges_of (es ++ e ∷ [])))
    (joined (fits_block (counted_charge a + counted_charge b)) (some_if (fits_block a) es) (some_if (fits_block b) e))
    (some_if (fits_block (charges_of (es ++ e ∷ []))) (es ++ e ∷ []))
    (counted_both a b ∙ sym (ap counted_charge (charges_after es e)))
    (ap (λ x. joined x (some_if (fits_block a) es) (some_if (fits_block b) e)) (fits_counted a b)
    ∙ (joined_by (fits_block (a + b)) (fits_block a) (fits_block b) es e (fits_first a b) (fits_second a b)
    ∙ sym (ap (λ n. some_if (fits_block n) (es ++ e ∷ [])) (charges_after es e))))

-- an operation over parts
pub kept_applied : (o : Op) (s : Option Shape) (es : List CoreExpr) → applied o s (kept_parts es) ≡ kept (operation o s es)
unfolding applied kept_parts kept
kept_applied o s es =
    let a = op_charge o in
    let b = charges_of es in
    same_kept (counted_charge (counted_charge a + counted_charge b)) (counted_charge (charge_of (operation o s es)))
    (over (fits_block (counted_charge a + counted_charge b)) o s (some_if (fits_block b) es))
    (some_if (fits_block (charge_of (operation o s es))) (operation o s es))
    (counted_both a b ∙ sym (ap counted_charge (charge_layer o s es)))
    (ap (λ x. over x o s (some_if (fits_block b) es)) (fits_counted a b)
    ∙ (over_by (fits_block (a + b)) (fits_block b) o s es (fits_second a b)
    ∙ sym (ap (λ n. some_if (fits_block n) (operation o s es)) (charge_layer o s es))))
