-- What is kept of a form is made from what is kept of its parts.
use Rattle.std.proofs.Common.{◌≡◌, ℕ, ◌+◌, Bool, true, false, List, Option, refl, ap, ◌∙◌, arith}
use Rattle.std.proofs.lemmas.Bool.{le-leb, leb-true}
use Rattle.std.proofs.lemmas.Bool.Decides.{nat_tests}
use Rattle.resolve_expr.specs.declared.context.TheConstants.{MAX_BLOCK_WORDS}
use Rattle.resolve_expr.specs.declared.context.Context.{Context}
use Rattle.core_tree.specs.declared.op.CoreExpr.{CoreExpr}
use Rattle.core_tree.specs.declared.shape.Shape.{Shape}
use Rattle.core_tree.specs.declared.form.StatementOp.{StatementOp}
use Rattle.core_tree.specs.declared.form.StatementForm.{StatementForm}
use Rattle.core_tree.specs.Charge.{counted_charge, statement_charge}
use Rattle.resolve_expr.specs.Kept.{charges_of, some_if, fits_block, kept_parts}
use Rattle.resolve_statements.specs.declared.form.KeptForm.{KeptForm}
use Rattle.resolve_statements.specs.Forms.{form, form_over, formed, kept_form}

counted_both : (a b : ℕ) → counted_charge (counted_charge a + counted_charge b) ≡ counted_charge (a + b)
counted_both a b = omega arith

fits_counted : (a b : ℕ) → fits_block (counted_charge a + counted_charge b) ≡ fits_block (a + b)
fits_counted a b = grind (arith, nat_tests)

fits_second : (a b : ℕ) → fits_block (a + b) ≡ true → fits_block b ≡ true
fits_second a b fits = le-leb b MAX_BLOCK_WORDS (omega (arith, leb-true (a + b) MAX_BLOCK_WORDS fits))

over_by : (x y : Bool) (c : Context) (o : StatementOp) (s : Option Shape) (es : List CoreExpr) → (x ≡ true → y ≡ true) → form_over x c o s (some_if y es) ≡ some_if x (form c o s es)
over_by true y c o s es fits = rw (fits refl) refl
over_by false y c o s es fits = refl

same_form : (m n : ℕ) (x y : Option StatementForm) → m ≡ n → x ≡ y → Path KeptForm (record { charge = m; form = x }) (record { charge = n; form = y })
same_form m n x y first second = rw first (rw second refl)

pub kept_formed : (c : Context) (o : StatementOp) (s : Option Shape) (es : List CoreExpr) → formed c o s (kept_parts es) ≡ kept_form (form c o s es)
unfolding formed kept_form kept_parts
kept_formed c o s es =
    let a = statement_charge o in
    let b = charges_of es in
    same_form (counted_charge (counted_charge a + counted_charge b)) (counted_charge (a + b))
    (form_over (fits_block (counted_charge a + counted_charge b)) c o s (some_if (fits_block b) es))
    (some_if (fits_block (a + b)) (form c o s es))
    (counted_both a b)
    (ap (λ x. form_over x c o s (some_if (fits_block b) es)) (fits_counted a b)
    ∙ over_by (fits_block (a + b)) (fits_block b) c o s es (fits_second a b))
