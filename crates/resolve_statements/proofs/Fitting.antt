-- What fits into a block, by the counts of its form.
use Rattle.std.proofs.Common.{◌≡◌, ◌≤◌, ◌<◌, ℕ, ◌+◌, Bool, true, false, List, [], ◌∷◌, length, map, Option, Some, None, unwrap_or, Result, refl, ap, sym, ◌∙◌, arith}
use Rattle.std.proofs.lemmas.Bool.{leb-true}
use Rattle.dice_base.specs.declared.name.Name.{Name}
use Rattle.check_rules.specs.declared.fault.SizeFault.{SizeFault}
use Rattle.check_rules.specs.declared.fault.SizeFault.TheVariants as size
use Rattle.check_rules.specs.declared.fault.CheckEnd.{CheckEnd}
use Rattle.core_tree.specs.declared.op.CoreExpr.{CoreExpr}
use Rattle.core_tree.specs.declared.form.CoreForm.{CoreForm}
use Rattle.core_tree.specs.declared.form.CoreForm.TheVariants as block
use Rattle.core_tree.specs.declared.form.StatementForm.{StatementForm}
use Rattle.core_tree.specs.Charge.{charge_of, counted_charge, holds_of, need_of, own_holds, part_count}
use Rattle.core_tree.specs.Plain.{exprs_of}
use Rattle.core_tree.specs.Views.{bare_form, expr_of}
use Rattle.resolve_expr.specs.Kept.{some_if, fits_block}
use Rattle.resolve_statements.specs.declared.form.KeptForm.{KeptForm}
use Rattle.resolve_statements.specs.Forms.{form_charge, kept_form}
use Rattle.resolve_statements.specs.Sizes.{first_of, fault_past, form_fault}
use Rattle.resolve_statements.specs.Tables.{Formed}
use Rattle.resolve_statements.proofs.Pushing.{fits, passes}

first_some : (x rest : Option SizeFault) (f : SizeFault) → x ≡ Some f → first_of x rest ≡ Some f
first_some x rest f is = rw is refl

first_none : (x rest y : Option SizeFault) → x ≡ None → rest ≡ y → first_of x rest ≡ y
first_none x rest y is later = rw (is, later) refl

parts_counted : (ps : List CoreExpr) → part_count (exprs_of (map expr_of ps)) ≡ length ps
parts_counted [] = refl
parts_counted (p ∷ ps) = omega (arith, parts_counted ps)

pub too_long : (n : Name) (k : KeptForm) (f : StatementForm) → k ≡ kept_form f → 512 < k.charge
    → form_fault n (bare_form (block.Statement f)) ≡ Some (size.BlockTooLong n k.charge)
unfolding kept_form
too_long n k f is past =
    let charge : k.charge ≡ counted_charge (form_charge f) = ap (λ (x : KeptForm). x.charge) is in
    let more : 512 < form_charge f = omega (arith, past, charge) in
    first_some _ _ (size.BlockTooLong n (counted_charge (form_charge f))) (passes (form_charge f) 512 (size.BlockTooLong n (counted_charge (form_charge f))) more)
    ∙ ap (λ w. Some (size.BlockTooLong n w)) (sym charge)

by_some : (b : Bool) (f g : StatementForm) → some_if b f ≡ Some g → (b ≡ true) × (f ≡ g)
by_some true f g is = (refl, ap (λ o. unwrap_or o f) is)
by_some false f g is = absurd (grind (arith, is))

pub taken : (r : Result CoreForm CheckEnd) (n : Name) (k : KeptForm) (f g : StatementForm) → k ≡ kept_form f → k.form ≡ Some g
    → (charge_of (bare_form (block.Statement g)) ≤ 512 → Formed r n g) → Formed r n f
unfolding kept_form
taken r n k f g is some formed =
    let whole = by_some (fits_block (form_charge f)) f g (sym (ap (λ (x : KeptForm). x.form) is) ∙ some) in
    let few : form_charge f ≤ 512 = leb-true (form_charge f) 512 whole.0 in
    rw whole.1 (formed (rw (sym whole.1) few))

-- within the words of code and of temporaries, the holds decide
after_temps : (n : Name) (f : StatementForm) (t : ℕ) (y : Option SizeFault) → charge_of (bare_form (block.Statement f)) ≤ 512
    → t ≡ counted_charge (need_of (bare_form (block.Statement f))) → t ≤ 32
    → fault_past 8 (holds_of (bare_form (block.Statement f))) (size.TooManyHolds n (counted_charge (holds_of (bare_form (block.Statement f))))) ≡ y
    → form_fault n (bare_form (block.Statement f)) ≡ y
after_temps n f t y short is few holds =
    first_none _ _ y (fits (charge_of (bare_form (block.Statement f))) 512 _ short)
    (first_none _ _ y (fits (need_of (bare_form (block.Statement f))) 32 _ (omega (arith, is, few))) holds)

holds_is : (f : StatementForm) (h : ℕ) → h ≡ counted_charge (f.holds + own_holds f.op (length f.parts)) → h ≡ counted_charge (holds_of (bare_form (block.Statement f)))
holds_is f h is = is ∙ ap (λ k. counted_charge (f.holds + own_holds f.op k)) (sym (parts_counted f.parts))

pub many_holds : (n : Name) (f : StatementForm) (t h : ℕ) → charge_of (bare_form (block.Statement f)) ≤ 512
    → t ≡ counted_charge (need_of (bare_form (block.Statement f))) → t ≤ 32
    → h ≡ counted_charge (f.holds + own_holds f.op (length f.parts)) → 8 < h
    → form_fault n (bare_form (block.Statement f)) ≡ Some (size.TooManyHolds n h)
many_holds n f t h short is few held past =
    let more : 8 < holds_of (bare_form (block.Statement f)) = omega (arith, past, holds_is f h held) in
    after_temps n f t _ short is few (passes (holds_of (bare_form (block.Statement f))) 8 _ more ∙ ap (λ w. Some (size.TooManyHolds n w)) (sym (holds_is f h held)))

pub all_fit : (n : Name) (f : StatementForm) (t h : ℕ) → charge_of (bare_form (block.Statement f)) ≤ 512
    → t ≡ counted_charge (need_of (bare_form (block.Statement f))) → t ≤ 32
    → h ≡ counted_charge (f.holds + own_holds f.op (length f.parts)) → h ≤ 8
    → form_fault n (bare_form (block.Statement f)) ≡ None
all_fit n f t h short is few held within =
    let less : holds_of (bare_form (block.Statement f)) ≤ 8 = omega (arith, within, holds_is f h held) in
    after_temps n f t _ short is few (fits (holds_of (bare_form (block.Statement f))) 8 _ less)
