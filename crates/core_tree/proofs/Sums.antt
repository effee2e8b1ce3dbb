-- Sums that stop counting at their limit.
use Rattle.std.proofs.Common.{◌≡◌, ℕ, ◌+◌, max, arith, refl, ap, sym, ◌∙◌}
use Rattle.core_tree.specs.Charge.{counted_charge, expr_need, exprs_need, width}
use Rattle.core_tree.specs.Plain.{Exprs, NoMore, And}

pub counted_sum : (a b : ℕ) → counted_charge (counted_charge a + counted_charge b) ≡ counted_charge (a + b)
counted_sum a b = omega arith

counted_max : (a b c d : ℕ) → counted_charge a ≡ counted_charge c → counted_charge b ≡ counted_charge d → counted_charge (max a b) ≡ counted_charge (max c d)
counted_max a b c d first second = omega (arith, first, second)

counted_first : (a b : ℕ) → counted_charge (counted_charge a + b) ≡ counted_charge (a + b)
counted_first a b = omega arith

-- parts need the same below a sum that stopped counting
below_counted : (es : Exprs) (b : ℕ) → counted_charge (exprs_need es (counted_charge b)) ≡ counted_charge (exprs_need es b)
below_counted NoMore b = refl
below_counted (And e es) b =
    let later : counted_charge (exprs_need es (counted_charge b + width e)) ≡ counted_charge (exprs_need es (b + width e)) =
    sym (below_counted es (counted_charge b + width e)) ∙ (ap (λ n. counted_charge (exprs_need es n)) (counted_first b (width e)) ∙ below_counted es (b + width e)) in
    counted_max (counted_charge b + expr_need e) (exprs_need es (counted_charge b + width e)) (b + expr_need e) (exprs_need es (b + width e)) (counted_first b (expr_need e)) later

step : (most sum x y : ℕ) → counted_charge x ≡ counted_charge y → counted_charge (max (max most (counted_charge sum)) x) ≡ counted_charge (max most (max sum y))
step most sum x y same = omega (arith, same)

last_counted : (a b : ℕ) → counted_charge (a + counted_charge b) ≡ counted_charge (a + b)
last_counted a b = omega arith

pub need_step : (most b n w : ℕ) (es : Exprs) → counted_charge (max (max most (counted_charge (b + counted_charge n))) (exprs_need es (counted_charge (b + w)))) ≡ counted_charge (max most (max (b + n) (exprs_need es (b + w))))
need_step most b n w es =
    ap (λ k. counted_charge (max (max most k) (exprs_need es (counted_charge (b + w))))) (last_counted b n)
    ∙ step most (b + n) (exprs_need es (counted_charge (b + w))) (exprs_need es (b + w)) (below_counted es (b + w))
