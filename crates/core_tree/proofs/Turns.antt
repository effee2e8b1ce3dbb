-- One turn of the loop over the parts of an operation.
use Rattle.std.proofs.Common.{◌≡◌, ℕ, suc, ◌+◌, ◌<◌, max, List, ◌∷◌, map, length, get_or, drop, drop-cons, sym, ap, ◌∙◌, arith}
use Rattle.core_tree.specs.declared.op.CoreExpr.{CoreExpr}
use Rattle.core_tree.specs.Charge.{counted_charge, expr_need, exprs_need, width}
use Rattle.core_tree.specs.Plain.{exprs_of}
use Rattle.core_tree.specs.Views.{expr_of}
use Rattle.core_tree.proofs.Sums.{need_step}

pub need_turn : (ps : List CoreExpr) (i : ℕ) (x : CoreExpr) (most below n s mm w bb whole : ℕ) → i < length ps → x ≡ get_or ps i x
    → n ≡ counted_charge (expr_need (expr_of x)) → s ≡ counted_charge (below + n) → mm ≡ max most s → w ≡ width (expr_of x) → bb ≡ counted_charge (below + w)
    → counted_charge (max most (exprs_need (exprs_of (map expr_of (drop i ps))) below)) ≡ whole
    → counted_charge (max mm (exprs_need (exprs_of (map expr_of (drop (i + 1) ps))) bb)) ≡ whole
need_turn ps i x most below n s mm w bb whole inside is n_is s_is mm_is w_is bb_is rest =
    let next : suc i ≡ i + 1 = omega arith in
    let cons : drop i ps ≡ x ∷ drop (i + 1) ps =
    drop-cons ps i x inside ∙ (ap (λ y. y ∷ drop (suc i) ps) (sym is) ∙ ap (λ k. x ∷ drop k ps) next) in
    let before : counted_charge (max most (exprs_need (exprs_of (map expr_of (x ∷ drop (i + 1) ps))) below)) ≡ whole =
    ap (λ l. counted_charge (max most (exprs_need (exprs_of (map expr_of l)) below))) (sym cons) ∙ rest in
    let after : (k : ℕ) → counted_charge (max k (exprs_need (exprs_of (map expr_of (drop (i + 1) ps))) bb)) ≡ counted_charge (max k (exprs_need (exprs_of (map expr_of (drop (i + 1) ps))) (counted_charge (below + width (expr_of x))))) =
    λ k. ap (λ b. counted_charge (max k (exprs_need (exprs_of (map expr_of (drop (i + 1) ps))) b))) (bb_is ∙ ap (λ v. counted_charge (below + v)) w_is) in
    let most_is : mm ≡ max most (counted_charge (below + counted_charge (expr_need (expr_of x)))) =
    mm_is ∙ (ap (λ k. max most k) s_is ∙ ap (λ k. max most (counted_charge (below + k))) n_is) in
    after mm ∙ (ap (λ k. counted_charge (max k (exprs_need (exprs_of (map expr_of (drop (i + 1) ps))) (counted_charge (below + width (expr_of x)))))) most_is
    ∙ (need_step most below (expr_need (expr_of x)) (width (expr_of x)) (exprs_of (map expr_of (drop (i + 1) ps))) ∙ before))
