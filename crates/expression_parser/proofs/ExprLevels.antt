-- The laws of expressions and factors at each level, and at each two levels that come one after the other.
use Rattle.std.specs.Prelude.{ℕ, zero, suc, Bool, true, false, []}
use Rattle.std.proofs.Common.{refl}
use Rattle.pascal_tree.specs.declared.expr.Expr.{Expr}
use Rattle.pascal_tree.specs.declared.expr.Factor.{Factor}
use Rattle.dice_base.specs.Forms.{Form}
use Rattle.token_reader.specs.declared.stop.Stop.TheVariants.{Deep}
use Rattle.token_reader.proofs.Laws.{One, Local, stop_one, stop_local}
use Rattle.token_reader.proofs.Levels.{Slow, Steady, deep_steady}
use Rattle.token_reader.proofs.Rules.{Nothing, Alone, Pair, alone_rule, pair_rule}
use Rattle.pascal_tree.specs.Expressions.{expr_at, factor_at}
use Rattle.expression_parser.specs.Readers.{Inner, inside}
use Rattle.expression_parser.specs.Follows.{Any, expr_ends, factor_ends, factor_first, expr_first}
use Rattle.expression_parser.proofs.ExprRules.{Plain, expr_rule, factor_rule}

-- ---- one level

abbrev pub ExprLaws : ℕ → Type 0
ExprLaws d =
    One [] expr_first ((inside d).expr) (expr_at d) Nothing (Any expr_ends) × Local ((inside d).expr)

abbrev pub FactorLaws : ℕ → Type 0
FactorLaws d =
    One [] factor_first ((inside d).factor) (factor_at d) Nothing (Any factor_ends) × Local ((inside d).factor)

-- the rules of one level, over the laws of the level further in
abbrev expr_next : (d : ℕ) → ExprLaws d → FactorLaws d
    → Plain Alone true expr_first (λ i. (inside (suc d)).expr) (λ i. expr_at (suc d)) expr_ends
unfolding inside expr_at factor_at
expr_next d e f =
    expr_rule (λ i. inside d) (λ i. expr_at d) (λ i. factor_at d) (alone_rule e.0 e.1) (alone_rule f.0 f.1)

abbrev factor_next : (d : ℕ) → ExprLaws d → FactorLaws d
    → Plain Alone true factor_first (λ i. (inside (suc d)).factor) (λ i. factor_at (suc d)) factor_ends
unfolding inside expr_at factor_at
factor_next d e f =
    factor_rule (λ i. inside d) (λ i. expr_at d) (λ i. factor_at d) (alone_rule e.0 e.1) (alone_rule f.0 f.1)

mutual
  unfolding inside expr_at factor_at

  pub expr_laws : (d : ℕ) → ExprLaws d
  expr_laws zero = (stop_one Deep [] expr_first Nothing (Any expr_ends), stop_local Deep)
  expr_laws (suc d) = let r = expr_next d (expr_laws d) (factor_laws d) in (r.laws tt, r.local tt)

  pub factor_laws : (d : ℕ) → FactorLaws d
  factor_laws zero = (stop_one Deep [] factor_first Nothing (Any factor_ends), stop_local Deep)
  factor_laws (suc d) = let r = factor_next d (expr_laws d) (factor_laws d) in (r.laws tt, r.local tt)

-- where a level is left, it is too deep only behind a token
pub expr_slow : (d : ℕ) → Slow ((inside (suc d)).expr)
expr_slow d = (expr_next d (expr_laws d) (factor_laws d)).slow refl tt

pub factor_slow : (d : ℕ) → Slow ((inside (suc d)).factor)
factor_slow d = (factor_next d (expr_laws d) (factor_laws d)).slow refl tt

-- ---- two levels

abbrev pub inners : ℕ → Bool → Inner
inners d false = inside d
inners d true = inside (suc d)

abbrev pub exprs : ℕ → Bool → Form Expr
exprs d false = expr_at d
exprs d true = expr_at (suc d)

abbrev pub factors : ℕ → Bool → Form Factor
factors d false = factor_at d
factors d true = factor_at (suc d)

pub expr_pair : (d : ℕ) → Steady ((inside d).expr) ((inside (suc d)).expr)
    → Plain Pair false expr_first (λ i. (inners d i).expr) (exprs d) expr_ends
expr_pair d s =
    let (low, low_local) = expr_laws d in
    let (high, high_local) = expr_laws (suc d) in
    pair_rule (λ i. (inners d i).expr) (exprs d) low low_local high high_local (expr_slow d) s

pub factor_pair : (d : ℕ) → Steady ((inside d).factor) ((inside (suc d)).factor)
    → Plain Pair false factor_first (λ i. (inners d i).factor) (factors d) factor_ends
factor_pair d s =
    let (low, low_local) = factor_laws d in
    let (high, high_local) = factor_laws (suc d) in
    pair_rule (λ i. (inners d i).factor) (factors d) low low_local high high_local (factor_slow d) s

mutual
  unfolding inside

  pub expr_steady : (d : ℕ) → Steady ((inside d).expr) ((inside (suc d)).expr)
  expr_steady zero = deep_steady ((inside (suc zero)).expr) (expr_laws (suc zero)).1 (expr_slow zero)
  expr_steady (suc d) =
      let e = expr_pair d (expr_steady d) in
      let f = factor_pair d (factor_steady d) in
      (expr_rule (inners d) (exprs d) (factors d) e f).steady false true (refl, refl)

  pub factor_steady : (d : ℕ) → Steady ((inside d).factor) ((inside (suc d)).factor)
  factor_steady zero = deep_steady ((inside (suc zero)).factor) (factor_laws (suc zero)).1 (factor_slow zero)
  factor_steady (suc d) =
      let e = expr_pair d (expr_steady d) in
      let f = factor_pair d (factor_steady d) in
      (factor_rule (inners d) (exprs d) (factors d) e f).steady false true (refl, refl)
