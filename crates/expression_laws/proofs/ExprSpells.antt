-- An expression that is formed is spelled by a text, with the levels that it takes.
use Rattle.std.specs.Prelude.{ℕ, ◌≤◌, zero, suc, false, List, [], ◌∷◌, Option, Some, None}
use Rattle.std.proofs.Common.{refl, sym, subst, arith}
use Rattle.dice_base.specs.Forms.{Form, one}
use Rattle.dice_base.specs.Tokens.{operator_of}
use Rattle.dice_base.specs.declared.symbols.words.TheConstants as words
use Rattle.dice_base.specs.declared.symbols.signs.TheConstants as signs
use Rattle.pascal_tree.specs.declared.expr.Prefix.{Prefix}
use Rattle.pascal_tree.specs.declared.expr.Prefix.TheVariants as prefix
use Rattle.pascal_tree.specs.declared.expr.AddOp.{AddOp}
use Rattle.pascal_tree.specs.declared.expr.AddOp.TheVariants as add
use Rattle.pascal_tree.specs.declared.expr.MulOp.{MulOp}
use Rattle.pascal_tree.specs.declared.expr.MulOp.TheVariants as mul
use Rattle.pascal_tree.specs.declared.expr.RelOp.{RelOp}
use Rattle.pascal_tree.specs.declared.expr.RelOp.TheVariants as rel
use Rattle.pascal_tree.specs.declared.expr.Expr.{Expr, out-Expr, roll-Expr, roll-out-Expr}
use Rattle.pascal_tree.specs.declared.expr.RelPart.{RelPart, out-RelPart, roll-RelPart, roll-out-RelPart}
use Rattle.pascal_tree.specs.declared.expr.SumExpr.{SumExpr, out-SumExpr, roll-SumExpr, roll-out-SumExpr}
use Rattle.pascal_tree.specs.declared.expr.AddPart.{out-AddPart, roll-AddPart, roll-out-AddPart}
use Rattle.pascal_tree.specs.declared.expr.Term.{Term, out-Term, roll-Term, roll-out-Term}
use Rattle.pascal_tree.specs.declared.expr.MulPart.{out-MulPart, roll-MulPart, roll-out-MulPart}
use Rattle.pascal_tree.specs.declared.expr.Factor.{Factor, Factor-F, out-Factor, roll-Factor, roll-out-Factor}
use Rattle.pascal_tree.specs.declared.expr.Factor.TheVariants.{rolls-Number, rolls-Str, rolls-Nil, rolls-Access, rolls-Call, rolls-Members, rolls-Paren, rolls-Not}
use Rattle.pascal_tree.specs.declared.expr.SetMember.{SetMember, out-SetMember, roll-SetMember, roll-out-SetMember}
use Rattle.pascal_tree.specs.declared.expr.Arg.{Arg, out-Arg, roll-Arg, roll-out-Arg}
use Rattle.pascal_tree.specs.declared.expr.Access.{Access, out-Access, roll-Access, roll-out-Access}
use Rattle.pascal_tree.specs.declared.expr.AccessPart.{AccessPart-F, out-AccessPart, roll-AccessPart, roll-out-AccessPart}
use Rattle.pascal_tree.specs.declared.expr.AccessPart.TheVariants.{rolls-Index, rolls-Field, rolls-Dereference}
use Rattle.pascal_tree.specs.Expressions as form
use Rattle.pascal_tree.specs.Expressions.{part_form, access_form, width_form, arg_form, args_in, args_form, last_form, member_form, members_in, factor_form, sign_form, mul_form, term_form, add_form, sum_form, rel_form, expr_form, expr_at, factor_at}
use Rattle.pascal_tree.specs.FormedExprs.{access_part_is_formed, factor_is_formed, access_is_formed, add_part_is_formed, arg_is_formed, expr_is_formed, mul_part_is_formed, rel_part_is_formed, member_is_formed, sum_is_formed, term_is_formed}
use Rattle.pascal_tree.specs.Depth.{access_part_depth, factor_depth, access_depth, add_part_depth, arg_depth, expr_depth, mul_part_depth, rel_part_depth, member_depth, sum_depth, term_depth}
use Rattle.expression_laws.specs.Spelled.{Spelled}
use Rattle.expression_laws.proofs.Words.{and-parts}
use Rattle.expression_laws.proofs.Gives.{Fits, AllFit, SomeFit}
use Rattle.expression_laws.proofs.Layers.{opened, some_levels}
use Rattle.expression_laws.proofs.ExprLayers.{AccessPartLayer, FactorLayer, AccessLayer, AddPartLayer, MulPartLayer, RelPartLayer, SumExprLayer, TermLayer, factor_levels, access_part_layer, factor_layer, access_layer, add_part_layer, arg_layer, expr_layer, mul_part_layer, rel_part_layer, member_layer, sum_layer, term_layer}
use Rattle.expression_laws.proofs.Spells.{Spelling, whole, done, left, right, after, identifier, number, string, word, sign, word_operator, sign_operator, items, list}

-- ---- accesses, arguments, sets and factors, where it holds of inner expressions

module _ (d : ℕ) (E : Form Expr) (inner : Spelling E expr_is_formed expr_depth d) where
  part-layer : (x : AccessPartLayer) → Fits access_part_is_formed access_part_depth d (roll-AccessPart x)
      → Spelled (part_form E) (roll-AccessPart x) false
  part-layer (AccessPart-F.Index found) h =
      let (e, n) = opened access_part_layer (AccessPart-F.Index found) h in
      left (sign signs.LEFT refl (after (list signs.COMMA refl inner found (record { is_formed = e; levels = n }))
      (sign signs.RIGHT refl (done (rolls-Index found)))))
  part-layer (AccessPart-F.Field x) h =
      let (e, n) = opened access_part_layer (AccessPart-F.Field x) h in
      right (left (sign signs.PERIOD refl (after (identifier x e) (done (rolls-Field x)))))
  part-layer AccessPart-F.Dereference h = right (right (left (sign signs.ARROW refl (done rolls-Dereference))))

  part-spelled : Spelling (part_form E) access_part_is_formed access_part_depth d
  part-spelled = whole roll-AccessPart out-AccessPart roll-out-AccessPart part-layer

  access-layer : (x : AccessLayer) → Fits access_is_formed access_depth (suc d) (roll-Access x)
      → Spelled (access_form E) (roll-Access x) false
  access-layer x h =
      let (e, n) = opened access_layer x h in
      let (name, parts) = and-parts _ _ e in
      after (identifier x.ident name)
      (after (items part-spelled x.parts (record { is_formed = parts; levels = omega (arith, n) })) (done refl))

  pub access-spelled : Spelling (access_form E) access_is_formed access_depth (suc d)
  access-spelled = whole roll-Access out-Access roll-out-Access access-layer

  arg-layer : (e : Expr) (width : Option Expr) → Fits arg_is_formed arg_depth d (form.make_arg e width)
      → Spelled (arg_form E) (form.make_arg e width) false
  arg-layer e None h =
      let (is, n) = opened arg_layer (record { value = e; width = None }) h in
      after (inner e (record { is_formed = (and-parts _ _ is).0; levels = omega (arith, n) }))
      (after (right (done refl)) (done refl))
  arg-layer e (Some x) h =
      let (is, n) = opened arg_layer (record { value = e; width = Some x }) h in
      after (inner e (record { is_formed = (and-parts _ _ is).0; levels = omega (arith, n) }))
      (after (left (sign signs.COLON refl
      (after (inner x (record { is_formed = (and-parts _ _ is).1; levels = omega (arith, n) })) (done refl))))
      (done refl))

  pub arg-spelled : Spelling (arg_form E) arg_is_formed arg_depth d
  arg-spelled = whole roll-Arg out-Arg roll-out-Arg (λ x h. arg-layer x.value x.width h)

  args-in-spelled : (args : List Arg) → SomeFit arg_is_formed arg_depth d args → Spelled (args_in E) args false
  args-in-spelled args h = after (list signs.COMMA refl arg-spelled args h) (sign signs.CLOSE refl (done refl))

  pub args-spelled : (args : List Arg) → AllFit arg_is_formed arg_depth d args → Spelled (args_form E) args false
  args-spelled [] h = right (done refl)
  args-spelled (x ∷ xs) h =
      left (sign signs.OPEN refl (args-in-spelled (x ∷ xs) (record { is_formed = h.is_formed; levels = h.levels })))

  member-layer : (e : Expr) (last : Option Expr) → Fits member_is_formed member_depth d (form.make_member e last)
      → Spelled (member_form E) (form.make_member e last) false
  member-layer e None h =
      let (is, n) = opened member_layer (record { first = e; last = None }) h in
      after (inner e (record { is_formed = (and-parts _ _ is).0; levels = omega (arith, n) }))
      (after (right (done refl)) (done refl))
  member-layer e (Some x) h =
      let (is, n) = opened member_layer (record { first = e; last = Some x }) h in
      after (inner e (record { is_formed = (and-parts _ _ is).0; levels = omega (arith, n) }))
      (after (left (sign signs.RANGE refl
      (after (inner x (record { is_formed = (and-parts _ _ is).1; levels = omega (arith, n) })) (done refl))))
      (done refl))

  member-spelled : Spelling (member_form E) member_is_formed member_depth d
  member-spelled = whole roll-SetMember out-SetMember roll-out-SetMember (λ x h. member-layer x.first x.last h)

  members-spelled : (found : List SetMember) → AllFit member_is_formed member_depth d found
      → Spelled (members_in E) (roll-Factor (Factor-F.Members found)) false
  members-spelled [] h = left (sign signs.RIGHT refl (done (rolls-Members [])))
  members-spelled (x ∷ xs) h =
      right (after (list signs.COMMA refl member-spelled (x ∷ xs)
      (record { is_formed = h.is_formed; levels = h.levels }))
      (sign signs.RIGHT refl (done (rolls-Members (x ∷ xs)))))

  module _ (N : Form Factor) (operand : Spelling N factor_is_formed factor_depth d) where
    factor-layer : (x : FactorLayer) → Fits factor_is_formed factor_depth (suc d) (roll-Factor x)
        → Spelled (factor_form E N) (roll-Factor x) false
    factor-layer (Factor-F.Number n) h =
        let (e, m) = opened factor_layer (Factor-F.Number n) h in
        left (after (number n e) (done (rolls-Number n)))
    factor-layer (Factor-F.Str x) h =
        let (e, m) = opened factor_layer (Factor-F.Str x) h in
        right (left (after (string x e) (done (rolls-Str x))))
    factor-layer Factor-F.Nil h = right (right (left (word words.NIL refl (done rolls-Nil))))
    factor-layer (Factor-F.Call x args) h =
        let (e, m) = opened factor_layer (Factor-F.Call x args) h in
        let (name, each) = and-parts _ _ e in
        right (right (right (left (left (after (identifier x name) (sign signs.OPEN refl
        (after (args-in-spelled args (record { is_formed = each; levels = omega (arith, m) }))
        (done (rolls-Call x args)))))))))
    factor-layer (Factor-F.Access a) h =
        let (e, m) = opened factor_layer (Factor-F.Access a) h in
        right (right (right (left
        (right (after (access-spelled a (record { is_formed = e; levels = m })) (done (rolls-Access a)))))))
    factor-layer (Factor-F.Members found) h =
        let (e, m) = opened factor_layer (Factor-F.Members found) h in
        right (right (right (right
        (left (sign signs.LEFT refl (members-spelled found (record { is_formed = e; levels = omega (arith, m) })))))))
    factor-layer (Factor-F.Paren x) h =
        let (e, m) = opened factor_layer (Factor-F.Paren x) h in
        right (right (right (right (right (left (sign signs.OPEN refl
        (after (inner x (record { is_formed = e; levels = omega (arith, m) }))
        (sign signs.CLOSE refl (done (rolls-Paren x))))))))))
    factor-layer (Factor-F.Not x) h =
        let (e, m) = opened factor_layer (Factor-F.Not x) h in
        right (right (right (right (right (right (left (word words.NOT refl
        (after (operand x (record { is_formed = e; levels = omega (arith, m) })) (done (rolls-Not x))))))))))

    pub factor-spelled_in : Spelling (factor_form E N) factor_is_formed factor_depth (suc d)
    factor-spelled_in = whole roll-Factor out-Factor roll-out-Factor factor-layer

-- ---- terms, sums and expressions, where it holds of factors

mul-op : (o : MulOp) → Spelled (one (operator_of form.mul_ops)) o false
mul-op mul.Times = sign_operator signs.TIMES refl refl
mul-op mul.Div = word_operator words.DIV refl refl
mul-op mul.Mod = word_operator words.MOD refl refl
mul-op mul.And = word_operator words.AND refl refl

add-op : (o : AddOp) → Spelled (one (operator_of form.add_ops)) o false
add-op add.Plus = sign_operator signs.PLUS refl refl
add-op add.Minus = sign_operator signs.MINUS refl refl
add-op add.Or = word_operator words.OR refl refl

rel-op : (o : RelOp) → Spelled (one (operator_of form.rel_ops)) o false
rel-op rel.Equal = sign_operator signs.EQUAL refl refl
rel-op rel.NotEqual = sign_operator signs.NOT_EQUAL refl refl
rel-op rel.Less = sign_operator signs.LESS refl refl
rel-op rel.Greater = sign_operator signs.GREATER refl refl
rel-op rel.LessEqual = sign_operator signs.AT_MOST refl refl
rel-op rel.GreaterEqual = sign_operator signs.AT_LEAST refl refl
rel-op rel.Member = word_operator words.IN refl refl

sign-spelled : (p : Prefix) → Spelled sign_form p false
sign-spelled prefix.Without = right (done refl)
sign-spelled prefix.Plus = left (sign_operator signs.PLUS refl refl)
sign-spelled prefix.Minus = left (sign_operator signs.MINUS refl refl)

module _ (d : ℕ) (F : Form Factor) (inner : Spelling F factor_is_formed factor_depth d) where
  mul-layer : (x : MulPartLayer) → Fits mul_part_is_formed mul_part_depth d (roll-MulPart x)
      → Spelled (mul_form F) (roll-MulPart x) false
  mul-layer x h =
      let (e, n) = opened mul_part_layer x h in
      after (mul-op x.op) (after (inner x.right (record { is_formed = e; levels = n })) (done refl))

  mul-spelled : Spelling (mul_form F) mul_part_is_formed mul_part_depth d
  mul-spelled = whole roll-MulPart out-MulPart roll-out-MulPart mul-layer

  term-layer : (x : TermLayer) → Fits term_is_formed term_depth d (roll-Term x)
      → Spelled (term_form F) (roll-Term x) false
  term-layer x h =
      let (e, n) = opened term_layer x h in
      after (inner x.first (record { is_formed = (and-parts _ _ e).0; levels = omega (arith, n) }))
      (after (items mul-spelled x.rest (record { is_formed = (and-parts _ _ e).1; levels = omega (arith, n) }))
      (done refl))

  term-spelled : Spelling (term_form F) term_is_formed term_depth d
  term-spelled = whole roll-Term out-Term roll-out-Term term-layer

  add-layer : (x : AddPartLayer) → Fits add_part_is_formed add_part_depth d (roll-AddPart x)
      → Spelled (add_form F) (roll-AddPart x) false
  add-layer x h =
      let (e, n) = opened add_part_layer x h in
      after (add-op x.op) (after (term-spelled x.right (record { is_formed = e; levels = n })) (done refl))

  add-spelled : Spelling (add_form F) add_part_is_formed add_part_depth d
  add-spelled = whole roll-AddPart out-AddPart roll-out-AddPart add-layer

  sum-layer : (x : SumExprLayer) → Fits sum_is_formed sum_depth d (roll-SumExpr x)
      → Spelled (sum_form F) (roll-SumExpr x) false
  sum-layer x h =
      let (e, n) = opened sum_layer x h in
      after (sign-spelled x.prefix)
      (after (term-spelled x.first (record { is_formed = (and-parts _ _ e).0; levels = omega (arith, n) }))
      (after (items add-spelled x.rest (record { is_formed = (and-parts _ _ e).1; levels = omega (arith, n) }))
      (done refl)))

  sum-spelled : Spelling (sum_form F) sum_is_formed sum_depth d
  sum-spelled = whole roll-SumExpr out-SumExpr roll-out-SumExpr sum-layer

  rel-layer : (x : RelPartLayer) → Fits rel_part_is_formed rel_part_depth d (roll-RelPart x)
      → Spelled (rel_form F) (Some (roll-RelPart x)) false
  rel-layer x h =
      let (e, n) = opened rel_part_layer x h in
      left (after (rel-op x.op) (after (sum-spelled x.right (record { is_formed = e; levels = n })) (done refl)))

  rel-spelled : (r : RelPart) → Fits rel_part_is_formed rel_part_depth d r → Spelled (rel_form F) (Some r) false
  rel-spelled r h =
      subst (λ s. Spelled (rel_form F) (Some s) false) (roll-out-RelPart r)
      (rel-layer (out-RelPart r)
      (subst (λ s. Fits rel_part_is_formed rel_part_depth d s) (sym (roll-out-RelPart r)) h))

  expr-layer : (x : SumExpr) (rest : Option RelPart) → Fits expr_is_formed expr_depth d (form.make_expr x rest)
      → Spelled (expr_form F) (form.make_expr x rest) false
  expr-layer x None h =
      let (e, n) = opened expr_layer (record { first = x; rest = None }) h in
      after (sum-spelled x (record { is_formed = (and-parts _ _ e).0; levels = omega (arith, n) }))
      (after (right (done refl)) (done refl))
  expr-layer x (Some r) h =
      let (e, n) = opened expr_layer (record { first = x; rest = Some r }) h in
      after (sum-spelled x (record { is_formed = (and-parts _ _ e).0; levels = omega (arith, n) }))
      (after (rel-spelled r (record { is_formed = (and-parts _ _ e).1; levels = omega (arith, n) })) (done refl))

  pub expr-spelled_in : Spelling (expr_form F) expr_is_formed expr_depth d
  expr-spelled_in = whole roll-Expr out-Expr roll-out-Expr (λ x h. expr-layer x.first x.rest h)

-- ---- each takes a level at least

pub access-some : (a : Access) → 1 ≤ access_depth a
access-some = some_levels access_layer out-Access roll-out-Access (λ x. omega arith)

factor-some : (x : Factor) → 1 ≤ factor_depth x
factor-some = some_levels factor_layer out-Factor roll-out-Factor go where
  go : (x : FactorLayer) → 1 ≤ factor_levels x
  go (Factor-F.Number n) = omega arith
  go (Factor-F.Str x) = omega arith
  go Factor-F.Nil = omega arith
  go (Factor-F.Access a) = access-some a
  go (Factor-F.Call x args) = omega arith
  go (Factor-F.Members found) = omega arith
  go (Factor-F.Paren e) = omega arith
  go (Factor-F.Not x) = omega arith

term-some : (t : Term) → 1 ≤ term_depth t
term-some = some_levels term_layer out-Term roll-out-Term (λ x. omega (arith, factor-some x.first))

sum-some : (s : SumExpr) → 1 ≤ sum_depth s
sum-some = some_levels sum_layer out-SumExpr roll-out-SumExpr (λ x. omega (arith, term-some x.first))

pub expr-some : (e : Expr) → 1 ≤ expr_depth e
expr-some = some_levels expr_layer out-Expr roll-out-Expr (λ x. omega (arith, sum-some x.first))

-- ---- with any number of levels

mutual
  unfolding expr_at factor_at

  pub expr-spelled : (d : ℕ) → Spelling (expr_at d) expr_is_formed expr_depth d
  expr-spelled zero = λ e h. absurd (omega (arith, expr-some e, h.levels))
  expr-spelled (suc d) =
      expr-spelled_in (suc d) (factor_form (expr_at d) (factor_at d))
      (factor-spelled_in d (expr_at d) (expr-spelled d) (factor_at d) (factor-spelled d))

  pub factor-spelled : (d : ℕ) → Spelling (factor_at d) factor_is_formed factor_depth d
  factor-spelled zero = λ x h. absurd (omega (arith, factor-some x, h.levels))
  factor-spelled (suc d) = factor-spelled_in d (expr_at d) (expr-spelled d) (factor_at d) (factor-spelled d)
