-- An expression that a text spells is formed, and has no more levels than it is spelled with.
use Rattle.std.specs.Prelude.{◌≡◌, ℕ, ◌≤◌, zero, suc, Bool, true, List, [], Option, Some, None}
use Rattle.std.proofs.Common.{refl, arith}
use Rattle.std.specs.Option.{option_map}
use Rattle.dice_base.specs.Forms.{Form}
use Rattle.pascal_tree.specs.Classes.{comma_class}
use Rattle.pascal_tree.specs.declared.expr.Expr.{Expr}
use Rattle.pascal_tree.specs.declared.expr.RelPart.{RelPart}
use Rattle.pascal_tree.specs.declared.expr.SumExpr.{SumExpr}
use Rattle.pascal_tree.specs.declared.expr.SetMember.{SetMember}
use Rattle.pascal_tree.specs.declared.expr.Factor.{Factor, Factor-F}
use Rattle.pascal_tree.specs.declared.expr.Factor.TheVariants as f
use Rattle.pascal_tree.specs.declared.expr.Factor.TheVariants.{rolls-Number, rolls-Str, rolls-Nil, rolls-Access, rolls-Call, rolls-Members, rolls-Paren, rolls-Not}
use Rattle.pascal_tree.specs.declared.expr.AccessPart.{AccessPart-F}
use Rattle.pascal_tree.specs.declared.expr.AccessPart.TheVariants.{rolls-Index, rolls-Field, rolls-Dereference}
use Rattle.pascal_tree.specs.Expressions.{part_form, access_form, width_form, arg_form, args_in, args_form, last_form, member_form, members_in, factor_form, sign_form, mul_form, term_form, add_form, sum_form, rel_form, expr_form, expr_at, factor_at, make_arg, make_member, make_expr}
use Rattle.pascal_tree.specs.FormedExprs.{formed_if_any, access_part_is_formed, factor_is_formed, access_is_formed, add_part_is_formed, arg_is_formed, expr_is_formed, mul_part_is_formed, rel_part_is_formed, member_is_formed, sum_is_formed, term_is_formed}
use Rattle.pascal_tree.specs.Depth.{depth_if_any, access_part_depth, factor_depth, access_depth, add_part_depth, arg_depth, expr_depth, mul_part_depth, rel_part_depth, member_depth, sum_depth, term_depth}
use Rattle.expression_laws.proofs.Words.{and-true}
use Rattle.expression_laws.proofs.Gives.{Anything, Fits, AllFit, SomeFit, Gives, Fitting, some-all, give, refused, choice, behind, weaken, operator, mark, identifier, number, string, items, list}
use Rattle.expression_laws.proofs.Layers.{made, variant}
use Rattle.expression_laws.proofs.ExprLayers.{access_part_layer, factor_layer, access_layer, add_part_layer, arg_layer, expr_layer, mul_part_layer, rel_part_layer, member_layer, sum_layer, term_layer}

-- ---- a part that may be left out

pub record AnyFits {A : Type 0} (formed : A → Bool) (depth : A → ℕ) (d : ℕ) (o : Option A) : Type 0 where
  pub is_formed : formed_if_any (option_map formed o) ≡ true
  pub levels : depth_if_any (option_map depth o) ≤ d

any-none : {A : Type 0} {formed : A → Bool} {depth : A → ℕ} {d : ℕ} → AnyFits formed depth d None
any-none = record { is_formed = refl; levels = omega arith }

any-some : {A : Type 0} {formed : A → Bool} {depth : A → ℕ} {d : ℕ} {a : A} → Fits formed depth d a
    → AnyFits formed depth d (Some a)
any-some f = record { is_formed = f.is_formed; levels = f.levels }

-- ---- accesses, arguments, sets and factors, where it holds of inner expressions

module _ (d : ℕ) (E : Form Expr) (inner : Gives E (Fitting expr_is_formed expr_depth d)) where
  part-gives : Gives (part_form E) (Fitting access_part_is_formed access_part_depth d)
  part-gives =
      choice (mark (behind (list comma_class inner)
      (λ found w f. mark (give
      (variant access_part_layer (AccessPart-F.Index found) (rolls-Index found) f.is_formed f.levels)))))
      (choice (mark (behind identifier
      (λ x w e. give (variant access_part_layer (AccessPart-F.Field x) (rolls-Field x) e (omega arith)))))
      (choice (mark (give (variant access_part_layer AccessPart-F.Dereference rolls-Dereference refl (omega arith))))
      refused))

  pub access-gives : Gives (access_form E) (Fitting access_is_formed access_depth (suc d))
  access-gives =
      behind identifier (λ x w e. behind (items part-gives) (λ parts v f.
      give (made access_layer (record { ident = x; parts = parts }) (and-true _ _ e f.is_formed)
      (omega (arith, f.levels)))))

  arg-fits : (e : Expr) (width : Option Expr) → Fits expr_is_formed expr_depth d e
      → AnyFits expr_is_formed expr_depth d width → Fits arg_is_formed arg_depth d (make_arg e width)
  arg-fits e None f g =
      made arg_layer (record { value = e; width = None }) (and-true _ _ f.is_formed g.is_formed)
      (omega (arith, f.levels, g.levels))
  arg-fits e (Some x) f g =
      made arg_layer (record { value = e; width = Some x }) (and-true _ _ f.is_formed g.is_formed)
      (omega (arith, f.levels, g.levels))

  width-gives : Gives (width_form E) (λ width w. AnyFits expr_is_formed expr_depth d width)
  width-gives = choice (mark (behind inner (λ e w f. give (any-some f)))) (give any-none)

  pub arg-gives : Gives (arg_form E) (Fitting arg_is_formed arg_depth d)
  arg-gives = behind inner (λ e w f. behind width-gives (λ width v g. give (arg-fits e width f g)))

  args-in-gives : Gives (args_in E) (λ args w. SomeFit arg_is_formed arg_depth d args)
  args-in-gives = behind (list comma_class arg-gives) (λ args w f. mark (give f))

  pub args-gives : Gives (args_form E) (λ args w. AllFit arg_is_formed arg_depth d args)
  args-gives =
      choice (mark (weaken args-in-gives (λ args w f. some-all args f)))
      (give (record { is_formed = refl; levels = omega arith }))

  member-fits : (e : Expr) (last : Option Expr) → Fits expr_is_formed expr_depth d e
      → AnyFits expr_is_formed expr_depth d last → Fits member_is_formed member_depth d (make_member e last)
  member-fits e None f g =
      made member_layer (record { first = e; last = None }) (and-true _ _ f.is_formed g.is_formed)
      (omega (arith, f.levels, g.levels))
  member-fits e (Some x) f g =
      made member_layer (record { first = e; last = Some x }) (and-true _ _ f.is_formed g.is_formed)
      (omega (arith, f.levels, g.levels))

  last-gives : Gives (last_form E) (λ last w. AnyFits expr_is_formed expr_depth d last)
  last-gives = choice (mark (behind inner (λ e w f. give (any-some f)))) (give any-none)

  member-gives : Gives (member_form E) (Fitting member_is_formed member_depth d)
  member-gives = behind inner (λ e w f. behind last-gives (λ last v g. give (member-fits e last f g)))

  members-fit : (found : List SetMember) → AllFit member_is_formed member_depth d found
      → Fits factor_is_formed factor_depth (suc d) (f.Members found)
  members-fit found f =
      variant factor_layer (Factor-F.Members found) (rolls-Members found) f.is_formed (omega (arith, f.levels))

  members-gives : Gives (members_in E) (Fitting factor_is_formed factor_depth (suc d))
  members-gives =
      choice (mark (give (members-fit [] (record { is_formed = refl; levels = omega arith }))))
      (behind (list comma_class member-gives) (λ found w f. mark (give (members-fit found (some-all found f)))))

  module _ (N : Form Factor) (operand : Gives N (Fitting factor_is_formed factor_depth d)) where
    pub factor-gives_in : Gives (factor_form E N) (Fitting factor_is_formed factor_depth (suc d))
    factor-gives_in =
        choice (behind number
        (λ n w e. give (variant factor_layer (Factor-F.Number n) (rolls-Number n) e (omega arith))))
        (choice (behind string (λ x w e. give (variant factor_layer (Factor-F.Str x) (rolls-Str x) e (omega arith))))
        (choice (mark (give (variant factor_layer Factor-F.Nil rolls-Nil refl (omega arith))))
        (choice
        (choice (behind identifier (λ x w e. mark (behind args-in-gives (λ args v f.
        give (variant factor_layer (Factor-F.Call x args) (rolls-Call x args) (and-true _ _ e f.is_formed)
        (omega (arith, f.levels)))))))
        (behind access-gives
        (λ a w f. give (variant factor_layer (Factor-F.Access a) (rolls-Access a) f.is_formed f.levels))))
        (choice (mark members-gives)
        (choice (mark (behind inner
        (λ e w f. mark (give
        (variant factor_layer (Factor-F.Paren e) (rolls-Paren e) f.is_formed (omega (arith, f.levels)))))))
        (choice (mark (behind operand
        (λ x w f. give (variant factor_layer (Factor-F.Not x) (rolls-Not x) f.is_formed (omega (arith, f.levels))))))
        refused))))))

-- ---- terms, sums and expressions, where it holds of factors

module _ (d : ℕ) (F : Form Factor) (inner : Gives F (Fitting factor_is_formed factor_depth d)) where
  mul-gives : Gives (mul_form F) (Fitting mul_part_is_formed mul_part_depth d)
  mul-gives =
      behind operator (λ o v any. behind inner
      (λ x w f. give (made mul_part_layer (record { op = o; right = x }) f.is_formed f.levels)))

  term-gives : Gives (term_form F) (Fitting term_is_formed term_depth d)
  term-gives =
      behind inner (λ x w f. behind (items mul-gives) (λ rest v g.
      give (made term_layer (record { first = x; rest = rest }) (and-true _ _ f.is_formed g.is_formed)
      (omega (arith, f.levels, g.levels)))))

  add-gives : Gives (add_form F) (Fitting add_part_is_formed add_part_depth d)
  add-gives =
      behind operator (λ o v any. behind term-gives
      (λ x w f. give (made add_part_layer (record { op = o; right = x }) f.is_formed f.levels)))

  sign-gives : Gives sign_form Anything
  sign-gives = choice operator (give tt)

  sum-gives : Gives (sum_form F) (Fitting sum_is_formed sum_depth d)
  sum-gives =
      behind sign-gives (λ p u any. behind term-gives (λ x w f. behind (items add-gives) (λ rest v g.
      give (made sum_layer (record { prefix = p; first = x; rest = rest }) (and-true _ _ f.is_formed g.is_formed)
      (omega (arith, f.levels, g.levels))))))

  rel-gives : Gives (rel_form F) (λ rest w. AnyFits rel_part_is_formed rel_part_depth d rest)
  rel-gives =
      choice (behind operator (λ o v any. behind sum-gives (λ x w f.
      give (any-some (made rel_part_layer (record { op = o; right = x }) f.is_formed f.levels))))) (give any-none)

  expr-fits : (x : SumExpr) (rest : Option RelPart) → Fits sum_is_formed sum_depth d x
      → AnyFits rel_part_is_formed rel_part_depth d rest → Fits expr_is_formed expr_depth d (make_expr x rest)
  expr-fits x None f g =
      made expr_layer (record { first = x; rest = None }) (and-true _ _ f.is_formed g.is_formed)
      (omega (arith, f.levels, g.levels))
  expr-fits x (Some r) f g =
      made expr_layer (record { first = x; rest = Some r }) (and-true _ _ f.is_formed g.is_formed)
      (omega (arith, f.levels, g.levels))

  pub expr-gives_in : Gives (expr_form F) (Fitting expr_is_formed expr_depth d)
  expr-gives_in = behind sum-gives (λ x w f. behind rel-gives (λ rest v g. give (expr-fits x rest f g)))

-- ---- with any number of levels

mutual
  unfolding expr_at factor_at

  pub expr-gives : (d : ℕ) → Gives (expr_at d) (Fitting expr_is_formed expr_depth d)
  expr-gives zero = refused
  expr-gives (suc d) =
      expr-gives_in (suc d) (factor_form (expr_at d) (factor_at d))
      (factor-gives_in d (expr_at d) (expr-gives d) (factor_at d) (factor-gives d))

  pub factor-gives : (d : ℕ) → Gives (factor_at d) (Fitting factor_is_formed factor_depth d)
  factor-gives zero = refused
  factor-gives (suc d) = factor-gives_in d (expr_at d) (expr-gives d) (factor_at d) (factor-gives d)
