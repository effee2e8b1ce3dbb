-- The rules of expressions, accesses and arguments: all laws of each nonterminal.
use Rattle.std.specs.Prelude.{◌≡◌, ℕ, List, Bool, true, false, [], ◌∷◌, ◌++◌, Some, None}
use Rattle.std.proofs.Common.{refl}
use Rattle.pascal_tree.specs.declared.expr.Prefix.TheVariants as prefix
use Rattle.pascal_tree.specs.declared.expr.Expr.{Expr}
use Rattle.pascal_tree.specs.declared.expr.Factor.{Factor}
use Rattle.pascal_tree.specs.declared.expr.Factor.TheVariants as f
use Rattle.pascal_tree.specs.declared.expr.Access.{Access}
use Rattle.pascal_tree.specs.declared.expr.AccessPart.TheVariants as part
use Rattle.dice_base.specs.Tokens.{Classes, end_of_tokens, keys}
use Rattle.dice_base.specs.Forms.{Form, just, chain, token, either, rows, named}
use Rattle.token_reader.specs.Readers.{Parser, pure}
use Rattle.token_reader.proofs.Rules.{Rule, Nothing, give, refused, seq, tok, op, choose, fits, ident_rule, number_rule, string_rule, optional_rule, as_same, split, in_right, group}
use Rattle.token_reader.proofs.Loops.{list_rule, many_rule}
use Rattle.pascal_tree.specs.Classes.{ident_class, number_class, string_class, nil_class, not_class, open_class, close_class, left_class, right_class, period_class, comma_class, colon_class, range_class, arrow_class}
use Rattle.pascal_tree.specs.Expressions as form
use Rattle.pascal_tree.specs.Expressions.{mul_ops, add_ops, rel_ops, signs, make_mul, make_add, make_rel, make_access, make_member, make_arg, make_term, make_sum, make_expr}
use Rattle.expression_parser.specs.Readers as read
use Rattle.expression_parser.specs.Readers.{part_first}
use Rattle.expression_parser.specs.Follows.{Any, expr_ends, sum_ends, term_ends, factor_ends, access_ends, part_ends, factor_first, expr_first}

-- behind an argument, and behind a member of a set
abbrev arg_ends : Classes
arg_ends = comma_class ∷ close_class ∷ end_of_tokens ∷ []

abbrev member_ends : Classes
member_ends = comma_class ∷ right_class ∷ end_of_tokens ∷ []

-- a rule that needs to know nothing of what stands before, and behind which a class of the last table may follow
abbrev pub Plain : {I A : Type 0} → (I → I → Type 0) → Bool → Classes → (I → Parser A) → (I → Form A) → Classes → Type 0
Plain R s L p g F = Rule R s [] L p g Nothing (Any F)

module _ {I : Type 0} {R : I → I → Type 0} where
  -- the value, where its tokens end
  ready : {A : Type 0} (a : A) (F : Classes) → Plain R true F (λ i. pure a) (λ i. just a false) F
  ready a F = give a false (Any F)

  pub sign_rule : (F : Classes) → fits (keys signs) (keys signs) F ≡ true
      → Plain R true (keys signs ++ F) (λ i. read.sign) (λ i. form.sign_form) F
  unfolding read.sign
  sign_rule F e = optional_rule signs prefix.Without F e

  module _ (inner : I → read.Inner) (E : I → Form Expr) (N : I → Form Factor)
      (expr_inner : Rule R false [] expr_first (λ i. (inner i).expr) E Nothing (Any expr_ends))
      (factor_inner : Rule R false [] factor_first (λ i. (inner i).factor) N Nothing (Any factor_ends))
    where
      -- ---- accesses

      pub part_rule : Plain R true part_first
          (λ i. read.access_part (inner i)) (λ i. form.part_form (E i)) part_ends
      unfolding read.access_part
      part_rule =
          choose (left_class ∷ [])
          (tok left_class (seq (list_rule comma_class (right_class ∷ []) expr_inner (λ w. refl))
          (λ found _. tok right_class (ready (part.Index found) part_ends)) (λ w. refl)))
          (choose (period_class ∷ [])
          (tok period_class (seq (ident_rule (Any part_ends)) (λ x _. ready (part.Field x) part_ends) (λ w. refl)))
          (choose (arrow_class ∷ []) (tok arrow_class (ready part.Dereference part_ends))
          (refused (Any part_ends)) refl) refl) refl

      abbrev steps_form : List ℕ → I → Form Access
      steps_form x i = chain (rows (form.part_form (E i))) (λ parts _. just (make_access x parts) false)

      pub access_rest_rule : (x : List ℕ) → Plain R true part_ends
          (λ i. read.access_rest (inner i) x) (steps_form x) access_ends
      unfolding read.access_rest
      access_rest_rule x =
          seq (many_rule part_rule access_ends (λ w. refl) [])
          (λ parts _. ready (make_access x parts) access_ends) (λ w. refl)

      pub access_rule : Plain R true (ident_class ∷ [])
          (λ i. read.access (inner i)) (λ i. form.access_form (E i)) access_ends
      unfolding read.access
      access_rule = seq (ident_rule (Any part_ends)) (λ x _. access_rest_rule x) (λ w. refl)

      -- ---- arguments

      width_rule : Plain R true (colon_class ∷ arg_ends)
          (λ i. read.width (inner i)) (λ i. form.width_form (E i)) arg_ends
      unfolding read.width
      width_rule =
          choose (colon_class ∷ [])
          (tok colon_class (seq expr_inner (λ e _. ready (Some e) arg_ends) (λ w. refl)))
          (ready None arg_ends) refl

      arg_rule : Plain R false expr_first (λ i. read.arg (inner i)) (λ i. form.arg_form (E i)) arg_ends
      unfolding read.arg
      arg_rule =
          seq expr_inner
          (λ e _. seq width_rule (λ width _. ready (make_arg e width) arg_ends) (λ w. refl)) (λ w. refl)

      -- they end with `)`, so what may follow is for the user to say
      pub args_rest_rule : (F : Classes) → Plain R false expr_first
          (λ i. read.args_rest (inner i)) (λ i. form.args_in (E i)) F
      unfolding read.args_rest
      args_rest_rule F =
          seq (list_rule comma_class (close_class ∷ []) arg_rule (λ w. refl))
          (λ args _. tok close_class (ready args F)) (λ w. refl)

      pub args_rule : (F : Classes) → fits (open_class ∷ []) (open_class ∷ []) F ≡ true
          → Plain R true (open_class ∷ F) (λ i. read.args (inner i)) (λ i. form.args_form (E i)) F
      unfolding read.args
      args_rule F e = choose (open_class ∷ []) (tok open_class (args_rest_rule F)) (ready [] F) e

      -- ---- sets

      last_rule : Plain R true (range_class ∷ member_ends)
          (λ i. read.last (inner i)) (λ i. form.last_form (E i)) member_ends
      unfolding read.last
      last_rule =
          choose (range_class ∷ [])
          (tok range_class (seq expr_inner (λ e _. ready (Some e) member_ends) (λ w. refl)))
          (ready None member_ends) refl

      member_rule : Plain R false expr_first
          (λ i. read.member (inner i)) (λ i. form.member_form (E i)) member_ends
      unfolding read.member
      member_rule =
          seq expr_inner
          (λ first _. seq last_rule (λ last _. ready (make_member first last) member_ends) (λ w. refl)) (λ w. refl)

      members_rule : Plain R false (right_class ∷ expr_first)
          (λ i. read.members_rest (inner i)) (λ i. form.members_in (E i)) factor_ends
      unfolding read.members_rest
      members_rule =
          choose (right_class ∷ []) (tok right_class (ready (f.Members []) factor_ends))
          (seq (list_rule comma_class (right_class ∷ []) member_rule (λ w. refl))
          (λ found _. tok right_class (ready (f.Members found) factor_ends)) (λ w. refl)) refl

      -- ---- factors

      abbrev call_in : List ℕ → I → Form Factor
      call_in x i = token open_class (chain (form.args_in (E i)) (λ args _. just (f.Call x args) false))

      abbrev access_in : I → Access → Bool → Form Factor
      access_in i a w = just (f.Access a) false

      -- an identifier, and behind it the decision, which the grammar has before it
      by_ident_rule : Plain R true (ident_class ∷ []) (λ i. read.by_ident (inner i))
          (λ i. either (chain named (λ x _. call_in x i)) (chain (form.access_form (E i)) (access_in i))) factor_ends
      unfolding read.by_ident
      by_ident_rule =
          as_same (λ i. in_right (chain named (λ x _. call_in x i)) (group named (λ x _. steps_form x i) (access_in i)))
          (as_same (λ i. split named (λ x _. call_in x i) (λ x _. chain (steps_form x i) (access_in i)))
          (seq (ident_rule (Any (open_class ∷ part_ends)))
          (λ x _. choose (open_class ∷ [])
          (tok open_class (seq (args_rest_rule factor_ends) (λ args _. ready (f.Call x args) factor_ends) (λ w. refl)))
          (seq (access_rest_rule x) (λ a _. ready (f.Access a) factor_ends) (λ w. refl)) refl)
          (λ w. refl)))

      abbrev factors : I → Form Factor
      factors i = form.factor_form (E i) (N i)

      pub factor_rule : Plain R true factor_first (λ i. read.factor (inner i)) factors factor_ends
      unfolding read.factor
      factor_rule =
          choose (number_class ∷ [])
          (seq (number_rule (Any factor_ends)) (λ n _. ready (f.Number n) factor_ends) (λ w. refl))
          (choose (string_class ∷ [])
          (seq (string_rule (Any factor_ends)) (λ x _. ready (f.Str x) factor_ends) (λ w. refl))
          (choose (nil_class ∷ []) (tok nil_class (ready f.Nil factor_ends))
          (choose (ident_class ∷ []) by_ident_rule
          (choose (left_class ∷ []) (tok left_class members_rule)
          (choose (open_class ∷ [])
          (tok open_class (seq expr_inner (λ e _. tok close_class (ready (f.Paren e) factor_ends)) (λ w. refl)))
          (choose (not_class ∷ [])
          (tok not_class (seq factor_inner (λ x _. ready (f.Not x) factor_ends) (λ w. refl)))
          (refused (Any factor_ends)) refl) refl) refl) refl) refl) refl) refl

      -- ---- terms, sums and expressions

      mul_rule : Plain R true (keys mul_ops)
          (λ i. read.mul_part (inner i)) (λ i. form.mul_form (factors i)) factor_ends
      unfolding read.mul_part
      mul_rule = op mul_ops (λ o. seq factor_rule (λ x _. ready (make_mul o x) factor_ends) (λ w. refl))

      term_rule : Plain R true factor_first
          (λ i. read.term (inner i)) (λ i. form.term_form (factors i)) term_ends
      unfolding read.term
      term_rule =
          seq factor_rule (λ x _. seq (many_rule mul_rule term_ends (λ w. refl) [])
          (λ rest _. ready (make_term x rest) term_ends) (λ w. refl)) (λ w. refl)

      add_rule : Plain R true (keys add_ops)
          (λ i. read.add_part (inner i)) (λ i. form.add_form (factors i)) term_ends
      unfolding read.add_part
      add_rule = op add_ops (λ o. seq term_rule (λ x _. ready (make_add o x) term_ends) (λ w. refl))

      sum_rule : Plain R true expr_first (λ i. read.sum (inner i)) (λ i. form.sum_form (factors i)) sum_ends
      unfolding read.sum
      sum_rule =
          seq (sign_rule factor_first refl)
          (λ p _. seq term_rule (λ x _. seq (many_rule add_rule sum_ends (λ w. refl) [])
          (λ rest _. ready (make_sum p x rest) sum_ends) (λ w. refl)) (λ w. refl)) (λ w. refl)

      rel_rule : Plain R true (keys rel_ops ++ expr_ends)
          (λ i. read.rel_part (inner i)) (λ i. form.rel_form (factors i)) expr_ends
      unfolding read.rel_part
      rel_rule =
          choose (keys rel_ops)
          (op rel_ops (λ o. seq sum_rule (λ x _. ready (Some (make_rel o x)) expr_ends) (λ w. refl)))
          (ready None expr_ends) refl

      pub expr_rule : Plain R true expr_first
          (λ i. read.expr (inner i)) (λ i. form.expr_form (factors i)) expr_ends
      unfolding read.expr
      expr_rule =
          seq sum_rule (λ x _. seq rel_rule (λ rest _. ready (make_expr x rest) expr_ends) (λ w. refl)) (λ w. refl)
