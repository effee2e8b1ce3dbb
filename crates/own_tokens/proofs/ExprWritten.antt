-- Expressions, accesses and arguments are spelled by their own tokens.
use Rattle.std.specs.Prelude.{◌≡◌, ℕ, zero, suc, Bool, List, [], ◌∷◌, ◌++◌, map}
use Rattle.std.proofs.Common.{refl, sym, ap, subst, ◌∙◌}
use Rattle.std.specs.Option.{option_map}
use Rattle.dice_base.specs.declared.token.TokenKind.{TokenKind}
use Rattle.dice_base.specs.declared.token.TokenKind.TheVariants.{Ident}
use Rattle.dice_base.specs.Tokens.{Toks}
use Rattle.dice_base.specs.declared.symbols.words.TheConstants as words
use Rattle.dice_base.specs.declared.symbols.signs.TheConstants as signs
use Rattle.dice_base.specs.Forms.{Form, list_of}
use Rattle.dice_base.specs.Symbols.{and_word, div_word, in_word, mod_word, or_word, plus_sign, minus_sign, times_sign, equal_sign, not_equal_sign, less_sign, greater_sign, at_most_sign, at_least_sign, left_sign, open_sign, close_sign, comma_sign, colon_sign, range_sign}
use Rattle.pascal_tree.specs.declared.expr.Expr.{Expr}
use Rattle.pascal_tree.specs.declared.expr.Arg.{Arg}
use Rattle.pascal_tree.specs.declared.expr.Factor.{Factor}
use Rattle.pascal_tree.specs.declared.expr.Factor.TheVariants as f
use Rattle.pascal_tree.specs.Classes.{comma_class}
use Rattle.pascal_tree.specs.Joined.{optional_part, optional_part_after}
use Rattle.pascal_tree.specs.Expressions.{mul_ops, add_ops, rel_ops, signs, part_form, access_form, width_form, arg_form, args_in, args_form, last_form, member_form, members_in, factor_form, sign_form, mul_form, term_form, add_form, sum_form, rel_form, expr_form, expr_at, factor_at}
use Rattle.pascal_tree.specs.ExprTokens.{prefix_tokens, mul_token, add_token, rel_token, comma_list, expr_tokens, relation_tokens, sum_tokens, adding_tokens, term_tokens, multiplying_tokens, factor_tokens, member_tokens, arg_tokens, args_tokens, access_tokens, accesses_tokens, part_tokens}
use Rattle.own_tokens.proofs.Written.{IsClassOf, word_is, sign_is, AreClasses, Writes, Written, done, refused, choice, behind, last, last_known, word, sign, operators, identifier, number, string, items, list, parens, in-parens}
use Rattle.own_tokens.proofs.ExprTrees.{expr-made, rel-made, sum-made, add-made, term-made, mul-made, number-made, string-made, nil-made, variable-made, call-made, members-made, paren-made, not-made, member-made, arg-made, access-made, index-made, field-made, deref-made}

-- ---- the tokens of operators

mul_classes : AreClasses (λ o. mul_token o ∷ []) mul_ops
mul_classes = (
  times_sign,
  refl,
  sign_is signs.TIMES,
  (
    div_word,
    refl,
    word_is words.DIV,
    (mod_word, refl, word_is words.MOD, (and_word, refl, word_is words.AND, tt)),
  ),
)

add_classes : AreClasses (λ o. add_token o ∷ []) add_ops
add_classes = (
  plus_sign,
  refl,
  sign_is signs.PLUS,
  (minus_sign, refl, sign_is signs.MINUS, (or_word, refl, word_is words.OR, tt)),
)

rel_classes : AreClasses (λ o. rel_token o ∷ []) rel_ops
rel_classes = (
  equal_sign,
  refl,
  sign_is signs.EQUAL,
  (
    not_equal_sign,
    refl,
    sign_is signs.NOT_EQUAL,
    (
      less_sign,
      refl,
      sign_is signs.LESS,
      (
        greater_sign,
        refl,
        sign_is signs.GREATER,
        (
          at_most_sign,
          refl,
          sign_is signs.AT_MOST,
          (
            at_least_sign,
            refl,
            sign_is signs.AT_LEAST,
            (in_word, refl, word_is words.IN, tt),
          ),
        ),
      ),
    ),
  ),
)

pub sign_classes : AreClasses prefix_tokens signs
sign_classes = (plus_sign, refl, sign_is signs.PLUS, (minus_sign, refl, sign_is signs.MINUS, tt))

pub comma_is : IsClassOf comma_class comma_sign
comma_is = sign_is signs.COMMA

module _ {P : TokenKind → Type 0} where
  sign-written : Written P sign_form prefix_tokens
  sign-written = choice (operators prefix_tokens signs sign_classes) (done refl)

-- ---- accesses, arguments, sets and factors, where it holds of inner expressions

module _ {P : TokenKind → Type 0} {E : Form Expr} (inner : Written P E expr_tokens) where
  part-written : Written P (part_form E) part_tokens
  part-written =
      choice (sign signs.LEFT (behind (list comma_is inner) (λ found w. sign signs.RIGHT (done (index-made found)))))
      (choice (sign signs.PERIOD (last identifier (λ x w. field-made x)))
      (choice (sign signs.ARROW (done deref-made)) refused))

  pub access-written : Written P (access_form E) access_tokens
  access-written = behind identifier (λ x w. last (items part-written) (λ parts w. access-made x parts))

  pub accesses-written : Written P (list_of comma_class (access_form E)) accesses_tokens
  unfolding accesses_tokens
  accesses-written = list comma_is access-written

  width-written : Written P (width_form E) (λ width. optional_part_after colon_sign (option_map expr_tokens width))
  width-written = choice (sign signs.COLON (last inner (λ e w. refl))) (done refl)

  arg-written : Written P (arg_form E) arg_tokens
  arg-written = behind inner (λ e w. last width-written (λ width w. arg-made e width))

  args-in-written : Written P (args_in E) (λ args. comma_list (map arg_tokens args) ++ close_sign ∷ [])
  args-in-written = behind (list comma_is arg-written) (λ args w. sign signs.CLOSE (done refl))

  pub args-written : Written P (args_form E) args_tokens
  unfolding args_tokens
  args-written = parens comma_is arg-written

  end-written : Written P (last_form E) (λ end. optional_part_after range_sign (option_map expr_tokens end))
  end-written = choice (sign signs.RANGE (last inner (λ e w. refl))) (done refl)

  member-written : Written P (member_form E) member_tokens
  member-written = behind inner (λ e w. last end-written (λ end w. member-made e end))

  members-written : Writes P (λ z. left_sign ∷ z) (members_in E) factor_tokens
  members-written =
      choice (sign signs.RIGHT (done (members-made [])))
      (behind (list comma_is member-written) (λ found w. sign signs.RIGHT (done (members-made found))))

  -- a list of arguments that tokens spell has one
  call-some : (x : List ℕ) (args : List Arg) (w : Bool) (u : Toks) → (args_in E).full args w u
      → factor_tokens (f.Call x args) ≡ Ident x ∷ open_sign ∷ (comma_list (map arg_tokens args) ++ close_sign ∷ [])
  unfolding args_tokens
  call-some x args w u (found, v, y, z, e, h, (t, v2, y2, z2, e2, class, (made, flag, rest))) =
      call-made x args
      ∙ ap (λ (ts : Toks). Ident x ∷ ts)
      (subst (λ (as' : List Arg). args_tokens as' ≡ open_sign ∷
      (comma_list (map arg_tokens as') ++ close_sign ∷ [])) (sym made)
      (in-parens comma_class (arg_form E) comma_sign arg_tokens found v y h))

  module _ {N : Form Factor} (operand : Written P N factor_tokens) where
    factor-written_in : Written P (factor_form E N) factor_tokens
    factor-written_in =
        choice (last number (λ n w. number-made n))
        (choice (last string (λ x w. string-made x))
        (choice (word words.NIL (done nil-made))
        (choice (choice
        (behind identifier
        (λ x w. sign signs.OPEN (last_known args-in-written (λ args w u h. call-some x args w u h))))
        (last access-written (λ a w. variable-made a)))
        (choice (sign signs.LEFT members-written)
        (choice (sign signs.OPEN (behind inner (λ e w. sign signs.CLOSE (done (paren-made e)))))
        (choice (word words.NOT (last operand (λ x w. not-made x))) refused))))))

-- ---- terms, sums and expressions, where it holds of factors

module _ {P : TokenKind → Type 0} {F : Form Factor} (inner : Written P F factor_tokens) where
  mul-written : Written P (mul_form F) multiplying_tokens
  mul-written = behind (operators (λ o. mul_token o ∷ []) mul_ops mul_classes) (λ o w. last inner (λ x w. mul-made o x))

  term-written : Written P (term_form F) term_tokens
  term-written = behind inner (λ x w. last (items mul-written) (λ rest w. term-made x rest))

  add-written : Written P (add_form F) adding_tokens
  add-written =
      behind (operators (λ o. add_token o ∷ []) add_ops add_classes)
      (λ o w. last term-written (λ x w. add-made o x))

  sum-written : Written P (sum_form F) sum_tokens
  sum-written =
      behind sign-written (λ p w. behind term-written (λ x w. last (items add-written) (λ rest w. sum-made p x rest)))

  rel-written : Written P (rel_form F) (λ rest. optional_part (option_map relation_tokens rest))
  rel-written =
      choice (behind (operators (λ o. rel_token o ∷ []) rel_ops rel_classes)
      (λ o w. last sum-written (λ x w. rel-made o x))) (done refl)

  expr-written_in : Written P (expr_form F) expr_tokens
  expr-written_in = behind sum-written (λ x w. last rel-written (λ rest w. expr-made x rest))

-- ---- with any number of levels

module _ {P : TokenKind → Type 0} where
  mutual
    unfolding expr_at factor_at

    pub expr-written : (d : ℕ) → Written P (expr_at d) expr_tokens
    expr-written zero = refused
    expr-written (suc d) = expr-written_in (factor-written_in (expr-written d) (factor-written d))

    pub factor-written : (d : ℕ) → Written P (factor_at d) factor_tokens
    factor-written zero = refused
    factor-written (suc d) = factor-written_in (expr-written d) (factor-written d)
