-- The rules of statements: all laws of each nonterminal.
use Rattle.std.specs.Prelude.{ℕ, Bool, true, false, List, [], ◌∷◌, ◌++◌, Option, Some, None}
use Rattle.std.proofs.Common.{refl}
use Rattle.pascal_tree.specs.declared.expr.Expr.{Expr}
use Rattle.pascal_tree.specs.declared.expr.Factor.{Factor}
use Rattle.pascal_tree.specs.declared.expr.Access.{Access}
use Rattle.pascal_tree.specs.declared.stmt.Stmt.{Stmt}
use Rattle.pascal_tree.specs.declared.stmt.StmtKind.{StmtKind}
use Rattle.pascal_tree.specs.declared.stmt.StmtKind.TheVariants as s
use Rattle.dice_base.specs.Tokens.{Classes}
use Rattle.dice_base.specs.Forms.{Form, just, token, chain, either, rows, named, numeral}
use Rattle.token_reader.specs.Readers.{Parser, ◌>>=◌, ◌>>◌, pure, expect}
use Rattle.token_reader.proofs.Tables.{Sub, sub_same}
use Rattle.token_reader.proofs.Rules.{Rule, Nothing, give, give_sub, hand, seq, tok, op, choose, choose_else, pass, as_same, split, in_left, group, ident_rule, number_rule, reflag, flags}
use Rattle.token_reader.proofs.Loops.{list_rule, many_rule, ended_rule}
use Rattle.pascal_tree.specs.Classes.{ident_class, number_class, hole_class, begin_class, case_class, do_class, else_class, end_class, for_class, goto_class, if_class, of_class, repeat_class, then_class, until_class, while_class, with_class, open_class, becomes_class, comma_class, semicolon_class, colon_class}
use Rattle.pascal_tree.specs.Expressions.{make_access, part_form, args_form, factor_form, expr_form}
use Rattle.pascal_tree.specs.Statements as form
use Rattle.pascal_tree.specs.Statements.{directions, make_stmt, make_arm}
use Rattle.expression_parser.specs.Readers.{Inner, expr, access_rest}
use Rattle.expression_parser.specs.Follows.{Any, expr_ends, factor_ends, factor_first, expr_first}
use Rattle.expression_parser.proofs.ExprRules.{part_rule, access_rule, args_rule, expr_rule}
use Rattle.declaration_parser.specs.Readers.{constant_first}
use Rattle.declaration_parser.proofs.DeclRules.{constant_rule}
use Rattle.statement_parser.specs.Readers as read
use Rattle.statement_parser.specs.Readers.{assign_first}
use Rattle.statement_parser.specs.Follows.{follows, shuts, kind_first, stmt_first}

-- what comes next behind the first branch of an `if`
abbrev else_first : Bool → Classes
else_first true = follows true
else_first false = else_class ∷ follows true

module _ {I : Type 0} {R : I → I → Type 0} where
  -- the end of a statement that ends with a word or an expression: it is not open
  done : {P : Classes} (x : StmtKind) → Rule R true P (follows false) (λ i. pure x) (λ i. just x false) shuts follows
  done x = give_sub x false follows (λ c e. absurd cc)

  goto_rule : Rule R true [] (goto_class ∷ []) (λ i. read.goto_statement)
      (λ i. token goto_class (chain numeral (λ n _. just (s.Goto n) false))) shuts follows
  unfolding read.goto_statement
  goto_rule = tok goto_class (seq (number_rule (Any (follows false))) (λ n _. done (s.Goto n)) (λ w. refl))

  -- a substatement that is left out, and the statements of a `repeat`
  hole_rule : Rule R true [] (hole_class ∷ []) (λ i. read.hole) (λ i. form.hole_form) shuts follows
  unfolding read.hole
  hole_rule = tok hole_class (give_sub (make_stmt None s.Empty) false follows (sub_same []))

  pub hole_inner : Rule R false [] (hole_class ∷ []) (λ i. read.hole) (λ i. form.hole_form) shuts follows
  hole_inner = reflag false (λ e. absurd cc) hole_rule

  pub hole_list_inner : Rule R false [] (hole_class ∷ []) (λ i. read.hole_list)
      (λ i. chain form.hole_form (λ hole _. just (hole ∷ []) false)) Nothing (Any (until_class ∷ []))
  unfolding read.hole_list
  hole_list_inner = seq hole_inner (λ hole _. give (hole ∷ []) false (Any (until_class ∷ []))) (flags _ refl refl)

  module _ (inner : I → Inner) (A : I → Form Expr) (N : I → Form Factor)
      (expr_inner : Rule R false [] expr_first (λ i. (inner i).expr) A Nothing (Any expr_ends))
      (factor_inner : Rule R false [] factor_first (λ i. (inner i).factor) N Nothing (Any factor_ends))
    where
      abbrev E : I → Form Expr
      E i = expr_form (factor_form (A i) (N i))

      expr_here : Rule R true [] expr_first (λ i. expr (inner i)) E Nothing (Any expr_ends)
      expr_here = expr_rule inner A N expr_inner factor_inner

      -- ---- by an identifier

      -- the steps of an access, behind its identifier, and then an assignment
      abbrev steps_form : List ℕ → I → Form Access
      steps_form x i = chain (rows (part_form (A i))) (λ parts _. just (make_access x parts) false)

      abbrev value_form : I → Access → Form StmtKind
      value_form i a = token becomes_class (chain (E i) (λ e _. just (s.Assign a e) false))

      steps_rule : (x : List ℕ) → Rule R true [] assign_first (λ i. access_rest (inner i) x) (steps_form x)
          Nothing (Any (becomes_class ∷ []))
      unfolding access_rest
      steps_rule x =
          seq (many_rule (part_rule inner A N expr_inner factor_inner) (becomes_class ∷ []) (λ w. refl) [])
          (λ parts _. give (make_access x parts) false (Any (becomes_class ∷ []))) (λ w. refl)

      -- an identifier, and behind it the decision, which the grammar has before it
      by_ident_rule : Rule R true [] (ident_class ∷ []) (λ i. read.by_ident (inner i))
          (λ i. either (form.assign_form (E i) (A i)) (form.call_form (A i))) shuts follows
      unfolding read.by_ident read.assign read.call
      by_ident_rule =
          as_same (λ i. in_left (form.call_form (A i)) (group named (λ x _. steps_form x i) (λ a _. value_form i a)))
          (as_same (λ i. split named (λ x _. chain (steps_form x i) (λ a _. value_form i a))
          (λ x _. chain (args_form (A i)) (λ args _. just (s.Call x args) false)))
          (seq (ident_rule (Any (assign_first ++ open_class ∷ follows false)))
          (λ x _. choose assign_first
          (seq (steps_rule x)
          (λ a _. tok becomes_class (seq expr_here (λ e _. done (s.Assign a e)) (λ w. refl))) (λ w. refl))
          (seq (args_rule inner A N expr_inner factor_inner (follows false) refl) (λ args _. done (s.Call x args))
          (λ w. refl)) refl) (λ w. refl)))

      -- ---- over a statement one level further in, and the statements of a `repeat`

      module _ {L M : Classes} (stmt : I → Parser Stmt) (S : I → Form Stmt)
          (stmt_inner : Rule R false [] L stmt S shuts follows)
          (sequence : I → Parser (List Stmt)) (Q : I → Form (List Stmt))
          (sequence_inner : Rule R false [] M sequence Q Nothing (Any (until_class ∷ [])))
        where
          -- a substatement that is the last part: as open as the whole
          last_part : (make : Stmt → StmtKind) → Rule R false [] L (λ i. stmt i >>= (λ x. pure (make x)))
              (λ i. chain (S i) (λ x w. just (make x) w)) shuts follows
          last_part make = seq stmt_inner (λ x w. hand (make x) w follows) (flags _ refl refl)

          -- it ends with a word, so what may follow is for its user to say
          pub compound_to : (D F : Bool → Classes) → Sub (D false) [] → Rule R true [] (begin_class ∷ [])
              (λ i. read.compound (stmt i)) (λ i. token begin_class (form.compound_in (E i) (A i) (S i) (Q i))) D F
          unfolding read.compound
          compound_to D F less =
              tok begin_class (seq (list_rule semicolon_class (end_class ∷ []) stmt_inner (flags _ refl refl))
              (λ body _. tok end_class (give_sub (s.Compound body) false F less)) (λ w. refl))

          -- behind the first branch, where that is open or not
          some_else : (c : Expr) (a : Stmt) → Rule R true [] (else_class ∷ [])
              (λ i. expect else_class >> (stmt i >>= (λ b. pure (s.If c a (Some b)))))
              (λ i. token else_class (chain (S i) (λ b w. just (s.If c a (Some b)) w))) shuts follows
          some_else c a = tok else_class (last_part (λ b. s.If c a (Some b)))

          else_rule : (c : Expr) (a : Stmt) (w : Bool) → Rule R true (shuts w) (else_first w)
              (λ i. read.else_part (stmt i) c a) (λ i. form.else_form (E i) (A i) (S i) (Q i) c a w) shuts follows
          unfolding read.else_part
          else_rule c a true = pass (else_class ∷ []) (some_else c a) (hand (s.If c a None) true follows) refl refl
          else_rule c a false = choose_else (else_class ∷ []) (some_else c a) (hand (s.If c a None) true follows) refl

          if_rule : Rule R true [] (if_class ∷ []) (λ i. read.if_statement (inner i) (stmt i))
              (λ i. token if_class (form.if_in (E i) (A i) (S i) (Q i))) shuts follows
          unfolding read.if_statement
          if_rule =
              tok if_class (seq expr_here (λ c _. tok then_class
              (seq stmt_inner (λ a w. else_rule c a w) (flags _ refl refl))) (λ w. refl))

          arm_rule : Rule R true [] constant_first (λ i. read.arm (stmt i))
              (λ i. form.arm_form (E i) (A i) (S i) (Q i)) shuts follows
          unfolding read.arm
          arm_rule =
              seq (list_rule comma_class (colon_class ∷ []) constant_rule (λ w. refl)) (λ constants _. tok colon_class
              (seq stmt_inner (λ body w. hand (make_arm constants body) w follows) (flags _ refl refl))) (λ w. refl)

          case_rule : Rule R true [] (case_class ∷ []) (λ i. read.case_statement (inner i) (stmt i))
              (λ i. token case_class (form.case_in (E i) (A i) (S i) (Q i))) shuts follows
          unfolding read.case_statement
          case_rule =
              tok case_class (seq expr_here (λ e _. tok of_class
              (seq (ended_rule semicolon_class (end_class ∷ []) arm_rule (flags _ refl refl) refl)
              (λ arms _. tok end_class (done (s.Case e arms))) (λ w. refl))) (λ w. refl))

          while_rule : Rule R true [] (while_class ∷ []) (λ i. read.while_statement (inner i) (stmt i))
              (λ i. token while_class (form.while_in (E i) (A i) (S i) (Q i))) shuts follows
          unfolding read.while_statement
          while_rule = tok while_class (seq expr_here (λ c _. tok do_class (last_part (s.While c))) (λ w. refl))

          repeat_rule : Rule R true [] (repeat_class ∷ []) (λ i. read.repeat_statement (inner i) (stmt i) (sequence i))
              (λ i. token repeat_class (form.repeat_in (E i) (A i) (S i) (Q i))) shuts follows
          unfolding read.repeat_statement
          repeat_rule =
              tok repeat_class (seq sequence_inner
              (λ body _. tok until_class (seq expr_here (λ c _. done (s.Repeat body c)) (λ w. refl))) (λ w. refl))

          for_rule : Rule R true [] (for_class ∷ []) (λ i. read.for_statement (inner i) (stmt i))
              (λ i. token for_class (form.for_in (E i) (A i) (S i) (Q i))) shuts follows
          unfolding read.for_statement
          for_rule =
              tok for_class (seq (ident_rule (Any (becomes_class ∷ []))) (λ x _. tok becomes_class
              (seq expr_here (λ first _. op directions (λ down. seq expr_here (λ last _. tok do_class
              (last_part (s.For x first down last))) (λ w. refl))) (λ w. refl))) (λ w. refl))

          with_rule : Rule R true [] (with_class ∷ []) (λ i. read.with_statement (inner i) (stmt i))
              (λ i. token with_class (form.with_in (E i) (A i) (S i) (Q i))) shuts follows
          unfolding read.with_statement
          with_rule =
              tok with_class (seq
              (list_rule comma_class (do_class ∷ []) (access_rule inner A N expr_inner factor_inner) (λ w. refl))
              (λ records _. tok do_class (last_part (s.With records))) (λ w. refl))

          kind_rule : Rule R true [] kind_first (λ i. read.kind (inner i) (stmt i) (sequence i))
              (λ i. form.kind_form (E i) (A i) (S i) (Q i)) shuts follows
          unfolding read.kind
          kind_rule =
              choose (begin_class ∷ []) (compound_to shuts follows (sub_same []))
              (choose (if_class ∷ []) if_rule
              (choose (case_class ∷ []) case_rule
              (choose (while_class ∷ []) while_rule
              (choose (repeat_class ∷ []) repeat_rule
              (choose (for_class ∷ []) for_rule
              (choose (with_class ∷ []) with_rule
              (choose (goto_class ∷ []) goto_rule
              (choose (ident_class ∷ []) by_ident_rule
              (done s.Empty) refl) refl) refl) refl) refl) refl) refl) refl) refl

          -- a statement without its label, as a statement
          under : (label : Option ℕ) → Rule R true [] kind_first
              (λ i. read.kind (inner i) (stmt i) (sequence i) >>= (λ kind. pure (make_stmt label kind)))
              (λ i. chain (form.kind_form (E i) (A i) (S i) (Q i)) (λ kind w. just (make_stmt label kind) w))
              shuts follows
          under label = seq kind_rule (λ kind w. hand (make_stmt label kind) w follows) (flags _ refl refl)

          pub stmt_rule : Rule R true [] stmt_first (λ i. read.statement (inner i) (stmt i) (sequence i))
              (λ i. form.stmt_form (E i) (A i) (S i) (Q i)) shuts follows
          unfolding read.statement read.labelled
          stmt_rule =
              choose (number_class ∷ [])
              (seq (number_rule (Any (colon_class ∷ []))) (λ n _. tok colon_class (under (Some n))) (λ w. refl))
              (under None) refl
