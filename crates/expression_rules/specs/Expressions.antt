-- The judgements of expressions and their parts: their folds by the rules.
use Rattle.pascal_tree.specs.declared.expr.Expr.{Expr, fold-Expr}
use Rattle.pascal_tree.specs.declared.expr.RelPart.{RelPart, fold-RelPart}
use Rattle.pascal_tree.specs.declared.expr.SumExpr.{SumExpr, fold-SumExpr}
use Rattle.pascal_tree.specs.declared.expr.AddPart.{AddPart, fold-AddPart}
use Rattle.pascal_tree.specs.declared.expr.Term.{Term, fold-Term}
use Rattle.pascal_tree.specs.declared.expr.MulPart.{MulPart, fold-MulPart}
use Rattle.pascal_tree.specs.declared.expr.Factor.{Factor, fold-Factor}
use Rattle.pascal_tree.specs.declared.expr.SetMember.{SetMember, fold-SetMember}
use Rattle.pascal_tree.specs.declared.expr.Arg.{Arg, fold-Arg}
use Rattle.pascal_tree.specs.declared.expr.Access.{Access, fold-Access}
use Rattle.pascal_tree.specs.declared.expr.AccessPart.{AccessPart, fold-AccessPart}
use Rattle.expression_rules.specs.declared.notes.Judged.{Judged}
use Rattle.expression_rules.specs.declared.notes.Env.{Env}
use Rattle.expression_rules.specs.Values.{Reached, Value, Argument}
use Rattle.expression_rules.specs.ExpressionRules.{Step, Adding, Multiplying, Relation, Member, in_part, in_factor, in_access, in_adding, in_arg, in_expr, in_multiplying, in_relation, in_member, in_sum, in_term}

module _ (env : Env) where
  unfoldable pub value_of : Expr → Value
  value_of = fold-Expr Step Value Reached Adding Argument Value Multiplying Relation Member Value Value (in_part env) (in_factor env) (in_access env) (in_adding env) (in_arg env) (in_expr env) (in_multiplying env) (in_relation env) (in_member env) (in_sum env) (in_term env)

  unfoldable pub access_of : Access → Reached
  access_of = fold-Access Step Value Reached Adding Argument Value Multiplying Relation Member Value Value (in_part env) (in_factor env) (in_access env) (in_adding env) (in_arg env) (in_expr env) (in_multiplying env) (in_relation env) (in_member env) (in_sum env) (in_term env)

  unfoldable pub argument_of : Arg → Argument
  argument_of = fold-Arg Step Value Reached Adding Argument Value Multiplying Relation Member Value Value (in_part env) (in_factor env) (in_access env) (in_adding env) (in_arg env) (in_expr env) (in_multiplying env) (in_relation env) (in_member env) (in_sum env) (in_term env)

  unfoldable pub sum_of : SumExpr → Value
  sum_of = fold-SumExpr Step Value Reached Adding Argument Value Multiplying Relation Member Value Value (in_part env) (in_factor env) (in_access env) (in_adding env) (in_arg env) (in_expr env) (in_multiplying env) (in_relation env) (in_member env) (in_sum env) (in_term env)

  unfoldable pub term_of : Term → Value
  term_of = fold-Term Step Value Reached Adding Argument Value Multiplying Relation Member Value Value (in_part env) (in_factor env) (in_access env) (in_adding env) (in_arg env) (in_expr env) (in_multiplying env) (in_relation env) (in_member env) (in_sum env) (in_term env)

  unfoldable pub factor_of : Factor → Value
  factor_of = fold-Factor Step Value Reached Adding Argument Value Multiplying Relation Member Value Value (in_part env) (in_factor env) (in_access env) (in_adding env) (in_arg env) (in_expr env) (in_multiplying env) (in_relation env) (in_member env) (in_sum env) (in_term env)

  unfoldable pub part_of : AccessPart → Step
  part_of = fold-AccessPart Step Value Reached Adding Argument Value Multiplying Relation Member Value Value (in_part env) (in_factor env) (in_access env) (in_adding env) (in_arg env) (in_expr env) (in_multiplying env) (in_relation env) (in_member env) (in_sum env) (in_term env)

  unfoldable pub adding_of : AddPart → Adding
  adding_of = fold-AddPart Step Value Reached Adding Argument Value Multiplying Relation Member Value Value (in_part env) (in_factor env) (in_access env) (in_adding env) (in_arg env) (in_expr env) (in_multiplying env) (in_relation env) (in_member env) (in_sum env) (in_term env)

  unfoldable pub multiplying_of : MulPart → Multiplying
  multiplying_of = fold-MulPart Step Value Reached Adding Argument Value Multiplying Relation Member Value Value (in_part env) (in_factor env) (in_access env) (in_adding env) (in_arg env) (in_expr env) (in_multiplying env) (in_relation env) (in_member env) (in_sum env) (in_term env)

  unfoldable pub relation_of : RelPart → Relation
  relation_of = fold-RelPart Step Value Reached Adding Argument Value Multiplying Relation Member Value Value (in_part env) (in_factor env) (in_access env) (in_adding env) (in_arg env) (in_expr env) (in_multiplying env) (in_relation env) (in_member env) (in_sum env) (in_term env)

  unfoldable pub member_of : SetMember → Member
  member_of = fold-SetMember Step Value Reached Adding Argument Value Multiplying Relation Member Value Value (in_part env) (in_factor env) (in_access env) (in_adding env) (in_arg env) (in_expr env) (in_multiplying env) (in_relation env) (in_member env) (in_sum env) (in_term env)

  abbrev pub judgement_of : Expr → Judged
  judgement_of e = (value_of e).judged
