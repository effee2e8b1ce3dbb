-- The rules of expressions over the tree: one layer, whose parts stand resolved already, and the folds.
use Rattle.std.specs.Prelude.{List, [], ◌∷◌, Option, Some, None}
use Rattle.pascal_tree.specs.declared.expr.AddOp.{AddOp}
use Rattle.pascal_tree.specs.declared.expr.MulOp.{MulOp}
use Rattle.pascal_tree.specs.declared.expr.RelOp.{RelOp}
use Rattle.pascal_tree.specs.declared.expr.Prefix.{Prefix}
use Rattle.pascal_tree.specs.declared.expr.Prefix.TheVariants as prefix
use Rattle.pascal_tree.specs.declared.expr.AccessPart.{AccessPart, AccessPart-F, fold-AccessPart}
use Rattle.pascal_tree.specs.declared.expr.Factor.{Factor, Factor-F, fold-Factor}
use Rattle.pascal_tree.specs.declared.expr.Access.{Access, Access-F, fold-Access}
use Rattle.pascal_tree.specs.declared.expr.AddPart.{AddPart, AddPart-F, fold-AddPart}
use Rattle.pascal_tree.specs.declared.expr.Arg.{Arg, Arg-F, fold-Arg}
use Rattle.pascal_tree.specs.declared.expr.Expr.{Expr, Expr-F, fold-Expr}
use Rattle.pascal_tree.specs.declared.expr.MulPart.{MulPart, MulPart-F, fold-MulPart}
use Rattle.pascal_tree.specs.declared.expr.RelPart.{RelPart, RelPart-F, fold-RelPart}
use Rattle.pascal_tree.specs.declared.expr.SetMember.{SetMember, SetMember-F, fold-SetMember}
use Rattle.pascal_tree.specs.declared.expr.SumExpr.{SumExpr, SumExpr-F, fold-SumExpr}
use Rattle.pascal_tree.specs.declared.expr.Term.{Term, Term-F, fold-Term}
use Rattle.check_rules.specs.Strings.{string_constant}
use Rattle.check_rules.specs.Typing.{Table}
use Rattle.expression_rules.specs.Accesses.{entity_at}
use Rattle.resolve_expr.specs.declared.context.Context.{Context}
use Rattle.resolve_expr.specs.Nodes.{Node, number_node, nil_node, Accessed, Resolved, resolved, Argument, components_node, field_node, domain_node, accessed, judged_node, access_value, function_node, set_node, negation, compared, signed, sum_of_all, product_of_all}

abbrev pub Step : Type 0
Step = Node → Node

abbrev pub Adding : Type 0
Adding = AddOp × Node

abbrev pub Multiplying : Type 0
Multiplying = MulOp × Node

abbrev pub Relation : Type 0
Relation = RelOp × Node

abbrev pub Member : Type 0
Member = Node × Option Node

-- an expression that is one access and nothing more stays known as such
abbrev pub relation_value : Table → Resolved → Option Relation → Resolved
relation_value tys a None = a
relation_value tys a (Some (o, b)) = resolved (compared tys o a.node b)

abbrev pub sum_value : Table → Prefix → Resolved → List Adding → Resolved
sum_value tys prefix.Without a [] = a
sum_value tys p a rest = resolved (sum_of_all tys (signed p a.node) rest)

abbrev pub term_value : Table → Resolved → List Multiplying → Resolved
term_value tys a [] = a
term_value tys a (m ∷ rest) = resolved (product_of_all tys a.node (m ∷ rest))

abbrev pub last_node : Option Resolved → Option Node
last_node None = None
last_node (Some v) = Some v.node

module _ (c : Context) where
  abbrev pub in_part : AccessPart-F Step Resolved Accessed Adding Argument Resolved Multiplying Relation Member Resolved Resolved → Step
  in_part (AccessPart-F.Index vs) p = components_node c.env.table p vs
  in_part (AccessPart-F.Field x) p = field_node c.env.table p x
  in_part AccessPart-F.Dereference p = domain_node c.env p

  abbrev pub in_factor : Factor-F Step Resolved Accessed Adding Argument Resolved Multiplying Relation Member Resolved Resolved → Resolved
  in_factor (Factor-F.Number n) = resolved (number_node n)
  in_factor (Factor-F.Str x) = resolved (judged_node (string_constant x))
  in_factor Factor-F.Nil = resolved nil_node
  in_factor (Factor-F.Access a) = access_value c a
  in_factor (Factor-F.Call x args) = resolved (function_node c args (entity_at c.env x))
  in_factor (Factor-F.Members ms) = resolved (set_node c.env.table ms)
  in_factor (Factor-F.Paren v) = resolved v.node
  in_factor (Factor-F.Not v) = resolved (negation v.node)

  abbrev pub in_access : Access-F Step Resolved Accessed Adding Argument Resolved Multiplying Relation Member Resolved Resolved → Accessed
  in_access a = accessed c a.ident (entity_at c.env a.ident) a.parts

  abbrev pub in_adding : AddPart-F Step Resolved Accessed Adding Argument Resolved Multiplying Relation Member Resolved Resolved → Adding
  in_adding a = (a.op, a.right.node)

  abbrev pub in_arg : Arg-F Step Resolved Accessed Adding Argument Resolved Multiplying Relation Member Resolved Resolved → Argument
  in_arg a = record { value = a.value; width = a.width }

  abbrev pub in_expr : Expr-F Step Resolved Accessed Adding Argument Resolved Multiplying Relation Member Resolved Resolved → Resolved
  in_expr e = relation_value c.env.table e.first e.rest

  abbrev pub in_multiplying : MulPart-F Step Resolved Accessed Adding Argument Resolved Multiplying Relation Member Resolved Resolved → Multiplying
  in_multiplying m = (m.op, m.right.node)

  abbrev pub in_relation : RelPart-F Step Resolved Accessed Adding Argument Resolved Multiplying Relation Member Resolved Resolved → Relation
  in_relation r = (r.op, r.right.node)

  abbrev pub in_member : SetMember-F Step Resolved Accessed Adding Argument Resolved Multiplying Relation Member Resolved Resolved → Member
  in_member m = (m.first.node, last_node m.last)

  abbrev pub in_sum : SumExpr-F Step Resolved Accessed Adding Argument Resolved Multiplying Relation Member Resolved Resolved → Resolved
  in_sum s = sum_value c.env.table s.prefix s.first s.rest

  abbrev pub in_term : Term-F Step Resolved Accessed Adding Argument Resolved Multiplying Relation Member Resolved Resolved → Resolved
  in_term t = term_value c.env.table t.first t.rest

  unfoldable pub part_of : AccessPart → Step
  part_of = fold-AccessPart Step Resolved Accessed Adding Argument Resolved Multiplying Relation Member Resolved Resolved in_part in_factor in_access in_adding in_arg in_expr in_multiplying in_relation in_member in_sum in_term

  unfoldable pub factor_of : Factor → Resolved
  factor_of = fold-Factor Step Resolved Accessed Adding Argument Resolved Multiplying Relation Member Resolved Resolved in_part in_factor in_access in_adding in_arg in_expr in_multiplying in_relation in_member in_sum in_term

  unfoldable pub access_of : Access → Accessed
  access_of = fold-Access Step Resolved Accessed Adding Argument Resolved Multiplying Relation Member Resolved Resolved in_part in_factor in_access in_adding in_arg in_expr in_multiplying in_relation in_member in_sum in_term

  unfoldable pub adding_of : AddPart → Adding
  adding_of = fold-AddPart Step Resolved Accessed Adding Argument Resolved Multiplying Relation Member Resolved Resolved in_part in_factor in_access in_adding in_arg in_expr in_multiplying in_relation in_member in_sum in_term

  unfoldable pub argument_of : Arg → Argument
  argument_of = fold-Arg Step Resolved Accessed Adding Argument Resolved Multiplying Relation Member Resolved Resolved in_part in_factor in_access in_adding in_arg in_expr in_multiplying in_relation in_member in_sum in_term

  unfoldable pub value_of : Expr → Resolved
  value_of = fold-Expr Step Resolved Accessed Adding Argument Resolved Multiplying Relation Member Resolved Resolved in_part in_factor in_access in_adding in_arg in_expr in_multiplying in_relation in_member in_sum in_term

  unfoldable pub multiplying_of : MulPart → Multiplying
  multiplying_of = fold-MulPart Step Resolved Accessed Adding Argument Resolved Multiplying Relation Member Resolved Resolved in_part in_factor in_access in_adding in_arg in_expr in_multiplying in_relation in_member in_sum in_term

  unfoldable pub relation_of : RelPart → Relation
  relation_of = fold-RelPart Step Resolved Accessed Adding Argument Resolved Multiplying Relation Member Resolved Resolved in_part in_factor in_access in_adding in_arg in_expr in_multiplying in_relation in_member in_sum in_term

  unfoldable pub member_of : SetMember → Member
  member_of = fold-SetMember Step Resolved Accessed Adding Argument Resolved Multiplying Relation Member Resolved Resolved in_part in_factor in_access in_adding in_arg in_expr in_multiplying in_relation in_member in_sum in_term

  unfoldable pub sum_of : SumExpr → Resolved
  sum_of = fold-SumExpr Step Resolved Accessed Adding Argument Resolved Multiplying Relation Member Resolved Resolved in_part in_factor in_access in_adding in_arg in_expr in_multiplying in_relation in_member in_sum in_term

  unfoldable pub term_of : Term → Resolved
  term_of = fold-Term Step Resolved Accessed Adding Argument Resolved Multiplying Relation Member Resolved Resolved in_part in_factor in_access in_adding in_arg in_expr in_multiplying in_relation in_member in_sum in_term

  -- an expression, resolved
  abbrev pub node_of : Expr → Node
  node_of e = (value_of e).node
