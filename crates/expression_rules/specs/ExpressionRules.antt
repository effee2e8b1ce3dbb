-- Expressions (ISO 7185:1990, 6.7.1): a rule for each form, whose parts stand as their judgements: type, least kind of
-- fault, and what is passed by its place.
use Rattle.std.specs.Prelude.{ℕ, List, [], ◌∷◌, map, Option, Some, None}
use Rattle.pascal_tree.specs.declared.expr.Prefix.{Prefix}
use Rattle.pascal_tree.specs.declared.expr.Prefix.TheVariants as prefix
use Rattle.pascal_tree.specs.declared.expr.AddOp.{AddOp}
use Rattle.pascal_tree.specs.declared.expr.MulOp.{MulOp}
use Rattle.pascal_tree.specs.declared.expr.RelOp.{RelOp}
use Rattle.pascal_tree.specs.declared.expr.Expr.{Expr-F}
use Rattle.pascal_tree.specs.declared.expr.RelPart.{RelPart-F}
use Rattle.pascal_tree.specs.declared.expr.SumExpr.{SumExpr-F}
use Rattle.pascal_tree.specs.declared.expr.AddPart.{AddPart-F}
use Rattle.pascal_tree.specs.declared.expr.Term.{Term-F}
use Rattle.pascal_tree.specs.declared.expr.MulPart.{MulPart-F}
use Rattle.pascal_tree.specs.declared.expr.Factor.{Factor-F}
use Rattle.pascal_tree.specs.declared.expr.SetMember.{SetMember-F}
use Rattle.pascal_tree.specs.declared.expr.Arg.{Arg-F}
use Rattle.pascal_tree.specs.declared.expr.Access.{Access-F}
use Rattle.pascal_tree.specs.declared.expr.AccessPart.{AccessPart-F}
use Rattle.check_rules.specs.declared.typing.Host.TheVariants as host
use Rattle.check_rules.specs.declared.typing.Typing.{Typing}
use Rattle.check_rules.specs.declared.typing.Typing.TheVariants.{Ordinal, Nil}
use Rattle.check_rules.specs.declared.entity.JudgedConstant.{JudgedConstant}
use Rattle.check_rules.specs.Strings as constant
use Rattle.check_rules.specs.Faults.{kind_unless}
use Rattle.check_rules.specs.declared.kinds.TheConstants.{WRONG_TYPE}
use Rattle.expression_rules.specs.declared.notes.Notes.{Notes}
use Rattle.expression_rules.specs.declared.notes.Judged.{Judged}
use Rattle.expression_rules.specs.declared.notes.Place.{Place}
use Rattle.expression_rules.specs.declared.notes.Env.{Env}
use Rattle.expression_rules.specs.Values.{no_notes, notes_of, notes_of_both, notes_with, Reached, Value, Argument, judgement, value_of_judgement, integer_type, boolean_type, may_be_host, sum_type, product_type, signed_judgement, relation_judgement, set_judgement}
use Rattle.expression_rules.specs.Accesses.{entity_at, components_place, field_place, domain_place, access_from, function_value, access_value}
use Rattle.check_rules.specs.Typing.{Table, structure_at}

abbrev pub Adding : Type 0
Adding = AddOp × Judged

abbrev pub Multiplying : Type 0
Multiplying = MulOp × Judged

abbrev pub Relation : Type 0
Relation = RelOp × Judged

abbrev pub Member : Type 0
Member = Judged × Option Judged

abbrev pub Step : Type 0
Step = Place → Place

-- the two operands and what their operator makes of them
abbrev pub judgement_of_both : Judged → Judged → Typing × ℕ → Judged
judgement_of_both a b (t, kind) = judgement t (notes_with (notes_of_both a.notes b.notes) kind)

-- operators of one rank go from left to right
abbrev pub sum_with : Table → Judged → Adding → Judged
sum_with tys a (op, b) = judgement_of_both a b (sum_type tys op a.typing b.typing)

abbrev pub sum_of_all : Table → Judged → List Adding → Judged
sum_of_all tys a [] = a
sum_of_all tys a (m ∷ rest) = sum_of_all tys (sum_with tys a m) rest

abbrev pub product_with : Table → Judged → Multiplying → Judged
product_with tys a (op, b) = judgement_of_both a b (product_type tys op a.typing b.typing)

abbrev pub product_of_all : Table → Judged → List Multiplying → Judged
product_of_all tys a [] = a
product_of_all tys a (m ∷ rest) = product_of_all tys (product_with tys a m) rest

-- an expression that is one access and nothing more stays known as such
abbrev pub relation_value : Table → Value → Option Relation → Value
relation_value tys a None = a
relation_value tys a (Some (op, b)) = value_of_judgement (relation_judgement tys op a.judged b)

abbrev pub sum_value : Table → Prefix → Value → List Adding → Value
sum_value tys prefix.Without a [] = a
sum_value tys p a rest = value_of_judgement (sum_of_all tys (signed_judgement tys p a.judged) rest)

abbrev pub term_value : Table → Value → List Multiplying → Value
term_value tys a [] = a
term_value tys a (m ∷ rest) = value_of_judgement (product_of_all tys a.judged (m ∷ rest))

abbrev pub last_judgement : Option Value → Option Judged
last_judgement None = None
last_judgement (Some v) = Some v.judged

abbrev pub constant_judgement : JudgedConstant → Judged
constant_judgement c = judgement c.typing (notes_of c.kind)

abbrev pub negation : Table → Judged → Judged
negation tys v = judgement boolean_type (notes_with v.notes (kind_unless (may_be_host tys host.Boolean v.typing) WRONG_TYPE))

-- ---- one layer, whose parts stand there as their judgements

module _ (env : Env) where
  abbrev pub in_part : AccessPart-F Step Value Reached Adding Argument Value Multiplying Relation Member Value Value → Step
  in_part (AccessPart-F.Index vs) p = components_place env p vs
  in_part (AccessPart-F.Field x) p = field_place env x p.notes (structure_at env.table p.typing)
  in_part AccessPart-F.Dereference p = domain_place env p

  abbrev pub in_factor : Factor-F Step Value Reached Adding Argument Value Multiplying Relation Member Value Value → Value
  in_factor (Factor-F.Number n) = value_of_judgement (judgement integer_type no_notes)
  in_factor (Factor-F.Str x) = value_of_judgement (constant_judgement (constant.string_constant x))
  in_factor Factor-F.Nil = value_of_judgement (judgement Nil no_notes)
  in_factor (Factor-F.Access r) = access_value env r
  in_factor (Factor-F.Call x args) = value_of_judgement (function_value env args (entity_at env x))
  in_factor (Factor-F.Members ms) = value_of_judgement (set_judgement env.table ms)
  in_factor (Factor-F.Paren v) = value_of_judgement v.judged
  in_factor (Factor-F.Not v) = value_of_judgement (negation env.table v.judged)

  abbrev pub in_access : Access-F Step Value Reached Adding Argument Value Multiplying Relation Member Value Value → Reached
  in_access a = access_from env a.ident a.parts

  abbrev pub in_adding : AddPart-F Step Value Reached Adding Argument Value Multiplying Relation Member Value Value → Adding
  in_adding a = (a.op, a.right.judged)

  abbrev pub in_arg : Arg-F Step Value Reached Adding Argument Value Multiplying Relation Member Value Value → Argument
  in_arg a = record { value = a.value; width = a.width }

  abbrev pub in_expr : Expr-F Step Value Reached Adding Argument Value Multiplying Relation Member Value Value → Value
  in_expr e = relation_value env.table e.first e.rest

  abbrev pub in_multiplying : MulPart-F Step Value Reached Adding Argument Value Multiplying Relation Member Value Value → Multiplying
  in_multiplying m = (m.op, m.right.judged)

  abbrev pub in_relation : RelPart-F Step Value Reached Adding Argument Value Multiplying Relation Member Value Value → Relation
  in_relation r = (r.op, r.right.judged)

  abbrev pub in_member : SetMember-F Step Value Reached Adding Argument Value Multiplying Relation Member Value Value → Member
  in_member m = (m.first.judged, last_judgement m.last)

  abbrev pub in_sum : SumExpr-F Step Value Reached Adding Argument Value Multiplying Relation Member Value Value → Value
  in_sum s = sum_value env.table s.prefix s.first s.rest

  abbrev pub in_term : Term-F Step Value Reached Adding Argument Value Multiplying Relation Member Value Value → Value
  in_term t = term_value env.table t.first t.rest
