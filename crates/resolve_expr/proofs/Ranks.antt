-- What an expression, a sum, a term and their parts are by their parts.
use Rattle.std.proofs.Common.{IfOk, Result, ◌≡◌, List, [], ◌∷◌, Option, Some, None, map, length, get_or, ◌<◌, false, refl, ap, sym, ◌∙◌, option_map, arith}
use Rattle.pascal_tree.specs.declared.expr.Prefix.{Prefix}
use Rattle.pascal_tree.specs.declared.expr.Prefix.TheVariants.{Without, Plus, Minus}
use Rattle.pascal_tree.specs.declared.expr.Expr.{Expr}
use Rattle.pascal_tree.specs.declared.expr.SumExpr.{SumExpr, out-SumExpr}
use Rattle.pascal_tree.specs.declared.expr.Term.{Term, out-Term}
use Rattle.pascal_tree.specs.declared.expr.AddPart.{AddPart, out-AddPart}
use Rattle.pascal_tree.specs.declared.expr.MulPart.{MulPart, out-MulPart}
use Rattle.pascal_tree.specs.declared.expr.Arg.{Arg, out-Arg}
use Rattle.pascal_tree.specs.declared.expr.SetMember.{SetMember, out-SetMember, map-SetMember}
use Rattle.pascal_tree.specs.declared.expr.Access.{Access, out-Access}
use Rattle.pascal_tree.specs.declared.expr.AccessPart.{AccessPart}
use Rattle.pascal_tree.specs.declared.expr.Factor.{Factor}
use Rattle.pascal_tree.specs.declared.expr.RelPart.{RelPart}
use Rattle.pascal_tree.specs.declared.expr.AccessPart.TheFolds.{fold_out-SumExpr, fold_out-Term, fold_out-AddPart, fold_out-MulPart, fold_out-Arg, fold_out-SetMember, fold_out-Access}
use Rattle.check_rules.specs.Typing.{Table}
use Rattle.check_rules.specs.declared.entity.Standard.{Standard}
use Rattle.expression_rules.specs.Accesses.{is_nil}
use Rattle.dice_base.specs.declared.fault.NoMemory.{NoMemory}
use Rattle.resolve_expr.specs.declared.context.KeptNode.{KeptNode}
use Rattle.resolve_expr.specs.declared.context.Context.{Context}
use Rattle.resolve_expr.specs.Nodes.{Node, Resolved, Accessed, Argument, signed, sum_of_all, product_of_all, kept_node, entity_node, loaded, standard_node, standard_node_of, standard_of}
use Rattle.resolve_expr.specs.Expressions.{Step, Adding, Multiplying, Relation, Member, sum_value, term_value, last_node, in_part, in_factor, in_access, in_adding, in_arg, in_expr, in_multiplying, in_relation, in_member, in_sum, in_term, sum_of, term_of, factor_of, adding_of, multiplying_of, argument_of, member_of, value_of, part_of, access_of, relation_of}

term_node : (tys : Table) (v : Resolved) (ms : List Multiplying) → (term_value tys v ms).node ≡ product_of_all tys v.node ms
term_node tys v [] = refl
term_node tys v (m ∷ ms) = refl

sum_node : (tys : Table) (p : Prefix) (v : Resolved) (ms : List Adding) → (sum_value tys p v ms).node ≡ sum_of_all tys (signed p v.node) ms
sum_node tys Without v [] = refl
sum_node tys Without v (m ∷ ms) = refl
sum_node tys Plus v ms = refl
sum_node tys Minus v ms = refl

pub term_is : (c : Context) (t : Term) → (term_of c t).node ≡ product_of_all c.env.table (factor_of c (out-Term t).first).node (map (multiplying_of c) (out-Term t).rest)
unfolding term_of factor_of multiplying_of
term_is c t = rw (fold_out-Term Step Resolved Accessed Adding Argument Resolved Multiplying Relation Member Resolved Resolved (in_part c) (in_factor c) (in_access c) (in_adding c) (in_arg c) (in_expr c) (in_multiplying c) (in_relation c) (in_member c) (in_sum c) (in_term c) t) (term_node c.env.table (factor_of c (out-Term t).first) (map (multiplying_of c) (out-Term t).rest))

pub sum_is : (c : Context) (s : SumExpr) → (sum_of c s).node ≡ sum_of_all c.env.table (signed (out-SumExpr s).prefix (term_of c (out-SumExpr s).first).node) (map (adding_of c) (out-SumExpr s).rest)
unfolding sum_of term_of adding_of
sum_is c s = rw (fold_out-SumExpr Step Resolved Accessed Adding Argument Resolved Multiplying Relation Member Resolved Resolved (in_part c) (in_factor c) (in_access c) (in_adding c) (in_arg c) (in_expr c) (in_multiplying c) (in_relation c) (in_member c) (in_sum c) (in_term c) s) (sum_node c.env.table (out-SumExpr s).prefix (term_of c (out-SumExpr s).first) (map (adding_of c) (out-SumExpr s).rest))

pub adding_is : (c : Context) (p : AddPart) → adding_of c p ≡ ((out-AddPart p).op, (term_of c (out-AddPart p).right).node)
unfolding adding_of term_of
adding_is c p = fold_out-AddPart Step Resolved Accessed Adding Argument Resolved Multiplying Relation Member Resolved Resolved (in_part c) (in_factor c) (in_access c) (in_adding c) (in_arg c) (in_expr c) (in_multiplying c) (in_relation c) (in_member c) (in_sum c) (in_term c) p

pub multiplying_is : (c : Context) (p : MulPart) → multiplying_of c p ≡ ((out-MulPart p).op, (factor_of c (out-MulPart p).right).node)
unfolding multiplying_of factor_of
multiplying_is c p = fold_out-MulPart Step Resolved Accessed Adding Argument Resolved Multiplying Relation Member Resolved Resolved (in_part c) (in_factor c) (in_access c) (in_adding c) (in_arg c) (in_expr c) (in_multiplying c) (in_relation c) (in_member c) (in_sum c) (in_term c) p

pub argument_is : (c : Context) (a : Arg) → (argument_of c a).value ≡ value_of c (out-Arg a).value
unfolding argument_of value_of
argument_is c a = rw (fold_out-Arg Step Resolved Accessed Adding Argument Resolved Multiplying Relation Member Resolved Resolved (in_part c) (in_factor c) (in_access c) (in_adding c) (in_arg c) (in_expr c) (in_multiplying c) (in_relation c) (in_member c) (in_sum c) (in_term c) a) refl

member_by : (c : Context) (a : Expr) (b : Option Expr) → in_member c (map-SetMember AccessPart Factor Access AddPart Arg Expr MulPart RelPart SetMember SumExpr Term Step Resolved Accessed Adding Argument Resolved Multiplying Relation Member Resolved Resolved (part_of c) (factor_of c) (access_of c) (adding_of c) (argument_of c) (value_of c) (multiplying_of c) (relation_of c) (member_of c) (sum_of c) (term_of c) (record { first = a; last = b })) ≡ ((value_of c a).node, last_node (option_map (value_of c) b))
member_by c a None = refl
member_by c a (Some b) = refl

pub member_is : (c : Context) (m : SetMember) → member_of c m ≡ ((value_of c (out-SetMember m).first).node, last_node (option_map (value_of c) (out-SetMember m).last))
unfolding part_of factor_of access_of adding_of argument_of value_of multiplying_of relation_of member_of sum_of term_of
member_is c m = fold_out-SetMember Step Resolved Accessed Adding Argument Resolved Multiplying Relation Member Resolved Resolved (in_part c) (in_factor c) (in_access c) (in_adding c) (in_arg c) (in_expr c) (in_multiplying c) (in_relation c) (in_member c) (in_sum c) (in_term c) m ∙ member_by c (out-SetMember m).first (out-SetMember m).last

whole_is : (c : Context) (a : Access) → (access_of c a).whole ≡ is_nil (map (part_of c) (out-Access a).parts)
unfolding access_of part_of
whole_is c a = ap (λ r. r.whole) (fold_out-Access Step Resolved Accessed Adding Argument Resolved Multiplying Relation Member Resolved Resolved (in_part c) (in_factor c) (in_access c) (in_adding c) (in_arg c) (in_expr c) (in_multiplying c) (in_relation c) (in_member c) (in_sum c) (in_term c) a)

some_parts : {A B : Type 0} (f : A → B) (xs : List A) → 0 < length xs → is_nil (map f xs) ≡ false
some_parts f [] some = absurd (omega (arith, some))
some_parts f (x ∷ xs) some = refl

entity_by : (c : Context) (a : Accessed) → a.whole ≡ false → entity_node c a ≡ loaded c.env.table a.place
entity_by c a is = rw is refl

-- an access with parts is no identifier alone
pub parted_value : (c : Context) (a : Access) → 0 < length (out-Access a).parts → entity_node c (access_of c a) ≡ loaded c.env.table (access_of c a).place
parted_value c a some = entity_by c (access_of c a) (whole_is c a ∙ some_parts (part_of c) (out-Access a).parts some)

pub first_argument : (c : Context) (f : Standard) (args : List Arg) (x : Arg) → 0 < length args → x ≡ get_or args 0 x
    → standard_node c.env.table f (map (argument_of c) args) ≡ standard_node_of f (Some (standard_of c.env.table f (value_of c (out-Arg x).value).node))
first_argument c f [] x some is = absurd (omega (arith, some))
first_argument c f (a ∷ args) x some is =
    ap (λ v. standard_node_of f (Some (standard_of c.env.table f v.node))) (argument_is c a ∙ ap (λ y. value_of c (out-Arg y).value) (sym is))

-- a predeclared function of an operand, over the same table
pub standard_over : (r : Result KeptNode NoMemory) (tys uys : Table) (f : Standard) (x n : Node) → IfOk r (λ k. k ≡ kept_node (standard_node_of f (Some (standard_of tys f x))))
    → tys ≡ uys → n ≡ standard_node_of f (Some (standard_of uys f x)) → IfOk r (λ k. k ≡ kept_node n)
standard_over r tys uys f x n put table is = rw is (rw (sym table) put)

-- the value of a place, over the same table
pub loaded_over : (r : Result KeptNode NoMemory) (tys uys : Table) (x n : Node) → IfOk r (λ k. k ≡ kept_node (loaded tys x))
    → tys ≡ uys → n ≡ loaded uys x → IfOk r (λ k. k ≡ kept_node n)
loaded_over r tys uys x n put table is = rw is (rw (sym table) put)
