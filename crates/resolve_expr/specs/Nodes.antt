-- Expressions without their identifiers (ISO 7185:1990, 6.5 and 6.7): a rule for each form, whose parts stand resolved
-- already, each with its type. What breaks a rule of the check has no meaning here, and is given any operation.
use Rattle.std.specs.Prelude.{ℕ, ◌-◌, min, ℤ, pos, negsuc, Bool, true, false, if◌then◌else◌, List, [], ◌∷◌, Option, Some, None, is_some, nat_eq, bytes_eq}
use Rattle.dice_base.specs.declared.name.Name.{Name}
use Rattle.pascal_tree.specs.declared.expr.Prefix.{Prefix}
use Rattle.pascal_tree.specs.declared.expr.Prefix.TheVariants as prefix
use Rattle.pascal_tree.specs.declared.expr.AddOp.{AddOp}
use Rattle.pascal_tree.specs.declared.expr.AddOp.TheVariants as add
use Rattle.pascal_tree.specs.declared.expr.MulOp.{MulOp}
use Rattle.pascal_tree.specs.declared.expr.MulOp.TheVariants as mul
use Rattle.pascal_tree.specs.declared.expr.RelOp.{RelOp}
use Rattle.pascal_tree.specs.declared.expr.RelOp.TheVariants as rel
use Rattle.check_rules.specs.declared.typing.Host.{Host}
use Rattle.check_rules.specs.declared.typing.Host.TheVariants as host
use Rattle.check_rules.specs.declared.typing.Typing.{Typing}
use Rattle.check_rules.specs.declared.typing.Typing.TheVariants.{Ordinal, Written, EmptySet, Nil, Unknown}
use Rattle.check_rules.specs.declared.typing.Domain.{Domain}
use Rattle.check_rules.specs.declared.typing.Structure.{Structure}
use Rattle.check_rules.specs.declared.typing.Structure.TheVariants as made
use Rattle.check_rules.specs.declared.typing.FieldType.{FieldType}
use Rattle.check_rules.specs.declared.entity.Constant.{Constant}
use Rattle.check_rules.specs.declared.entity.Constant.TheVariants.{Number, Chars}
use Rattle.check_rules.specs.declared.entity.Variable.{Variable}
use Rattle.check_rules.specs.declared.entity.Field.{Field}
use Rattle.check_rules.specs.declared.entity.Parameter.{Parameter}
use Rattle.check_rules.specs.declared.entity.RoutineEntity.{RoutineEntity}
use Rattle.check_rules.specs.declared.entity.Standard.{Standard}
use Rattle.check_rules.specs.declared.entity.Standard.TheVariants as standard
use Rattle.check_rules.specs.declared.entity.Entity.{Entity}
use Rattle.check_rules.specs.declared.entity.Entity.TheVariants.{ConstantOf, VariableOf, FieldOf, RoutineOf, StandardOf}
use Rattle.check_rules.specs.declared.entity.JudgedConstant.{JudgedConstant}
use Rattle.check_rules.specs.Typing.{Table, Text, structure_at, bounds_of, words_of, host_of, set_of, string_length, domain_of}
use Rattle.expression_rules.specs.declared.notes.Env.{Env}
use Rattle.expression_rules.specs.Values.{integer_type, boolean_type, sum_type, product_type, base_with, set_of_base}
use Rattle.expression_rules.specs.Accesses.{is_nil, domain_type, result_of}
use Rattle.core_tree.specs.declared.op.CoreExpr.{CoreExpr}
use Rattle.core_tree.specs.declared.op.Scope.{Scope}
use Rattle.core_tree.specs.declared.op.Scope.TheVariants as scope
use Rattle.core_tree.specs.declared.op.Variable.{Variable as Place}
use Rattle.core_tree.specs.declared.op.Storage.{Storage}
use Rattle.core_tree.specs.declared.op.Storage.TheVariants as storage
use Rattle.core_tree.specs.declared.op.Relation.{Relation}
use Rattle.core_tree.specs.declared.op.Relation.TheVariants as relation
use Rattle.core_tree.specs.declared.op.PlaceOp.TheVariants as place
use Rattle.core_tree.specs.declared.op.WordOp.{WordOp}
use Rattle.core_tree.specs.declared.op.WordOp.TheVariants as word
use Rattle.core_tree.specs.declared.op.SetOp.TheVariants as set
use Rattle.core_tree.specs.declared.op.Callee.{Callee}
use Rattle.core_tree.specs.declared.op.Op.{Op}
use Rattle.core_tree.specs.declared.op.Op.TheVariants as op
use Rattle.core_tree.specs.declared.shape.Shape.{Shape}
use Rattle.core_tree.specs.declared.shape.Shape.TheVariants as shape
use Rattle.resolve_expr.specs.declared.context.OwnerWords.{OwnerWords}
use Rattle.resolve_expr.specs.declared.context.Context.{Context}
use Rattle.resolve_expr.specs.declared.context.KeptNode.{KeptNode}
use Rattle.resolve_expr.specs.declared.context.KeptCollected.{KeptCollected}
use Rattle.resolve_expr.specs.Kept.{operation, kept}

-- a place or a value: its type, and the operation that gives it
pub record Node : Type 0 where
  pub typing : Typing
  pub expr : CoreExpr

abbrev pub node : Typing → CoreExpr → Node
node t e = record { typing = t; expr = e }

abbrev pub leaf : Op → Option Shape → CoreExpr
leaf o s = operation o s []

abbrev pub one : Op → Option Shape → Node → CoreExpr
one o s a = operation o s (a.expr ∷ [])

abbrev pub two : Op → Option Shape → Node → Node → CoreExpr
two o s a b = operation o s (a.expr ∷ (b.expr ∷ []))

-- what is kept of it
abbrev pub kept_node : Node → KeptNode
kept_node n = record { typing = n.typing; kept = kept n.expr }

-- what breaks a rule
abbrev pub lost : Node
lost = node Unknown (leaf (op.Word word.Nil) None)

-- an access: its identifier, what it stands for, the place, and whether the identifier stands alone
pub record Accessed : Type 0 where
  pub ident : Text
  pub entity : Option Entity
  pub place : Node
  pub whole : Bool

-- an expression; where it is an access and nothing more, also that access's place
pub record Resolved : Type 0 where
  pub node : Node
  pub access : Option Node

abbrev pub resolved : Node → Resolved
resolved n = record { node = n; access = None }

-- ---- types

abbrev pub host_shape : Host → Shape
host_shape host.Integer = shape.Integer
host_shape host.Boolean = shape.Boolean
host_shape host.Char = shape.Char
host_shape (host.Enumeration k) = shape.Written k

-- the types of the check and the shapes have the same places in their tables
abbrev pub shape_of : Typing → Option Shape
shape_of (Ordinal h) = Some (host_shape h)
shape_of (Written k) = Some (shape.Written k)
shape_of t = None

abbrev pub in_byte : ℤ → ℕ
in_byte (pos n) = min 255 n
in_byte (negsuc n) = 0

abbrev pub ordinal_storage : ℤ × ℤ → Storage
ordinal_storage (first, last) = storage.Ordinal first last

abbrev pub set_storage : ℤ × ℤ → Storage
set_storage (first, last) = storage.Set (in_byte first) (in_byte last)

abbrev pub storage_in : Table → Typing → Option Structure → Storage
storage_in tys t (Some (made.SetOf packed base)) = set_storage (bounds_of tys base)
storage_in tys t (Some (made.ArrayOf packed index component)) = storage.Structure (words_of tys t)
storage_in tys t (Some (made.RecordOf packed fields)) = storage.Structure (words_of tys t)
storage_in tys t (Some (made.Pointer domain)) = storage.Pointer
storage_in tys t _ = ordinal_storage (bounds_of tys t)

-- how a variable of a type keeps its value
abbrev pub storage_of : Table → Typing → Storage
storage_of tys t = storage_in tys t (structure_at tys t)

-- the value of a variable that is kept so
abbrev pub load_of : Storage → Op
load_of (storage.Ordinal first last) = op.Word word.Load
load_of storage.Pointer = op.Word word.Load
load_of (storage.Set first last) = op.Set set.Load
load_of (storage.Structure words) = op.Structure

-- ---- owners

abbrev pub owner_in : List OwnerWords → Name → Option OwnerWords
owner_in [] n = None
owner_in (o ∷ os) n = if nat_eq o.owner.0 n.0 then Some o else owner_in os n

-- seen from a statement of one level, whose variables those of another are
abbrev pub scope_from : ℕ → ℕ → Scope
scope_from level owner = if nat_eq owner 0 then scope.Program else scope.Routine (min 255 (level - owner))

abbrev pub owner_scope : Context → Option OwnerWords → Scope
owner_scope c None = scope.Program
owner_scope c (Some o) = scope_from c.level o.level

abbrev pub frame_words : Option OwnerWords → ℕ
frame_words None = 0
frame_words (Some o) = if nat_eq o.level 0 then 0 else o.words

abbrev pub place_of : Context → Option OwnerWords → ℕ → Bool → Place
place_of c o offset by_place =
    record { scope = owner_scope c o; offset = offset; by_place = by_place; frame_words = frame_words o }

abbrev pub variable_place : Context → Variable → Place
variable_place c v = place_of c (owner_in c.owners v.owner) v.offset v.by_place

-- ---- accesses (6.5)

abbrev pub variable_node : Context → Variable → Node
variable_node c v = node v.typing (leaf (op.Place (place.Variable (variable_place c v))) (shape_of v.typing))

abbrev pub held_node : Field → Node
held_node f = node f.typing (leaf (op.Place (place.Held f.hold f.offset)) (shape_of f.typing))

abbrev pub first_node : Context → Option Entity → Node
first_node c (Some (VariableOf v)) = variable_node c v
first_node c (Some (FieldOf f)) = held_node f
first_node c _ = lost

abbrev pub field_node_in : Node → List FieldType → Text → Node
field_node_in p [] x = lost
field_node_in p (f ∷ fs) x =
    if bytes_eq f.ident x
    then node f.typing (one (op.Place (place.Field f.offset)) (shape_of f.typing) p)
    else field_node_in p fs x

abbrev pub field_node_of : Node → Text → Option Structure → Node
field_node_of p x (Some (made.RecordOf packed fs)) = field_node_in p fs x
field_node_of p x _ = lost

abbrev pub field_node : Table → Node → Text → Node
field_node tys p x = field_node_of p x (structure_at tys p.typing)

abbrev pub index_op : ℤ × ℤ → ℕ → Op
index_op (first, last) words = op.Place (place.Index first last words)

abbrev pub component_of : Table → Node → Node → Typing → Typing → Node
component_of tys p v index component =
    node component (two (index_op (bounds_of tys index) (words_of tys component)) (shape_of p.typing) p v)

abbrev pub component_node_of : Table → Node → Node → Option Structure → Node
component_node_of tys p v (Some (made.ArrayOf packed index component)) = component_of tys p v index component
component_node_of tys p v _ = lost

abbrev pub component_node : Table → Node → Node → Node
component_node tys p v = component_node_of tys p v (structure_at tys p.typing)

abbrev pub components_node : Table → Node → List Resolved → Node
components_node tys p [] = p
components_node tys p (v ∷ vs) = components_node tys (component_node tys p v.node) vs

abbrev pub pointed_node : Table → Node → Typing → Node
pointed_node tys p t = node t (one (op.Place (place.Dereference (words_of tys t))) (shape_of t) p)

abbrev pub domain_node_of : Env → Node → Option Domain → Node
domain_node_of env p None = lost
domain_node_of env p (Some d) = pointed_node env.table p (domain_type env.domains d)

abbrev pub domain_node : Env → Node → Node
domain_node env p = domain_node_of env p (domain_of env.table p.typing)

abbrev pub node_after : Node → List (Node → Node) → Node
node_after p [] = p
node_after p (f ∷ fs) = node_after (f p) fs

abbrev pub accessed : Context → Text → Option Entity → List (Node → Node) → Accessed
accessed c x e steps =
    record { ident = x; entity = e; place = node_after (first_node c e) steps; whole = is_nil steps }

-- ---- constants (6.3, 6.7.1)

abbrev pub number_node : ℕ → Node
number_node n = node integer_type (leaf (op.Word (word.Constant (pos n))) (Some shape.Integer))

abbrev pub nil_node : Node
nil_node = node Nil (leaf (op.Word word.Nil) None)

abbrev pub constant_node : Typing → Constant → Node
constant_node t (Number z) = node t (leaf (op.Word (word.Constant z)) (shape_of t))
constant_node t (Chars x) = node t (leaf (op.Literal x) None)

abbrev pub judged_node : JudgedConstant → Node
judged_node c = constant_node c.typing c.value

-- ---- calls of functions (6.7.3), and of routines

pub record Argument : Type 0 where
  pub value : Resolved
  pub width : Option Resolved

abbrev pub value_argument : Table → Typing → Node → CoreExpr
value_argument tys t v = one (op.Argument (storage_of tys t)) None v

abbrev pub place_or_lost : Option Node → Node
place_or_lost None = lost
place_or_lost (Some p) = p

abbrev pub place_argument : Node → CoreExpr
place_argument p = one op.ActualVariable None p

abbrev pub argument_for : Table → Parameter → Argument → CoreExpr
argument_for tys p a =
    if p.by_place then place_argument (place_or_lost a.value.access) else value_argument tys p.typing a.value.node

-- in the order of the parameters, each with its argument
abbrev pub arguments_for : Table → List Parameter → List Argument → List CoreExpr
arguments_for tys (p ∷ ps) (a ∷ args) = argument_for tys p a ∷ arguments_for tys ps args
arguments_for tys _ _ = []

-- a routine is declared one level above its own
abbrev pub callee_of : Context → RoutineEntity → Callee
callee_of c f =
    record { routine = f.name; scope = scope_from c.level (f.level - 1); function = f.function }

abbrev pub call_expr : Context → RoutineEntity → List Argument → CoreExpr
call_expr c f args = operation (op.Call (callee_of c f)) None (arguments_for c.env.table f.parameters args)

-- the predeclared functions (6.6.6)
abbrev pub succ_word : ℤ × ℤ → WordOp
succ_word (first, last) = word.Succ first last

abbrev pub pred_word : ℤ × ℤ → WordOp
pred_word (first, last) = word.Pred first last

abbrev pub standard_word : Table → Standard → Typing → WordOp
standard_word tys standard.Abs t = word.Abs
standard_word tys standard.Sqr t = word.Sqr
standard_word tys standard.Odd t = word.Odd
standard_word tys standard.Ord t = word.Ord
standard_word tys standard.Chr t = word.Chr
standard_word tys standard.Succ t = succ_word (bounds_of tys t)
standard_word tys standard.Pred t = pred_word (bounds_of tys t)
standard_word tys _ t = word.Nil

-- of one operand, whose host the next value and the one before lie in
abbrev pub standard_of : Table → Standard → Node → Node
standard_of tys f a =
    let t = result_of tys f a.typing in node t (one (op.Word (standard_word tys f t)) None a)

-- of none
abbrev pub input_node : Standard → Option Node
input_node standard.Eof = Some (node boolean_type (leaf (op.Word word.Eof) None))
input_node standard.Eoln = Some (node boolean_type (leaf (op.Word word.Eoln) None))
input_node f = None

abbrev pub one_operand : Table → Standard → List Argument → Option Node
one_operand tys f [] = None
one_operand tys f (a ∷ args) = Some (standard_of tys f a.value.node)

abbrev pub first_of : Option Node → Option Node → Node
first_of (Some n) other = n
first_of None (Some n) = n
first_of None None = lost

abbrev pub standard_node_of : Standard → Option Node → Node
standard_node_of f other = first_of (input_node f) other

abbrev pub standard_node : Table → Standard → List Argument → Node
standard_node tys f args = standard_node_of f (one_operand tys f args)

abbrev pub call_node : Context → RoutineEntity → List Argument → Node
call_node c f args = node f.result (call_expr c f args)

abbrev pub function_node : Context → List Argument → Option Entity → Node
function_node c args (Some (RoutineOf f)) = call_node c f args
function_node c args (Some (StandardOf f)) = standard_node c.env.table f args
function_node c args _ = lost

-- ---- the value of an access: a constant, a function without arguments, or that of a place

abbrev pub loaded : Table → Node → Node
loaded tys p = node p.typing (one (load_of (storage_of tys p.typing)) None p)

-- what an identifier alone gives, where it is no variable
abbrev pub whole_value : Context → Option Entity → Option Node
whole_value c (Some (ConstantOf v t)) = Some (constant_node t v)
whole_value c (Some (RoutineOf f)) = Some (function_node c [] (Some (RoutineOf f)))
whole_value c (Some (StandardOf f)) = Some (function_node c [] (Some (StandardOf f)))
whole_value c _ = None

abbrev pub value_or_loaded : Table → Node → Option Node → Node
value_or_loaded tys p None = loaded tys p
value_or_loaded tys p (Some n) = n

-- an identifier alone
abbrev pub alone_node : Context → Option Entity → Node
alone_node c e = value_or_loaded c.env.table (first_node c e) (whole_value c e)

abbrev pub entity_node : Context → Accessed → Node
entity_node c a = if a.whole then alone_node c a.entity else loaded c.env.table a.place

abbrev pub access_value : Context → Accessed → Resolved
access_value c a = record { node = entity_node c a; access = Some a.place }

-- ---- operators (6.7.2)

abbrev pub is_set : Table → Typing → Bool
is_set tys t = is_some (set_of tys t)

abbrev pub word_or_set : Bool → Op → Op → Op
word_or_set sets on_words on_sets = if sets then on_sets else on_words

abbrev pub add_op : AddOp → Bool → Op
add_op add.Plus sets = word_or_set sets (op.Word word.Add) (op.Set set.Union)
add_op add.Minus sets = word_or_set sets (op.Word word.Subtract) (op.Set set.Difference)
add_op add.Or sets = op.Word word.Or

abbrev pub mul_op : MulOp → Bool → Op
mul_op mul.Times sets = word_or_set sets (op.Word word.Multiply) (op.Set set.Intersection)
mul_op mul.Div sets = op.Word word.Divide
mul_op mul.Mod sets = op.Word word.Modulo
mul_op mul.And sets = op.Word word.And

-- operators of one rank go from left to right
abbrev pub sum_with : Table → Node → AddOp × Node → Node
sum_with tys a (o, b) = node (sum_type tys o a.typing b.typing).0 (two (add_op o (is_set tys a.typing)) None a b)

abbrev pub sum_of_all : Table → Node → List (AddOp × Node) → Node
sum_of_all tys a [] = a
sum_of_all tys a (m ∷ rest) = sum_of_all tys (sum_with tys a m) rest

abbrev pub product_with : Table → Node → MulOp × Node → Node
product_with tys a (o, b) =
    node (product_type tys o a.typing b.typing).0 (two (mul_op o (is_set tys a.typing)) None a b)

abbrev pub product_of_all : Table → Node → List (MulOp × Node) → Node
product_of_all tys a [] = a
product_of_all tys a (m ∷ rest) = product_of_all tys (product_with tys a m) rest

abbrev pub signed : Prefix → Node → Node
signed prefix.Without a = a
signed prefix.Plus a = node integer_type (one (op.Word word.Plus) None a)
signed prefix.Minus a = node integer_type (one (op.Word word.Negate) None a)

abbrev pub negation : Node → Node
negation a = node boolean_type (one (op.Word word.Not) None a)

abbrev pub relation_of : RelOp → Relation
relation_of rel.Equal = relation.Equal
relation_of rel.NotEqual = relation.NotEqual
relation_of rel.Less = relation.Less
relation_of rel.Greater = relation.Greater
relation_of rel.LessEqual = relation.LessEqual
relation_of _ = relation.GreaterEqual

abbrev pub compare_word : Relation → Bool → Option ℕ → WordOp
compare_word r true length = word.CompareSets r
compare_word r false (Some n) = word.CompareStrings r n
compare_word r false None = word.Compare r

abbrev pub relation_word : Table → RelOp → Typing → WordOp
relation_word tys rel.Member t = word.In
relation_word tys o t = compare_word (relation_of o) (is_set tys t) (string_length tys t)

abbrev pub compared : Table → RelOp → Node → Node → Node
compared tys o a b = node boolean_type (two (op.Word (relation_word tys o a.typing)) None a b)

-- ---- sets (6.7.1): the members are put into an empty set from the first on; the first tells the base

pub record Collected : Type 0 where
  pub base : Option Host
  pub set : CoreExpr

abbrev pub base_after : Table → Option Host → Typing → Option Host
base_after tys base t = base_with base (host_of tys t)

abbrev pub kept_collected : Collected → KeptCollected
kept_collected c = record { base = c.base; set = kept c.set }

abbrev pub with_member : Table → Collected → Node × Option Node → Collected
with_member tys c (a, None) = record {
  base = base_after tys c.base a.typing;
  set = operation (op.Set set.Include) None (c.set ∷ (a.expr ∷ []));
}
with_member tys c (a, Some b) = record {
  base = base_after tys (base_after tys c.base a.typing) b.typing;
  set = operation (op.Set set.IncludeRange) None (c.set ∷ (a.expr ∷ (b.expr ∷ [])));
}

abbrev pub with_members : Table → Collected → List (Node × Option Node) → Collected
with_members tys c [] = c
with_members tys c (m ∷ ms) = with_members tys (with_member tys c m) ms

abbrev pub no_members : Collected
no_members = record { base = None; set = leaf (op.Set set.Empty) None }

abbrev pub set_node_of : Bool → Collected → Node
set_node_of empty c = node (if empty then EmptySet else set_of_base c.base) c.set

abbrev pub set_node : Table → List (Node × Option Node) → Node
set_node tys ms = set_node_of (is_nil ms) (with_members tys no_members ms)
