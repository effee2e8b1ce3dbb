-- Expressions of a program and of a routine in a routine, resolved by the rules:
--
--   const top = 9;
--   type index = 1..10; list = array [index] of integer;
--   var x : integer; v : list;
--   procedure outer(var p : integer); { level 1 }
--     procedure inner; .. { level 2: the expressions stand here }
use Rattle.std.proofs.Common.{ℕ, ◌≡◌, pos, negsuc, true, false, List, [], ◌∷◌, Some, None, refl, codes}
use Rattle.dice_base.specs.declared.name.Name.{Name}
use Rattle.pascal_tree.specs.declared.expr.Prefix.TheVariants as prefix
use Rattle.pascal_tree.specs.declared.expr.AddOp.TheVariants as add
use Rattle.pascal_tree.specs.declared.expr.Factor.{Factor-F}
use Rattle.pascal_tree.specs.declared.expr.AccessPart.{AccessPart-F}
use Rattle.check_rules.specs.declared.typing.Host.TheVariants as host
use Rattle.check_rules.specs.declared.typing.Packing.TheVariants.{Either}
use Rattle.check_rules.specs.declared.typing.Typing.TheVariants.{Ordinal, Written, CanonicalSet}
use Rattle.check_rules.specs.declared.typing.Structure.TheVariants as made
use Rattle.check_rules.specs.declared.entity.Constant.TheVariants.{Number}
use Rattle.check_rules.specs.declared.entity.Entity.TheVariants.{ConstantOf, VariableOf, RoutineOf, StandardOf}
use Rattle.check_rules.specs.declared.entity.Standard.TheVariants as standard
use Rattle.core_tree.specs.declared.op.Scope.TheVariants as scope
use Rattle.core_tree.specs.declared.op.PlaceOp.TheVariants as place
use Rattle.core_tree.specs.declared.op.WordOp.TheVariants as word
use Rattle.core_tree.specs.declared.op.SetOp.TheVariants as set
use Rattle.core_tree.specs.declared.op.Op.TheVariants as op
use Rattle.core_tree.specs.declared.op.CoreExpr.{CoreExpr}
use Rattle.core_tree.specs.declared.shape.Shape.TheVariants as shape
use Rattle.resolve_expr.specs.declared.context.Context.{Context}
use Rattle.resolve_expr.specs.Kept.{operation}
use Rattle.resolve_expr.specs.Nodes.{Resolved, node, leaf}
use Rattle.resolve_expr.specs.Expressions.{in_part, in_factor, in_access, in_expr, in_sum, in_term, in_adding, in_arg, in_member}

abbrev program : Name
program = record { 0 = 1 }

abbrev outer : Name
outer = record { 0 = 5 }

abbrev here : Context
here = record {
  env = record {
    table =
        record { structure = made.Subrange host.Integer (pos 1) (pos 10); words = 1 }
        ∷ record { structure = made.ArrayOf false (Written 0) (Ordinal host.Integer); words = 10 }
        ∷ [];
    domains = [];
    regions =
        record {
          declared =
              record { ident = codes "succ"; entity = StandardOf standard.Succ } ∷ record { ident = codes "eof"; entity = StandardOf standard.Eof } ∷ [];
          later = [];
          types = [];
          constants = [];
        }
        ∷ record {
          declared =
              record { ident = codes "top"; entity = ConstantOf (Number (pos 9)) (Ordinal host.Integer) }
              ∷ record { ident = codes "x"; entity = VariableOf (record { owner = program; typing = Ordinal host.Integer; offset = 0; by_place = false; local = true }) }
              ∷ record { ident = codes "v"; entity = VariableOf (record { owner = program; typing = Written 1; offset = 1; by_place = false; local = true }) }
              ∷ record { ident = codes "outer"; entity = RoutineOf (record { name = outer; function = false; level = 1; parameters = record { ident = codes "p"; by_place = true; typing = Ordinal host.Integer } ∷ []; result = Ordinal host.Integer; forward = false }) }
              ∷ [];
          later = [];
          types = [];
          constants = [];
        }
        ∷ record {
          declared =
              record { ident = codes "p"; entity = VariableOf (record { owner = outer; typing = Ordinal host.Integer; offset = 0; by_place = true; local = false }) }
              ∷ [];
          later = [];
          types = [];
          constants = [];
        }
        ∷ [];
    opened = [];
    holds = 0;
    owner = record { 0 = 7 };
    functions = [];
    changed = [];
  };
  level = 2;
  owners = record { owner = program; level = 0; words = 11 } ∷ record { owner = outer; level = 1; words = 1 } ∷ [];
}

-- the tree's layers around a factor, and around two terms
abbrev factor : Resolved → Resolved
factor f = in_expr here (record { first = in_sum here (record { prefix = prefix.Without; first = in_term here (record { first = f; rest = [] }); rest = [] }); rest = None })

abbrev term : Resolved → Resolved
term f = in_term here (record { first = f; rest = [] })

abbrev variable : List ℕ → Resolved
variable x = factor (in_factor here (Factor-F.Access (in_access here (record { ident = x; parts = [] }))))

abbrev number : ℕ → Resolved
number n = factor (in_factor here (Factor-F.Number n))

abbrev place_x : CoreExpr
place_x = leaf (op.Place (place.Variable (record { scope = scope.Program; offset = 0; by_place = false; frame_words = 0 }))) (Some shape.Integer)

abbrev place_p : CoreExpr
place_p = leaf (op.Place (place.Variable (record { scope = scope.Routine 1; offset = 0; by_place = true; frame_words = 1 }))) (Some shape.Integer)

abbrev constant : ℕ → CoreExpr
constant n = leaf (op.Word (word.Constant (pos n))) (Some shape.Integer)

-- x
program_variable : (variable (codes "x")).node ≡ node (Ordinal host.Integer) (operation (op.Word word.Load) None (place_x ∷ []))
program_variable = refl

-- p: a variable parameter of the routine outside
outer_parameter : (variable (codes "p")).node ≡ node (Ordinal host.Integer) (operation (op.Word word.Load) None (place_p ∷ []))
outer_parameter = refl

-- top
named_constant : (variable (codes "top")).node ≡ node (Ordinal host.Integer) (constant 9)
named_constant = refl

-- x + 1
sum_of_two :
    (in_sum here (record { prefix = prefix.Without; first = term (in_factor here (Factor-F.Access (in_access here (record { ident = codes "x"; parts = [] })))); rest = in_adding here (record { op = add.Plus; right = term (in_factor here (Factor-F.Number 1)) }) ∷ [] })).node
    ≡ node (Ordinal host.Integer) (operation (op.Word word.Add) None (operation (op.Word word.Load) None (place_x ∷ []) ∷ (constant 1 ∷ [])))
sum_of_two = refl

-- v[3]: the bounds of the index, and the words of a component
component :
    (in_access here (record { ident = codes "v"; parts = in_part here (AccessPart-F.Index (number 3 ∷ [])) ∷ [] })).place
    ≡ node (Ordinal host.Integer)
    (operation (op.Place (place.Index (pos 1) (pos 10) 1)) (Some (shape.Written 1))
    (leaf (op.Place (place.Variable (record { scope = scope.Program; offset = 1; by_place = false; frame_words = 0 }))) (Some (shape.Written 1)) ∷ (constant 3 ∷ [])))
component = refl

-- [1, 3..5]
set_of_three :
    (in_factor here (Factor-F.Members (in_member here (record { first = number 1; last = None }) ∷ (in_member here (record { first = number 3; last = Some (number 5) }) ∷ [])))).node
    ≡ node (CanonicalSet host.Integer Either)
    (operation (op.Set set.IncludeRange) None (operation (op.Set set.Include) None (leaf (op.Set set.Empty) None ∷ (constant 1 ∷ [])) ∷ (constant 3 ∷ (constant 5 ∷ []))))
set_of_three = refl

-- succ(x): the next integer
next_integer :
    (in_factor here (Factor-F.Call (codes "succ") (in_arg here (record { value = variable (codes "x"); width = None }) ∷ []))).node
    ≡ node (Ordinal host.Integer) (operation (op.Word (word.Succ (negsuc 32766) (pos 32767))) None (operation (op.Word word.Load) None (place_x ∷ []) ∷ []))
next_integer = refl

-- eof
end_of_input : (variable (codes "eof")).node ≡ node (Ordinal host.Boolean) (leaf (op.Word word.Eof) None)
end_of_input = refl

-- outer(x): the variable itself is passed, and the routine is the program's
call_by_place :
    (in_factor here (Factor-F.Call (codes "outer") (in_arg here (record { value = variable (codes "x"); width = None }) ∷ []))).node
    ≡ node (Ordinal host.Integer) (operation (op.Call (record { routine = outer; scope = scope.Program; function = false })) None (operation op.ActualVariable None (place_x ∷ []) ∷ []))
call_by_place = refl
