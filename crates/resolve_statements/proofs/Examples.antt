-- Statements of a function's block, resolved by the rules:
--
--   type pair = record a : integer; b : char end; link = ^pair;
--   var x : integer; r : pair; p : link;
--   function f(c : char) : integer;
--   begin .. { level 1: the statements stand here, in a `for` } end;
use Rattle.std.proofs.Common.{ℕ, ◌≡◌, pos, negsuc, true, false, [], ◌∷◌, Some, None, refl, codes}
use Rattle.dice_base.specs.declared.name.Name.{Name}
use Rattle.pascal_tree.specs.declared.expr.Prefix.TheVariants as prefix
use Rattle.pascal_tree.specs.declared.stmt.Constant.TheVariants as written
use Rattle.check_rules.specs.declared.typing.Host.TheVariants as host
use Rattle.check_rules.specs.declared.typing.Domain.TheVariants as domain
use Rattle.check_rules.specs.declared.typing.Typing.TheVariants.{Ordinal, Written}
use Rattle.check_rules.specs.declared.typing.Structure.TheVariants as made
use Rattle.check_rules.specs.declared.entity.RoutineEntity.{RoutineEntity}
use Rattle.check_rules.specs.declared.entity.Variable.{Variable}
use Rattle.check_rules.specs.declared.entity.Entity.TheVariants.{VariableOf, RoutineOf}
use Rattle.core_tree.specs.declared.op.Scope.TheVariants as scope
use Rattle.core_tree.specs.declared.op.Storage.TheVariants as storage
use Rattle.core_tree.specs.declared.op.PlaceOp.TheVariants as place
use Rattle.core_tree.specs.declared.op.EffectOp.TheVariants as effect
use Rattle.core_tree.specs.declared.op.Written.TheVariants as kind
use Rattle.core_tree.specs.declared.op.WordOp.TheVariants as word
use Rattle.core_tree.specs.declared.op.Op.TheVariants as op
use Rattle.core_tree.specs.declared.op.CoreExpr.{CoreExpr}
use Rattle.core_tree.specs.declared.form.StatementOp.TheVariants as stmt
use Rattle.core_tree.specs.declared.shape.Shape.TheVariants as shape
use Rattle.resolve_expr.specs.declared.context.Context.{Context}
use Rattle.resolve_expr.specs.Kept.{operation}
use Rattle.resolve_expr.specs.Nodes.{Argument, node, leaf, resolved, variable_node, loaded, number_node, accessed}
use Rattle.resolve_statements.specs.declared.calls.Transfer.TheVariants.{Reading, Writing}
use Rattle.resolve_statements.specs.Forms.{form, target_node, assign_form, transfer_form, dispose_form, case_labels, for_form, with_form}

abbrev program : Name
program = record { 0 = 1 }

abbrev function : RoutineEntity
function = record {
  name = record { 0 = 7 };
  function = true;
  level = 1;
  parameters = record { ident = codes "c"; by_place = false; typing = Ordinal host.Char } ∷ [];
  result = Ordinal host.Integer;
  forward = false;
}

abbrev x : Variable
x = record { owner = program; typing = Ordinal host.Integer; offset = 0; by_place = false; local = true }

abbrev r : Variable
r = record { owner = program; typing = Written 0; offset = 1; by_place = false; local = true }

abbrev p : Variable
p = record { owner = program; typing = Written 1; offset = 3; by_place = false; local = true }

abbrev c : Variable
c = record { owner = record { 0 = 7 }; typing = Ordinal host.Char; offset = 1; by_place = false; local = false }

abbrev here : Context
here = record {
  env = record {
    table =
        record {
          structure = made.RecordOf false
              (record { ident = codes "a"; typing = Ordinal host.Integer; offset = 0 }
              ∷ record { ident = codes "b"; typing = Ordinal host.Char; offset = 1 } ∷ []);
          words = 2;
        }
        ∷ record { structure = made.Pointer (domain.Declared (record { 0 = 2 })); words = 1 }
        ∷ [];
    domains = (record { 0 = 2 }, Written 0) ∷ [];
    regions = record {
      declared = record { ident = codes "x"; entity = VariableOf x } ∷ [];
      later = [];
      types = [];
      constants = [];
    } ∷ [];
    opened = [];
    holds = 1;
    owner = record { 0 = 7 };
    functions = record { 0 = 7 } ∷ [];
    changed = [];
  };
  level = 1;
  owners = record { owner = program; level = 0; words = 4 } ∷ record { owner = record { 0 = 7 }; level = 1; words = 2 } ∷ [];
}

abbrev place_x : CoreExpr
place_x = leaf (op.Place (place.Variable (record { scope = scope.Program; offset = 0; by_place = false; frame_words = 0 }))) (Some shape.Integer)

abbrev place_r : CoreExpr
place_r = leaf (op.Place (place.Variable (record { scope = scope.Program; offset = 1; by_place = false; frame_words = 0 }))) (Some (shape.Written 0))

abbrev place_c : CoreExpr
place_c = leaf (op.Place (place.Variable (record { scope = scope.Routine 0; offset = 1; by_place = false; frame_words = 2 }))) (Some shape.Char)

abbrev constant : ℕ → CoreExpr
constant n = leaf (op.Word (word.Constant (pos n))) (Some shape.Integer)

abbrev argument : Variable → Argument
argument v = record {
  value = record { node = loaded here.env.table (variable_node here v); access = Some (variable_node here v) };
  width = None;
}

-- x := 5
assignment :
    assign_form here (variable_node here x) (number_node 5)
    ≡ form here (stmt.Assign (storage.Ordinal (negsuc 32766) (pos 32767))) None (place_x ∷ (constant 5 ∷ []))
assignment = refl

-- f := .. in its block: the first of its words
result :
    target_node here (accessed here (codes "f") (Some (RoutineOf function)) [])
    ≡ node (Ordinal host.Integer)
    (leaf (op.Place (place.Variable (record { scope = scope.Routine 0; offset = 0; by_place = false; frame_words = 2 }))) (Some shape.Integer))
result = refl

-- read(c): a character
character : transfer_form here Reading false (argument c ∷ []) ≡ form here (stmt.Read false) None (operation (op.Effect (effect.ReadChar (pos 0) (pos 127))) None (place_c ∷ []) ∷ [])
character = refl

-- writeln(x : 4)
width :
    transfer_form here Writing true (record { value = resolved (loaded here.env.table (variable_node here x)); width = Some (resolved (number_node 4)) } ∷ [])
    ≡ form here (stmt.Write true) None
    (operation (op.Effect (effect.Write kind.Integer true)) None (operation (op.Word word.Load) None (place_x ∷ []) ∷ (constant 4 ∷ [])) ∷ [])
width = refl

-- dispose(p): the pointer's value, and the words of what it points to
disposed :
    dispose_form here (argument p ∷ [])
    ≡ record (form here (stmt.Dispose 2) None
    (operation (op.Word word.Load) None
    (leaf (op.Place (place.Variable (record { scope = scope.Program; offset = 3; by_place = false; frame_words = 0 }))) (Some (shape.Written 1)) ∷ []) ∷ []))
    { shape = Some (shape.Written 0) }
disposed = refl

-- case .. of 1, 2: ..; -3: .. end
numbered_arms :
    case_labels here.env 0
    ((written.Number prefix.Without 1 ∷ (written.Number prefix.Without 2 ∷ [])) ∷ ((written.Number prefix.Minus 3 ∷ []) ∷ []))
    ≡ record { value = pos 1; arm = 0 } ∷ (record { value = pos 2; arm = 0 } ∷ (record { value = negsuc 2; arm = 1 } ∷ []))
numbered_arms = refl

-- for x := 10 downto 1 do ..: the values of the variable's type, not the bounds of the loop
downward :
    for_form here (codes "x") true (number_node 10) (number_node 1)
    ≡ record (form here (stmt.For (record {
      variable = record { scope = scope.Program; offset = 0; by_place = false; frame_words = 0 };
      first = negsuc 32766;
      last = pos 32767;
      down = true;
    })) None (constant 10 ∷ (constant 1 ∷ []))) { shape = Some shape.Integer }
downward = refl

-- with r, r do ..: behind the hold of the `for` around it, each takes one
two_records :
    with_form here ((λ d. variable_node d r) ∷ ((λ d. variable_node d r) ∷ []))
    ≡ form here stmt.With None
    (operation (op.Effect (effect.Hold 2 2)) None (place_r ∷ []) ∷ (operation (op.Effect (effect.Hold 3 2)) None (place_r ∷ []) ∷ []))
two_records = refl
