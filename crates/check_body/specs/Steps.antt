-- The rules of statements in the steps in which the code takes them.
use Rattle.std.specs.Prelude.{ℕ, ◌+◌, min, Bool, true, ◌&&◌, not, if◌then◌else◌, List, [], ◌∷◌, ◌++◌, Option, Some, None, is_some, take, option_to_list, nat_le}
use Rattle.pascal_tree.specs.declared.stmt.Constant.{Constant as WrittenConstant}
use Rattle.pascal_tree.specs.declared.stmt.Arm.{Arm, out-Arm}
use Rattle.pascal_tree.specs.declared.stmt.Stmt.{Stmt, out-Stmt}
use Rattle.check_rules.specs.declared.typing.Typing.{Typing}
use Rattle.dice_base.specs.declared.name.Name.{Name}
use Rattle.check_rules.specs.declared.entity.RoutineEntity.{RoutineEntity}
use Rattle.check_rules.specs.declared.entity.Variable.{Variable}
use Rattle.check_rules.specs.declared.entity.Entity.{Entity}
use Rattle.check_rules.specs.declared.entity.Entity.TheVariants.{RoutineOf}
use Rattle.check_rules.specs.Typing.{Table, Text}
use Rattle.check_rules.specs.Faults.{kind_unless}
use Rattle.check_rules.specs.declared.kinds.TheConstants.{CLEAN, WRONG_TYPE, WRONG_CONSTANT, WRONG_LABEL}
use Rattle.check_rules.specs.declared.entity.JudgedConstant.{JudgedConstant}
use Rattle.check_types.specs.Constants.{number_in}
use Rattle.expression_rules.specs.declared.notes.Notes.{Notes}
use Rattle.expression_rules.specs.declared.notes.Judged.{Judged}
use Rattle.expression_rules.specs.declared.notes.Env.{Env}
use Rattle.expression_rules.specs.Values.{no_notes, notes_with, Reached, Argument, VariableName}
use Rattle.expression_rules.specs.Accesses.{all_notes, entity_at}
use Rattle.body_labels.specs.Labels.{Numbers, has_number}
use Rattle.check_body.specs.StatementRules as rules
use Rattle.check_body.specs.StatementRules.{is_open, place_target, read_one, variable_in, variable_only, read_all, write_all, needs_some, constant_fits, has_integer, is_own, has_variable, control_of, for_notes}
use Rattle.check_body.specs.declared.cases.Seen.{Seen}

-- ---- labels

abbrev pub known_label : Numbers → ℕ → ℕ
known_label labels n = kind_unless (nat_le n 9999 && has_number labels n) WRONG_LABEL

abbrev pub own_labels : List Stmt → Numbers
own_labels [] = []
own_labels (s ∷ ss) = option_to_list (out-Stmt s).label ++ own_labels ss

-- ---- assignments

-- the type of the function's result, where an identifier alone is assigned in the block of the function for which it stands
abbrev pub open_result : List Name → RoutineEntity → Option Typing
open_result functions f = if f.function && is_open functions f.name then Some f.result else None

abbrev pub result_typing : Env → Option Entity → Bool → Option Typing
result_typing env (Some (RoutineOf f)) true = open_result env.functions f
result_typing env e whole = None

abbrev pub target_or_place : Option Typing → Reached → Typing × Notes
target_or_place (Some t) r = (t, no_notes)
target_or_place None r = place_target r

abbrev pub target_of : Env → Reached → Typing × Notes
target_of env r = rules.target_of env r r.entity r.whole

-- ---- arguments of `read`

abbrev pub read_argument : Table → Argument → Notes
read_argument tys a = read_one tys a (variable_in a.value a.value.access)

abbrev pub has_width : Argument → Bool
has_width a = is_some a.width

-- ---- whole calls

abbrev pub no_procedure : List Argument → ℕ → Notes
no_procedure args kind = notes_with (all_notes args) kind

abbrev pub read_notes : Table → List Argument → Notes
read_notes tys args = notes_with (read_all tys args) (needs_some args)

abbrev pub write_notes : Table → List Argument → Notes
write_notes tys args = notes_with (write_all tys args) (needs_some args)

-- ---- arguments of `new` and `dispose`

abbrev pub new_variable : Argument → Typing × Notes
new_variable a = variable_only a.value a.value.access

abbrev pub disposed_value : Argument → Typing × Notes
disposed_value a = (a.value.judged.typing, a.value.judged.notes)

-- ---- arms of a `case`

abbrev pub nothing_seen : Seen
nothing_seen = record { numbers = []; kind = CLEAN }

-- one more constant of a known type
abbrev pub with_number : Table → Typing → Seen → JudgedConstant → Seen
with_number tys selector s c = record {
  numbers = s.numbers ++ number_in c.value ∷ [];
  kind = min (min s.kind c.kind) (min (kind_unless (constant_fits tys selector c.typing) WRONG_TYPE) (kind_unless (not (has_integer s.numbers (number_in c.value))) WRONG_CONSTANT));
}

abbrev pub written_constants : Arm → List WrittenConstant
written_constants a = (out-Arm a).constants

-- ---- `for`

abbrev pub is_unchanged : Env → Text → List VariableName → Variable → Bool
is_unchanged env x inside v = is_own env.owner v && not (has_variable env.changed (v.owner.0, x)) && not (has_variable inside (v.owner.0, x))

abbrev pub for_kind : Env → Text → List VariableName → Judged → Judged → ℕ
for_kind env x inside first last = (for_notes env (control_of env x inside (entity_at env x)) first last).kind

-- ---- records that are opened and closed

abbrev pub env_opening : Env → Typing → Env
env_opening env t = record env {
  opened = env.opened ++ record { typing = t; hold = env.holds + 1 } ∷ [];
  holds = env.holds + 1;
}

abbrev pub env_closed : Env → ℕ → ℕ → Env
env_closed env count holds = record env { opened = take count env.opened; holds = holds }

abbrev pub env_holding : Env → ℕ → Env
env_holding env holds = record env { holds = holds }
