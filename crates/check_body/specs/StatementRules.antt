-- Statements (ISO 7185:1990, 6.8) and procedures (6.6.5, 6.9): what each says by its own text, where the statements in it
-- stand as their judgements.
use Rattle.std.specs.Prelude.{ℕ, ◌+◌, min, ℤ, pos, int_le, Bool, true, false, ◌&&◌, ◌||◌, not, if◌then◌else◌, List, [], ◌∷◌, ◌++◌, length, map, Option, Some, None, is_some, option_to_list, bytes_eq, nat_eq, nat_le}
use Rattle.dice_base.specs.declared.name.Name.{Name}
use Rattle.pascal_tree.specs.declared.stmt.Constant.{Constant as WrittenConstant}
use Rattle.check_rules.specs.declared.typing.Host.{Host}
use Rattle.check_rules.specs.declared.typing.Host.TheVariants as host
use Rattle.check_rules.specs.declared.typing.Typing.{Typing}
use Rattle.check_rules.specs.declared.typing.Typing.TheVariants.{Ordinal, Unknown}
use Rattle.check_rules.specs.declared.typing.Structure.{Structure}
use Rattle.check_rules.specs.declared.typing.Structure.TheVariants as made
use Rattle.check_rules.specs.declared.typing.FieldType.{FieldType}
use Rattle.check_rules.specs.declared.entity.Variable.{Variable}
use Rattle.check_rules.specs.declared.entity.RoutineEntity.{RoutineEntity}
use Rattle.check_rules.specs.declared.entity.Standard.{Standard}
use Rattle.check_rules.specs.declared.entity.Standard.TheVariants as standard
use Rattle.check_rules.specs.declared.entity.StandardFile.{StandardFile}
use Rattle.check_rules.specs.declared.entity.StandardFile.TheVariants as file
use Rattle.check_rules.specs.declared.entity.Region.{Region}
use Rattle.check_rules.specs.declared.entity.Entity.{Entity}
use Rattle.check_rules.specs.declared.entity.Entity.TheVariants.{VariableOf, FieldOf, FileOf, RoutineOf, StandardOf}
use Rattle.check_rules.specs.Typing.{Table, Text, host_of, are_compatible_ordinals, structure_at, domain_of, string_length, is_assignable}
use Rattle.check_rules.specs.Faults.{kind_unless, fault_at}
use Rattle.check_rules.specs.declared.kinds.TheConstants.{CLEAN, UNKNOWN, WRONG_CLASS, WRONG_TYPE, WRONG_ARGUMENTS, WRONG_CONSTANT, WRONG_LABEL, WRONG_CONTROL}
use Rattle.body_labels.specs.Labels.{Numbers, has_number}
use Rattle.check_rules.specs.declared.entity.JudgedConstant.{JudgedConstant}
use Rattle.check_types.specs.Constants.{constant_from, number_in}
use Rattle.expression_rules.specs.declared.notes.Notes.{Notes}
use Rattle.expression_rules.specs.declared.notes.Judged.{Judged}
use Rattle.expression_rules.specs.declared.notes.Env.{Env}
use Rattle.expression_rules.specs.Values.{no_notes, notes_of, notes_of_both, notes_with, Reached, Value, Argument, integer_type, may_be_host, may_be_ordinal, may_be_compatible, VariableName}
use Rattle.expression_rules.specs.Accesses.{is_nil, entity_at, change_of, all_notes, argument_notes, refused_width, width_notes, arguments_notes, is_file}
use Rattle.check_rules.specs.declared.fault.CheckFault.{CheckFault}
use Rattle.check_body.specs.declared.cases.Seen.{Seen}
use Rattle.check_body.specs.declared.kinds.StatementKind.{StatementKind}

-- ---- conditions are Boolean (6.8.3.4, 6.8.3.7, 6.8.3.8)

abbrev pub condition_notes : Env → Judged → Notes
condition_notes env v = (notes_with v.notes (kind_unless (may_be_host env.table host.Boolean v.typing) WRONG_TYPE))

-- ---- assignment (6.8.2.2): to a variable, or in a function's block to its identifier

abbrev pub is_open : List Name → Name → Bool
is_open [] n = false
is_open (m ∷ ms) n = nat_eq m.0 n.0 || is_open ms n

abbrev pub notes_with_change : Notes → Option Entity → Text → Bool → Notes
notes_with_change n e x whole = record n { passed = n.passed ++ change_of e x whole }

abbrev pub place_target : Reached → Typing × Notes
place_target r = (r.place.typing, notes_with_change r.place.notes r.entity r.ident r.whole)

abbrev pub target_of : Env → Reached → Option Entity → Bool → Typing × Notes
target_of env r (Some (RoutineOf f)) true = if f.function && is_open env.functions f.name then (f.result, no_notes) else place_target r
target_of env r e whole = place_target r

abbrev pub assigned_notes : Env → Typing × Notes → Judged → Notes
assigned_notes env (t, n) v = notes_with (notes_of_both n v.notes) (kind_unless (is_assignable env.table t v.typing) WRONG_TYPE)

abbrev pub assignment_notes : Env → Reached → Judged → Notes
assignment_notes env r v = assigned_notes env (target_of env r r.entity r.whole) v

-- ---- `read` and `readln` (6.9.1, 6.9.2): integers, chars and subranges of them

abbrev pub is_readable : Option Host → Bool
is_readable (Some host.Integer) = true
is_readable (Some host.Char) = true
is_readable _ = false

abbrev pub may_read : Table → Typing → Bool
may_read tys Unknown = true
may_read tys t = is_readable (host_of tys t)

-- the variable that an argument must be
abbrev pub variable_in : Value → Option Reached → Typing × Notes
variable_in v None = (Unknown, notes_with v.judged.notes WRONG_TYPE)
variable_in v (Some r) = place_target r

abbrev pub read_one : Table → Argument → Typing × Notes → Notes
read_one tys a (t, n) = notes_with (notes_of_both n (refused_width a.width)) (kind_unless (may_read tys t) WRONG_TYPE)

abbrev pub read_all : Table → List Argument → Notes
read_all tys [] = no_notes
read_all tys (a ∷ args) = notes_of_both (read_one tys a (variable_in a.value a.value.access)) (read_all tys args)

-- ---- `write` and `writeln` (6.9.3, 6.9.4): integers, chars, Booleans and strings

abbrev pub write_kind : Option ℕ → Option Host → ℕ
write_kind (Some n) h = kind_unless (nat_le n 255) WRONG_CONSTANT
write_kind None None = WRONG_TYPE
write_kind None (Some (host.Enumeration k)) = WRONG_TYPE
write_kind None (Some h) = CLEAN

abbrev pub may_write : Table → Typing → ℕ
may_write tys Unknown = CLEAN
may_write tys t = write_kind (string_length tys t) (host_of tys t)

abbrev pub width_kind : Table → Option Value → ℕ
width_kind tys None = CLEAN
width_kind tys (Some w) = kind_unless (may_be_host tys host.Integer w.judged.typing) WRONG_TYPE

abbrev pub write_one : Table → Argument → Notes
write_one tys a = notes_with (notes_of_both a.value.judged.notes (width_notes a.width)) (min (may_write tys a.value.judged.typing) (width_kind tys a.width))

abbrev pub write_all : Table → List Argument → Notes
write_all tys [] = no_notes
write_all tys (a ∷ args) = notes_of_both (write_one tys a) (write_all tys args)

-- the arguments behind a first one that is the file
abbrev pub is_bare_file : StandardFile → Argument → Bool
is_bare_file b a = not (is_some a.width) && is_file b a

abbrev pub behind_file : StandardFile → List Argument → List Argument
behind_file b [] = []
behind_file b (a ∷ args) = if is_bare_file b a then args else a ∷ args

-- all but a line end alone need something to read or to write
abbrev pub needs_some : List Argument → ℕ
needs_some args = kind_unless (not (is_nil args)) WRONG_ARGUMENTS

-- ---- `new` and `dispose` (6.6.5.3)

abbrev pub is_pointer : Table → Typing → Bool
is_pointer tys Unknown = true
is_pointer tys t = is_some (domain_of tys t)

abbrev pub on_heap : Table → Typing × Notes → Argument → List Argument → Notes
on_heap tys (t, n) a args =
    notes_with (notes_of_both (notes_of_both n (refused_width a.width)) (argument_notes args)) (min (kind_unless (is_pointer tys t) WRONG_TYPE) (kind_unless (is_nil args) WRONG_ARGUMENTS))

abbrev pub variable_only : Value → Option Reached → Typing × Notes
variable_only v None = (Unknown, notes_with v.judged.notes WRONG_TYPE)
variable_only v (Some r) = (r.place.typing, r.place.notes)

abbrev pub new_notes : Table → List Argument → Notes
new_notes tys [] = notes_of WRONG_ARGUMENTS
new_notes tys (a ∷ args) = on_heap tys (variable_only a.value a.value.access) a args

abbrev pub dispose_notes : Table → List Argument → Notes
dispose_notes tys [] = notes_of WRONG_ARGUMENTS
dispose_notes tys (a ∷ args) = on_heap tys (a.value.judged.typing, a.value.judged.notes) a args

-- ---- procedure statements (6.8.2.3)

abbrev pub standard_call : Table → Standard → List Argument → Notes
standard_call tys standard.Read args = (let rest = behind_file file.Input args in notes_with (read_all tys rest) (needs_some rest))
standard_call tys standard.Readln args = read_all tys (behind_file file.Input args)
standard_call tys standard.Write args = (let rest = behind_file file.Output args in notes_with (write_all tys rest) (needs_some rest))
standard_call tys standard.Writeln args = write_all tys (behind_file file.Output args)
standard_call tys standard.New args = new_notes tys args
standard_call tys standard.Dispose args = dispose_notes tys args
standard_call tys f args = notes_with (all_notes args) WRONG_CLASS

abbrev pub procedure_call : Table → Option Entity → List Argument → Notes
procedure_call tys None args = notes_with (all_notes args) UNKNOWN
procedure_call tys (Some (RoutineOf r)) args = if r.function then notes_with (all_notes args) WRONG_CLASS else arguments_notes tys r.parameters args
procedure_call tys (Some (StandardOf f)) args = standard_call tys f args
procedure_call tys (Some _) args = notes_with (all_notes args) WRONG_CLASS

abbrev pub call_notes : Env → Text → List Argument → Notes
call_notes env x args = procedure_call env.table (entity_at env x) args

-- ---- `case` (6.8.3.5): constants compatible with the selector, each once

abbrev pub same_number : ℤ → ℤ → Bool
same_number a b = int_le a b && int_le b a

abbrev pub has_integer : List ℤ → ℤ → Bool
has_integer [] z = false
has_integer (y ∷ ys) z = same_number y z || has_integer ys z

abbrev pub constant_fits : Table → Typing → Typing → Bool
constant_fits tys selector t = may_be_ordinal tys t && may_be_compatible tys selector t

abbrev pub with_constant : Table → Typing → Seen → JudgedConstant → Typing → Seen
with_constant tys selector s c Unknown = record s { kind = min s.kind c.kind }
with_constant tys selector s c t = record {
  numbers = s.numbers ++ number_in c.value ∷ [];
  kind = min (min s.kind c.kind) (min (kind_unless (constant_fits tys selector t) WRONG_TYPE) (kind_unless (not (has_integer s.numbers (number_in c.value))) WRONG_CONSTANT));
}

abbrev pub constants_from : Env → Typing → Seen → List WrittenConstant → Seen
constants_from env selector s [] = s
constants_from env selector s (c ∷ cs) =
    let j = constant_from env.table (entity_at env) c in
    constants_from env selector (with_constant env.table selector s j j.typing) cs

abbrev pub arms_from : Env → Typing → Seen → List (List WrittenConstant) → Seen
arms_from env selector s [] = s
arms_from env selector s (cs ∷ rest) = arms_from env selector (constants_from env selector s cs) rest

abbrev pub ordinal_or_unknown : Table → Typing → Typing
ordinal_or_unknown tys t = if may_be_ordinal tys t then t else Unknown

abbrev pub case_notes : Env → Judged → List (List WrittenConstant) → Notes
case_notes env v arms =
    notes_with v.notes
    (min (kind_unless (may_be_ordinal env.table v.typing) WRONG_TYPE)
    (arms_from env (ordinal_or_unknown env.table v.typing) (record { numbers = []; kind = CLEAN }) arms).kind)

-- ---- `for` (6.8.3.9): a variable of the block's own variable part, which nothing in the body and no routine changes

abbrev pub same_variable : VariableName → VariableName → Bool
same_variable (m, x) (n, y) = nat_eq m n && bytes_eq x y

abbrev pub has_variable : List VariableName → VariableName → Bool
has_variable [] v = false
has_variable (u ∷ us) v = same_variable u v || has_variable us v

abbrev pub is_own : Name → Variable → Bool
is_own owner v = v.local && nat_eq v.owner.0 owner.0

abbrev pub control_of : Env → Text → List VariableName → Option Entity → Typing × ℕ
control_of env x inside None = (Unknown, UNKNOWN)
control_of env x inside (Some (VariableOf v)) = (
  ordinal_or_unknown env.table v.typing,
  min (kind_unless (may_be_ordinal env.table v.typing) WRONG_TYPE)
      (kind_unless (is_own env.owner v && not (has_variable env.changed (v.owner.0, x)) && not (has_variable inside (v.owner.0, x))) WRONG_CONTROL),
)
control_of env x inside (Some (FileOf b)) = (Unknown, WRONG_TYPE)
control_of env x inside (Some e) = (Unknown, WRONG_CLASS)

abbrev pub bound_notes : Table → Typing → Judged → Notes
bound_notes tys t v = notes_with v.notes (kind_unless (may_be_ordinal tys v.typing && may_be_compatible tys t v.typing) WRONG_TYPE)

abbrev pub for_notes : Env → Typing × ℕ → Judged → Judged → Notes
for_notes env (t, kind) first last =
    notes_with (notes_of_both (bound_notes env.table t first) (bound_notes env.table t last)) kind

-- the same of what it changes alone
abbrev pub for_changes : Env → Text → Judged → Judged → List VariableName
for_changes env x first last =
    change_of (entity_at env x) x true ++ (first.notes.passed ++ last.notes.passed)

-- the body stands in one hold more
abbrev pub env_in_for : Env → Env
env_in_for env = record env { holds = env.holds + 1 }

-- ---- `with` (6.8.3.10): each record takes a hold, and its fields hide what is declared around it

abbrev pub is_record : Option Structure → Bool
is_record (Some (made.RecordOf packed fs)) = true
is_record _ = false

abbrev pub may_be_record : Table → Typing → Bool
may_be_record tys Unknown = true
may_be_record tys t = is_record (structure_at tys t)

abbrev pub env_with : Env → Reached → Env
env_with env r = record env {
  opened = env.opened ++ record { typing = r.place.typing; hold = env.holds + 1 } ∷ [];
  holds = env.holds + 1;
}

-- an access as it is judged in what stands around it
abbrev pub AccessJudge : Type 0
AccessJudge = Env → Reached

abbrev pub ValueJudge : Type 0
ValueJudge = Env → Judged

abbrev pub env_with_all : Env → List AccessJudge → Env
env_with_all env [] = env
env_with_all env (a ∷ others) = env_with_all (env_with env (a env)) others

abbrev pub record_notes : Env → Reached → Notes
record_notes env r =
    notes_with r.place.notes (kind_unless (may_be_record env.table r.place.typing) WRONG_TYPE)

abbrev pub with_notes : Env → List AccessJudge → Notes
with_notes env [] = no_notes
with_notes env (a ∷ others) =
    notes_of_both (record_notes env (a env)) (with_notes (env_with env (a env)) others)

-- ---- whole statements

-- what the judgement of a statement says: its label; what it changes, with all in it; and
-- the kinds of itself and of all in it, in the order of the text, where the goto statements in it may go to these labels
pub record Judge : Type 0 where
  pub label : Option ℕ
  pub changes : Env → List VariableName
  pub kinds : Env → Numbers → List StatementKind

-- the same of a statement without its name and label: what it says by itself, and the kinds in what it contains
pub record KindJudge : Type 0 where
  pub changes : Env → List VariableName
  pub own : Env → Numbers → ℕ
  pub inner : Env → Numbers → List StatementKind

pub record ArmJudge : Type 0 where
  pub constants : List WrittenConstant
  pub body : Judge

abbrev pub all_changes : List Judge → Env → List VariableName
all_changes [] env = []
all_changes (s ∷ ss) env = s.changes env ++ all_changes ss env

abbrev pub all_kinds : List Judge → Env → Numbers → List StatementKind
all_kinds [] env reach = []
all_kinds (s ∷ ss) env reach = s.kinds env reach ++ all_kinds ss env reach

abbrev pub labels_of : List Judge → Numbers
labels_of [] = []
labels_of (s ∷ ss) = option_to_list s.label ++ labels_of ss

-- a statement that says this by itself, and has no statements in it
abbrev pub simple_kind : (Env → Notes) → KindJudge
simple_kind own = record {
  changes = (λ env. (own env).passed);
  own = (λ env reach. (own env).kind);
  inner = (λ env reach. []);
}

-- one that has these in it
abbrev pub structured_kind : (Env → Notes) → List Judge → KindJudge
structured_kind own ss = record {
  changes = (λ env. (own env).passed ++ all_changes ss env);
  own = (λ env reach. (own env).kind);
  inner = all_kinds ss;
}

-- a goto may lead to any statement of a sequence around it (6.8.2.4)
abbrev pub sequence_kind : (Env → Notes) → List Judge → KindJudge
sequence_kind own ss = record (structured_kind own ss) {
  inner = (λ env reach. all_kinds ss env (labels_of ss ++ reach));
}

-- ---- a rule for each form of statement, whose parts stand as their judgements

abbrev pub empty_kind : KindJudge
empty_kind = simple_kind (λ env. no_notes)

abbrev pub assign_kind : AccessJudge → ValueJudge → KindJudge
assign_kind access value = simple_kind (λ env. assignment_notes env (access env) (value env))

abbrev pub call_kind : Text → (Env → List Argument) → KindJudge
call_kind x args = simple_kind (λ env. call_notes env x (args env))

abbrev pub goto_kind : ℕ → KindJudge
goto_kind label = record {
  changes = (λ env. []);
  own = (λ env reach. kind_unless (nat_le label 9999 && has_number reach label) WRONG_LABEL);
  inner = (λ env reach. []);
}

abbrev pub compound_kind : List Judge → KindJudge
compound_kind ss = sequence_kind (λ env. no_notes) ss

abbrev pub if_kind : ValueJudge → Judge → Option Judge → KindJudge
if_kind e s None = structured_kind (λ env. condition_notes env (e env)) (s ∷ [])
if_kind e s (Some t) = structured_kind (λ env. condition_notes env (e env)) (s ∷ t ∷ [])

abbrev pub arm_bodies : List ArmJudge → List Judge
arm_bodies [] = []
arm_bodies (a ∷ arms) = a.body ∷ arm_bodies arms

abbrev pub arm_constants : List ArmJudge → List (List WrittenConstant)
arm_constants [] = []
arm_constants (a ∷ arms) = a.constants ∷ arm_constants arms

abbrev pub case_kind : ValueJudge → List ArmJudge → KindJudge
case_kind e arms = structured_kind (λ env. case_notes env (e env) (arm_constants arms)) (arm_bodies arms)

abbrev pub while_kind : ValueJudge → Judge → KindJudge
while_kind e s = structured_kind (λ env. condition_notes env (e env)) (s ∷ [])

abbrev pub repeat_kind : List Judge → ValueJudge → KindJudge
repeat_kind ss e = sequence_kind (λ env. condition_notes env (e env)) ss

abbrev pub for_kind : Text → ValueJudge → ValueJudge → Judge → KindJudge
for_kind x first last body = record {
  changes = (λ env. for_changes env x (first env) (last env) ++ body.changes (env_in_for env));
  own = (λ env reach. (for_notes env (control_of env x (body.changes (env_in_for env)) (entity_at env x)) (first env) (last env)).kind);
  inner = (λ env reach. body.kinds (env_in_for env) reach);
}

abbrev pub with_kind : List AccessJudge → Judge → KindJudge
with_kind records body = record {
  changes = (λ env. (with_notes env records).passed ++ body.changes (env_with_all env records));
  own = (λ env reach. (with_notes env records).kind);
  inner = (λ env reach. body.kinds (env_with_all env records) reach);
}

-- a label is at most 9999 and declared in the block (6.1.6, 6.2.1, 6.8.1)
abbrev pub label_kind : Numbers → Option ℕ → ℕ
label_kind labels None = CLEAN
label_kind labels (Some n) = kind_unless (nat_le n 9999 && has_number labels n) WRONG_LABEL

-- a statement with its name and label, where the block declares these labels
abbrev pub statement_judge : Numbers → Name → Option ℕ → KindJudge → Judge
statement_judge labels name label k = record {
  label = label;
  changes = k.changes;
  kinds = (λ env reach.
      record {
        name = name;
        kind = min (label_kind labels label) (k.own env (option_to_list label ++ reach));
      } ∷ k.inner env (option_to_list label ++ reach));
}

-- the first that is not clean
abbrev pub fault_or : Option CheckFault → Option CheckFault → Option CheckFault
fault_or (Some e) rest = Some e
fault_or None rest = rest

abbrev pub first_fault : List StatementKind → Option CheckFault
first_fault [] = None
first_fault (s ∷ ss) = fault_or (fault_at s.name s.kind) (first_fault ss)
