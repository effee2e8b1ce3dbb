-- Accesses (ISO 7185:1990, 6.5) and calls (6.6.3, 6.6.6, 6.7.3), where the parts stand as their judgements.
use Rattle.std.specs.Prelude.{ℕ, min, Bool, true, false, ◌&&◌, ◌||◌, not, if◌then◌else◌, List, [], ◌∷◌, ◌++◌, length, map, Option, Some, None, is_some, is_none, bytes_eq, nat_eq, nat_le}
use Rattle.dice_base.specs.declared.name.Name.{Name}
use Rattle.check_rules.specs.declared.typing.Host.{Host}
use Rattle.check_rules.specs.declared.typing.Host.TheVariants as host
use Rattle.check_rules.specs.declared.typing.Typing.{Typing}
use Rattle.check_rules.specs.declared.typing.Typing.TheVariants.{Ordinal, Unknown}
use Rattle.check_rules.specs.declared.typing.Domain.{Domain}
use Rattle.check_rules.specs.declared.typing.Domain.TheVariants as domain
use Rattle.check_rules.specs.declared.typing.Structure.{Structure}
use Rattle.check_rules.specs.declared.typing.Structure.TheVariants as made
use Rattle.check_rules.specs.declared.typing.FieldType.{FieldType}
use Rattle.check_rules.specs.declared.entity.Constant.{Constant}
use Rattle.check_rules.specs.declared.entity.Constant.TheVariants.{Chars}
use Rattle.check_rules.specs.declared.entity.Variable.{Variable}
use Rattle.check_rules.specs.declared.entity.Field.{Field}
use Rattle.check_rules.specs.declared.entity.StandardFile.{StandardFile}
use Rattle.check_rules.specs.declared.entity.StandardFile.TheVariants as file
use Rattle.expression_rules.specs.declared.notes.OpenedRecord.{OpenedRecord}
use Rattle.check_rules.specs.declared.entity.Parameter.{Parameter}
use Rattle.check_rules.specs.declared.entity.RoutineEntity.{RoutineEntity}
use Rattle.check_rules.specs.declared.entity.Standard.{Standard}
use Rattle.check_rules.specs.declared.entity.Standard.TheVariants as standard
use Rattle.check_rules.specs.declared.entity.Entity.{Entity}
use Rattle.check_rules.specs.declared.entity.Entity.TheVariants.{ConstantOf, TypeOf, VariableOf, FileOf, FieldOf, RoutineOf, StandardOf}
use Rattle.check_rules.specs.Typing.{Table, Text, host_of, are_compatible_ordinals, structure_at, domain_in, is_same_type, is_assignable}
use Rattle.check_rules.specs.Faults.{kind_unless}
use Rattle.check_rules.specs.declared.kinds.TheConstants.{CLEAN, UNKNOWN, WRONG_CLASS, WRONG_TYPE, WRONG_ARGUMENTS}
use Rattle.check_rules.specs.Regions.{Regions, entity_of}
use Rattle.expression_rules.specs.declared.notes.Notes.{Notes}
use Rattle.expression_rules.specs.declared.notes.Judged.{Judged}
use Rattle.expression_rules.specs.declared.notes.Place.{Place}
use Rattle.expression_rules.specs.declared.notes.Env.{Env}
use Rattle.expression_rules.specs.Values.{no_notes, notes_of, notes_of_both, notes_with, Reached, Value, Argument, judgement, integer_type, boolean_type, may_be_host, may_be_ordinal, may_be_compatible, VariableName}

abbrev pub Domains : Type 0
Domains = List (Name × Typing)

-- ---- what an identifier stands for in a statement: a field that a `with` opened, or what the regions declare

-- a field by its identifier alone (6.8.3.10)
abbrev pub held_field : ℕ → Bool → List FieldType → Text → Option Field
held_field hold packed [] x = None
held_field hold packed (f ∷ fs) x =
    if bytes_eq f.ident x
    then Some (record { typing = f.typing; offset = f.offset; hold = hold; packed = packed })
    else held_field hold packed fs x

abbrev pub field_or_outer_field : Option Field → Option Field → Option Field
field_or_outer_field (Some f) outer = Some f
field_or_outer_field None outer = outer

abbrev pub field_through : ℕ → Option Structure → Text → Option Field → Option Field
field_through hold (Some (made.RecordOf packed fs)) x outer =
    field_or_outer_field (held_field hold packed fs x) outer
field_through hold _ x outer = outer

-- the innermost opened record that has the field is meant
abbrev pub field_within : Table → Option Field → List OpenedRecord → Text → Option Field
field_within tys outer [] x = outer
field_within tys outer (o ∷ os) x =
    field_within tys (field_through o.hold (structure_at tys o.typing) x outer) os x

abbrev pub opened_field : Env → Text → Option Field
opened_field env x = field_within env.table None env.opened x

abbrev pub field_or_entity : Option Field → Option Entity → Option Entity
field_or_entity (Some f) e = Some (FieldOf f)
field_or_entity None e = e

abbrev pub entity_at : Env → Text → Option Entity
entity_at env x = field_or_entity (opened_field env x) (entity_of env.regions x)

-- ---- steps of an access

abbrev pub place : Typing → Bool → Notes → Place
place t packed n = record { typing = t; packed = packed; notes = n }

abbrev pub lost_place : Notes → ℕ → Place
lost_place n kind = place Unknown false (notes_with n kind)

-- a field (6.5.3.3); what is no field of the record is looked for outward
abbrev pub field_in : List FieldType → Text → Option Typing
field_in [] x = None
field_in (f ∷ fs) x = if bytes_eq f.ident x then Some f.typing else field_in fs x

abbrev pub no_field : Option Entity → ℕ
no_field None = UNKNOWN
no_field (Some e) = WRONG_CLASS

abbrev pub field_or_outer : Env → Text → Bool → Notes → Option Typing → Place
field_or_outer env x packed n (Some t) = place t packed n
field_or_outer env x packed n None = lost_place n (no_field (entity_at env x))

abbrev pub field_place : Env → Text → Notes → Option Structure → Place
field_place env x n (Some (made.RecordOf packed fs)) = field_or_outer env x packed n (field_in fs x)
field_place env x n _ = field_or_outer env x false n None

-- an index (6.5.3.2)
abbrev pub component_of_array : Env → Judged → Notes → Option Structure → Place
component_of_array env v n (Some (made.ArrayOf packed i c)) = place c packed (notes_with (notes_of_both n v.notes) (kind_unless (may_be_compatible env.table i v.typing) WRONG_TYPE))
component_of_array env v n _ = lost_place (notes_of_both n v.notes) WRONG_TYPE

abbrev pub component_of_type : Env → Place → Judged → Typing → Place
component_of_type env p v Unknown = lost_place (notes_of_both p.notes v.notes) CLEAN
component_of_type env p v t = component_of_array env v p.notes (structure_at env.table t)

abbrev pub component_place : Env → Place → Judged → Place
component_place env p v = component_of_type env p v p.typing

abbrev pub components_place : Env → Place → List Value → Place
components_place env p [] = p
components_place env p (v ∷ vs) = components_place env (component_place env p v.judged) vs

-- what a pointer points to (6.5.4)
abbrev pub declared_type : Domains → ℕ → Typing
declared_type [] n = Unknown
declared_type ((m, t) ∷ ds) n = if nat_eq m.0 n then t else declared_type ds n

abbrev pub domain_type : Domains → Domain → Typing
domain_type ds (domain.Declared n) = declared_type ds n.0
domain_type ds (domain.Predeclared h) = Ordinal h

abbrev pub domain_or_lost : Env → Notes → Option Domain → Place
domain_or_lost env n None = lost_place n WRONG_TYPE
domain_or_lost env n (Some d) = place (domain_type env.domains d) false n

abbrev pub domain_of_type : Env → Place → Typing → Place
domain_of_type env p Unknown = lost_place p.notes CLEAN
domain_of_type env p t = domain_or_lost env p.notes (domain_in (structure_at env.table t))

abbrev pub domain_place : Env → Place → Place
domain_place env p = domain_of_type env p p.typing

-- ---- a whole access

-- where an access begins: at a variable or a field that `with` opened
abbrev pub first_place : Option Entity → Place
first_place None = lost_place no_notes UNKNOWN
first_place (Some (VariableOf v)) = place v.typing false no_notes
first_place (Some (FieldOf f)) = place f.typing f.packed no_notes
first_place (Some (FileOf b)) = lost_place no_notes WRONG_TYPE
first_place (Some _) = lost_place no_notes WRONG_CLASS

abbrev pub place_after : Place → List (Place → Place) → Place
place_after p [] = p
place_after p (f ∷ fs) = place_after (f p) fs

abbrev pub is_nil : {A : Type 0} → List A → Bool
is_nil [] = true
is_nil (x ∷ xs) = false

abbrev pub access_by : Text → Option Entity → List (Place → Place) → Reached
access_by x e parts = record { ident = x; entity = e; place = place_after (first_place e) parts; whole = is_nil parts }

abbrev pub access_from : Env → Text → List (Place → Place) → Reached
access_from env x parts = access_by x (entity_at env x) parts

-- ---- arguments

abbrev pub width_notes : Option Value → Notes
width_notes None = no_notes
width_notes (Some w) = w.judged.notes

-- a width stands in `write` and `writeln` alone
abbrev pub refused_width : Option Value → Notes
refused_width None = no_notes
refused_width (Some w) = notes_with w.judged.notes WRONG_ARGUMENTS

abbrev pub all_notes : List Argument → Notes
all_notes [] = no_notes
all_notes (a ∷ args) = notes_of_both (notes_of_both a.value.judged.notes (width_notes a.width)) (all_notes args)

abbrev pub is_variable : Option Entity → Bool
is_variable (Some (VariableOf v)) = true
is_variable (Some (FieldOf f)) = true
is_variable _ = false

-- a whole variable is changed where it is assigned, read into or passed by its place
abbrev pub change_of : Option Entity → Text → Bool → List VariableName
change_of (Some (VariableOf v)) x true = (v.owner.0, x) ∷ []
change_of _ x whole = []

abbrev pub same_or_unknown : Typing → Typing → Bool
same_or_unknown Unknown b = true
same_or_unknown a Unknown = true
same_or_unknown a b = is_same_type a b

-- a variable argument: a variable of the same type, and no component of something packed (6.6.3.3)
abbrev pub variable_notes : Parameter → Value → Reached → Option Entity → Notes
variable_notes p v r None = r.place.notes
variable_notes p v r e =
    if is_variable e
    then record {
      kind = min r.place.notes.kind (kind_unless (same_or_unknown p.typing r.place.typing && not r.place.packed) WRONG_ARGUMENTS);
      passed = r.place.notes.passed ++ change_of e r.ident r.whole;
    }
    else notes_with v.judged.notes WRONG_ARGUMENTS

abbrev pub by_place_notes : Parameter → Value → Option Reached → Notes
by_place_notes p v None = notes_with v.judged.notes WRONG_ARGUMENTS
by_place_notes p v (Some r) = variable_notes p v r r.entity

abbrev pub argument_notes_for : Table → Parameter → Argument → Notes
argument_notes_for tys p a =
    notes_of_both (refused_width a.width)
    (if p.by_place then by_place_notes p a.value a.value.access else notes_with a.value.judged.notes (kind_unless (is_assignable tys p.typing a.value.judged.typing) WRONG_TYPE))

-- arguments are matched with the parameters as far as both go (6.6.3.1)
abbrev pub arguments_notes : Table → List Parameter → List Argument → Notes
arguments_notes tys [] [] = no_notes
arguments_notes tys [] (a ∷ args) = notes_with (notes_of_both (notes_of_both (refused_width a.width) a.value.judged.notes) (all_notes args)) WRONG_ARGUMENTS
arguments_notes tys (p ∷ ps) [] = notes_of WRONG_ARGUMENTS
arguments_notes tys (p ∷ ps) (a ∷ args) = notes_of_both (argument_notes_for tys p a) (arguments_notes tys ps args)

-- ---- functions

abbrev pub file_of_entity : Option Entity → Bool → Option StandardFile
file_of_entity (Some (FileOf f)) true = Some f
file_of_entity _ whole = None

abbrev pub file_in : Option Reached → Option StandardFile
file_in None = None
file_in (Some r) = file_of_entity r.entity r.whole

abbrev pub is_same_file : StandardFile → Option StandardFile → Bool
is_same_file file.Input (Some file.Input) = true
is_same_file file.Output (Some file.Output) = true
is_same_file _ _ = false

-- the argument is the predeclared file, and no more
abbrev pub is_file : StandardFile → Argument → Bool
is_file f a = is_same_file f (file_in a.value.access)

abbrev pub argument_notes : List Argument → Notes
argument_notes [] = no_notes
argument_notes (a ∷ args) = notes_of_both (notes_of_both a.value.judged.notes (refused_width a.width)) (argument_notes args)

-- `eof` and `eoln`: nothing, or `input` (6.6.6.5)
abbrev pub input_notes : List Argument → Notes
input_notes [] = no_notes
input_notes (a ∷ args) =
    notes_of_both
    (if is_file file.Input a then refused_width a.width else notes_with (notes_of_both a.value.judged.notes (refused_width a.width)) WRONG_TYPE)
    (notes_with (argument_notes args) (kind_unless (is_nil args) WRONG_ARGUMENTS))

abbrev pub is_integer_function : Standard → Bool
is_integer_function standard.Abs = true
is_integer_function standard.Sqr = true
is_integer_function standard.Odd = true
is_integer_function standard.Chr = true
is_integer_function _ = false

abbrev pub is_wanted : Table → Standard → Typing → Bool
is_wanted tys f t = if is_integer_function f then may_be_host tys host.Integer t else may_be_ordinal tys t

abbrev pub host_or_unknown : Option Host → Typing
host_or_unknown None = Unknown
host_or_unknown (Some h) = Ordinal h

abbrev pub result_of : Table → Standard → Typing → Typing
result_of tys standard.Abs t = integer_type
result_of tys standard.Sqr t = integer_type
result_of tys standard.Ord t = integer_type
result_of tys standard.Odd t = boolean_type
result_of tys standard.Chr t = Ordinal host.Char
result_of tys _ t = host_or_unknown (host_of tys t)

abbrev pub one_argument_value : Table → Standard → List Argument → Judged
one_argument_value tys f [] = judgement Unknown (notes_of WRONG_ARGUMENTS)
one_argument_value tys f (a ∷ args) =
    judgement (result_of tys f a.value.judged.typing)
    (notes_with (argument_notes (a ∷ args)) (min (kind_unless (is_wanted tys f a.value.judged.typing) WRONG_TYPE) (kind_unless (is_nil args) WRONG_ARGUMENTS)))

abbrev pub standard_value : Table → Standard → List Argument → Judged
standard_value tys standard.Eof args = judgement boolean_type (input_notes args)
standard_value tys standard.Eoln args = judgement boolean_type (input_notes args)
standard_value tys f args = one_argument_value tys f args

abbrev pub is_function : Standard → Bool
is_function standard.New = false
is_function standard.Dispose = false
is_function standard.Read = false
is_function standard.Readln = false
is_function standard.Write = false
is_function standard.Writeln = false
is_function _ = true

abbrev pub no_function_value : List Argument → ℕ → Judged
no_function_value args kind = judgement Unknown (notes_with (all_notes args) kind)

-- a function with its arguments
abbrev pub function_value : Env → List Argument → Option Entity → Judged
function_value env args None = no_function_value args UNKNOWN
function_value env args (Some (RoutineOf r)) = if r.function then judgement r.result (arguments_notes env.table r.parameters args) else no_function_value args WRONG_CLASS
function_value env args (Some (StandardOf f)) = if is_function f then standard_value env.table f args else no_function_value args WRONG_CLASS
function_value env args (Some _) = no_function_value args WRONG_CLASS

-- ---- the value of an access: a constant, a function without arguments, or a variable

abbrev pub place_value : Place → Judged
place_value p = judgement p.typing p.notes

abbrev pub function_or_place : Env → Reached → Bool → Judged
function_or_place env r function = if function then function_value env [] r.entity else place_value r.place

abbrev pub entity_value : Env → Reached → Bool → Option Entity → Judged
entity_value env r false e = place_value r.place
entity_value env r true (Some (ConstantOf v t)) = judgement t no_notes
entity_value env r true (Some (RoutineOf f)) = function_or_place env r f.function
entity_value env r true (Some (StandardOf f)) = function_or_place env r (is_function f)
entity_value env r true e = place_value r.place

abbrev pub access_value : Env → Reached → Value
access_value env r = record { judged = entity_value env r r.whole r.entity; access = Some r }
