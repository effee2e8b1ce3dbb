-- The rules of `expression_rules` in the steps in which the code takes them.
use Rattle.std.specs.Prelude.{ℕ, min, Bool, true, false, ◌&&◌, ◌||◌, not, if◌then◌else◌, List, [], ◌∷◌, Option, Some, None}
use Rattle.check_rules.specs.declared.kinds.TheConstants.{CLEAN, WRONG_TYPE, WRONG_ARGUMENTS}
use Rattle.check_rules.specs.declared.typing.Typing.{Typing}
use Rattle.check_rules.specs.declared.typing.Typing.TheVariants.{EmptySet}
use Rattle.check_rules.specs.declared.entity.Entity.{Entity}
use Rattle.check_rules.specs.declared.entity.Entity.TheVariants.{ConstantOf, RoutineOf, StandardOf}
use Rattle.check_rules.specs.declared.entity.Parameter.{Parameter}
use Rattle.check_rules.specs.declared.entity.Standard.{Standard}
use Rattle.check_rules.specs.declared.entity.StandardFile.{StandardFile}
use Rattle.check_rules.specs.declared.entity.StandardFile.TheVariants as file
use Rattle.check_rules.specs.Typing.{Table, is_assignable}
use Rattle.check_rules.specs.Faults.{kind_unless}
use Rattle.pascal_tree.specs.declared.expr.Access.{Access, out-Access}
use Rattle.expression_rules.specs.declared.notes.Env.{Env}
use Rattle.expression_rules.specs.declared.notes.Judged.{Judged}
use Rattle.expression_rules.specs.declared.notes.Notes.{Notes}
use Rattle.expression_rules.specs.declared.notes.Place.{Place}
use Rattle.expression_rules.specs.Values.{Members, Reached, Argument, no_notes, notes_of_both, notes_with, judgement, members_with, members_with_last, set_of_base}
use Rattle.expression_rules.specs.Accesses.{entity_at, first_place, lost_place, is_nil, is_variable, is_function, is_wanted, file_of_entity, arguments_notes, standard_value, place_value, same_or_unknown, change_of, width_notes, refused_width, argument_notes, argument_notes_for, is_file}
use Rattle.expression_rules.specs.ExpressionRules.{Member}
use Rattle.check_expr.specs.declared.sets.Collected.{Collected}

-- ---- set brackets

abbrev pub members : Collected → Members
members c = record { base = c.base; notes = c.notes }

abbrev pub with_member : Table → Members → Member → Members
with_member tys m (a, b) = members_with_last tys (members_with tys m a) b

abbrev pub set_of_members : Bool → Members → Judged
set_of_members empty m = judgement (if empty then EmptySet else set_of_base m.base) m.notes

-- ---- an identifier alone

-- a constant, or a function without arguments
abbrev pub value_alone : Table → Option Entity → Option Judged
value_alone tys (Some (ConstantOf v t)) = Some (judgement t no_notes)
value_alone tys (Some (RoutineOf r)) = if r.function then Some (judgement r.result (arguments_notes tys r.parameters [])) else None
value_alone tys (Some (StandardOf f)) = if is_function f then Some (standard_value tys f []) else None
value_alone tys _ = None

abbrev pub value_or_place : Option Judged → Place → Judged
value_or_place (Some v) p = v
value_or_place None p = place_value p

abbrev pub alone : Table → Option Entity → Judged
alone tys e = value_or_place (value_alone tys e) (first_place e)

-- ---- functions

abbrev pub kind_of_one : Table → Standard → Typing → Bool → ℕ
kind_of_one tys f t only = min (kind_unless (is_wanted tys f t) WRONG_TYPE) (kind_unless only WRONG_ARGUMENTS)

-- ---- arguments

abbrev pub file_at : Env → Option Access → Option StandardFile
file_at env None = None
file_at env (Some a) = file_of_entity (entity_at env (out-Access a).ident) (is_nil (out-Access a).parts)

-- what may be passed by its place: a variable, and what is not known
abbrev pub may_be_variable : Option Entity → Bool
may_be_variable None = true
may_be_variable (Some e) = is_variable (Some e)

abbrev pub place_or_lost : Option Reached → Place
place_or_lost None = lost_place no_notes CLEAN
place_or_lost (Some r) = r.place

-- the notes of what is passed by its place
abbrev pub known_notes : Parameter → Reached → Option Entity → Notes
known_notes p r e = notes_of_both r.place.notes (record { kind = kind_unless (same_or_unknown p.typing r.place.typing && not r.place.packed) WRONG_ARGUMENTS; passed = change_of e r.ident r.whole })

abbrev pub passed_notes : Parameter → Reached → Option Entity → Notes
passed_notes p r None = r.place.notes
passed_notes p r (Some e) = known_notes p r (Some e)

abbrev pub value_notes : Table → Parameter → Judged → Notes
value_notes tys p v = notes_with v.notes (kind_unless (is_assignable tys p.typing v.typing) WRONG_TYPE)

-- an argument with any width, and one that may have none
abbrev pub whole_notes : Argument → Notes
whole_notes a = notes_of_both a.value.judged.notes (width_notes a.width)

abbrev pub plain_notes : Argument → Notes
plain_notes a = notes_of_both a.value.judged.notes (refused_width a.width)

-- an argument for the first of the parameters that are left, or for none of them
abbrev pub notes_for : Table → Bool → List Parameter → Argument → Notes
notes_for tys true ps a = whole_notes a
notes_for tys false [] a = notes_of_both (refused_width a.width) a.value.judged.notes
notes_for tys false (p ∷ ps) a = argument_notes_for tys p a

abbrev pub behind : List Parameter → List Parameter
behind [] = []
behind (p ∷ ps) = ps

-- arguments with the parameters that are left, where others were too many already or not
abbrev pub matched : Table → Bool → List Parameter → List Argument → Notes
matched tys over ps [] = no_notes
matched tys over ps (a ∷ args) = notes_of_both (notes_for tys over ps a) (matched tys (over || is_nil ps) (behind ps) args)

-- arguments that may have no widths, where these are the notes of the value of the first
abbrev pub notes_from : Notes → List Argument → Notes
notes_from n [] = n
notes_from n (a ∷ args) = notes_of_both (notes_of_both n (refused_width a.width)) (argument_notes args)

-- `eof` and `eoln` of an argument
abbrev pub input_argument : Argument → Notes
input_argument a = if is_file file.Input a then refused_width a.width else notes_with (plain_notes a) WRONG_TYPE
