-- What is known of an expression when it is judged, and the rules of operators (ISO 7185:1990, 6.7.1 and 6.7.2).
use Rattle.std.specs.Prelude.{ℕ, min, Bool, true, false, ◌&&◌, ◌||◌, not, if◌then◌else◌, List, [], ◌∷◌, ◌++◌, Option, Some, None, is_some, bytes_eq, nat_eq}
use Rattle.dice_base.specs.declared.name.Name.{Name}
use Rattle.pascal_tree.specs.declared.expr.Prefix.{Prefix}
use Rattle.pascal_tree.specs.declared.expr.Prefix.TheVariants as prefix
use Rattle.pascal_tree.specs.declared.expr.AddOp.{AddOp}
use Rattle.pascal_tree.specs.declared.expr.AddOp.TheVariants as add
use Rattle.pascal_tree.specs.declared.expr.MulOp.{MulOp}
use Rattle.pascal_tree.specs.declared.expr.MulOp.TheVariants as mul
use Rattle.pascal_tree.specs.declared.expr.RelOp.{RelOp}
use Rattle.pascal_tree.specs.declared.expr.RelOp.TheVariants as rel
use Rattle.check_rules.specs.declared.typing.Host.{Host}
use Rattle.check_rules.specs.declared.typing.Host.TheVariants as host
use Rattle.check_rules.specs.declared.typing.Typing.{Typing}
use Rattle.check_rules.specs.declared.typing.Typing.TheVariants.{Ordinal, CanonicalSet, EmptySet, Unknown}
use Rattle.check_rules.specs.declared.typing.Packing.TheVariants.{Either}
use Rattle.check_rules.specs.declared.entity.Entity.{Entity}
use Rattle.expression_rules.specs.declared.notes.Notes.{Notes}
use Rattle.expression_rules.specs.declared.notes.Judged.{Judged}
use Rattle.expression_rules.specs.declared.notes.Place.{Place}
use Rattle.check_rules.specs.Typing.{Table, Text, Set, host_of, is_host, set_of, are_compatible_bases, are_compatible_sets, set_type, are_compatible_ordinals, are_same_lengths, string_length, are_comparable_pointers, is_same_host}
use Rattle.check_rules.specs.Faults.{kind_unless}
use Rattle.check_rules.specs.declared.kinds.TheConstants.{CLEAN, WRONG_TYPE}
use Rattle.check_rules.specs.Regions.{Regions}

-- a variable by its owner and its identifier
abbrev pub VariableName : Type 0
VariableName = ℕ × Text

abbrev pub no_notes : Notes
no_notes = record { kind = CLEAN; passed = [] }

abbrev pub notes_of : ℕ → Notes
notes_of kind = record { kind = kind; passed = [] }

abbrev pub notes_of_both : Notes → Notes → Notes
notes_of_both m n = record { kind = min m.kind n.kind; passed = m.passed ++ n.passed }

abbrev pub notes_with : Notes → ℕ → Notes
notes_with n kind = record n { kind = min n.kind kind }

-- an access: what its identifier stands for, the place, and whether the identifier stands alone
pub record Reached : Type 0 where
  pub ident : Text
  pub entity : Option Entity
  pub place : Place
  pub whole : Bool

-- an expression; where it is an access and nothing more, also that access
pub record Value : Type 0 where
  pub judged : Judged
  pub access : Option Reached

pub record Argument : Type 0 where
  pub value : Value
  pub width : Option Value

abbrev pub judgement : Typing → Notes → Judged
judgement t n = record { typing = t; notes = n }

abbrev pub value_of_judgement : Judged → Value
value_of_judgement j = record { judged = j; access = None }

abbrev pub integer_type : Typing
integer_type = Ordinal host.Integer

abbrev pub boolean_type : Typing
boolean_type = Ordinal host.Boolean

-- ---- tests that an unknown type passes

abbrev pub may_be_host : Table → Host → Typing → Bool
may_be_host tys h Unknown = true
may_be_host tys h t = is_host (host_of tys t) h

abbrev pub may_be_ordinal : Table → Typing → Bool
may_be_ordinal tys Unknown = true
may_be_ordinal tys t = is_some (host_of tys t)

abbrev pub may_be_compatible : Table → Typing → Typing → Bool
may_be_compatible tys Unknown b = true
may_be_compatible tys a Unknown = true
may_be_compatible tys a b = are_compatible_ordinals tys a b

-- ---- operators: the type of the result, and the kind of fault

abbrev pub type_on_hosts : Table → Host → Typing → Typing → Typing × ℕ
type_on_hosts tys h a b = (Ordinal h, kind_unless (may_be_host tys h a && may_be_host tys h b) WRONG_TYPE)

abbrev pub unknown_or_integer : Typing → Typing → Typing
unknown_or_integer Unknown b = Unknown
unknown_or_integer a Unknown = Unknown
unknown_or_integer a b = integer_type

abbrev pub type_on_integers : Table → Typing → Typing → Typing × ℕ
type_on_integers tys a b = (unknown_or_integer a b, kind_unless (may_be_host tys host.Integer a && may_be_host tys host.Integer b) WRONG_TYPE)

abbrev pub type_on_sets : Set → Set → Typing × ℕ
type_on_sets a b = if are_compatible_bases a b then (set_type a b, CLEAN) else (Unknown, WRONG_TYPE)

abbrev pub type_beside_set : Typing → Typing × ℕ
type_beside_set Unknown = (Unknown, CLEAN)
type_beside_set _ = (Unknown, WRONG_TYPE)

abbrev pub arithmetic_of_sets : Table → Typing → Typing → Option Set → Option Set → Typing × ℕ
arithmetic_of_sets tys a b None None = type_on_integers tys a b
arithmetic_of_sets tys a b (Some x) (Some y) = type_on_sets x y
arithmetic_of_sets tys a b (Some x) None = type_beside_set b
arithmetic_of_sets tys a b None (Some y) = type_beside_set a

-- `+`, `-` and `*`: of integers, or of compatible sets (6.7.2.2, 6.7.2.4)
abbrev pub arithmetic_type : Table → Typing → Typing → Typing × ℕ
arithmetic_type tys a b = arithmetic_of_sets tys a b (set_of tys a) (set_of tys b)

abbrev pub sum_type : Table → AddOp → Typing → Typing → Typing × ℕ
sum_type tys add.Or a b = type_on_hosts tys host.Boolean a b
sum_type tys _ a b = arithmetic_type tys a b

abbrev pub product_type : Table → MulOp → Typing → Typing → Typing × ℕ
product_type tys mul.Times a b = arithmetic_type tys a b
product_type tys mul.And a b = type_on_hosts tys host.Boolean a b
product_type tys _ a b = type_on_hosts tys host.Integer a b

-- a sign stands before integers (6.7.2.2)
abbrev pub signed_judgement : Table → Prefix → Judged → Judged
signed_judgement tys prefix.Without v = v
signed_judgement tys _ v = judgement integer_type (notes_with v.notes (kind_unless (may_be_host tys host.Integer v.typing) WRONG_TYPE))

-- ---- relations (6.7.2.5)

abbrev pub are_ordinals : Table → Typing → Typing → Bool
are_ordinals = are_compatible_ordinals

abbrev pub are_strings : Table → Typing → Typing → Bool
are_strings tys a b = are_same_lengths (string_length tys a) (string_length tys b)

abbrev pub are_sets : Table → Typing → Typing → Bool
are_sets tys a b = are_compatible_sets (set_of tys a) (set_of tys b)

abbrev pub is_base : Option Host → Option Host → Bool
is_base (Some g) None = true
is_base (Some g) (Some h) = is_same_host g h
is_base None h = false

abbrev pub is_member : Option Host → Option Set → Bool
is_member h None = false
is_member h (Some (base, p)) = is_base h base

abbrev pub is_relation : Table → RelOp → Typing → Typing → Bool
is_relation tys rel.Equal a b = are_ordinals tys a b || are_strings tys a b || are_sets tys a b || are_comparable_pointers tys a b
is_relation tys rel.NotEqual a b = are_ordinals tys a b || are_strings tys a b || are_sets tys a b || are_comparable_pointers tys a b
is_relation tys rel.Less a b = are_ordinals tys a b || are_strings tys a b
is_relation tys rel.Greater a b = are_ordinals tys a b || are_strings tys a b
is_relation tys rel.LessEqual a b = are_ordinals tys a b || are_strings tys a b || are_sets tys a b
is_relation tys rel.GreaterEqual a b = are_ordinals tys a b || are_strings tys a b || are_sets tys a b
is_relation tys rel.Member a b = is_member (host_of tys a) (set_of tys b)

abbrev pub may_be_relation : Table → RelOp → Typing → Typing → Bool
may_be_relation tys op Unknown b = true
may_be_relation tys op a Unknown = true
may_be_relation tys op a b = is_relation tys op a b

abbrev pub relation_judgement : Table → RelOp → Judged → Judged → Judged
relation_judgement tys op a b = judgement boolean_type (notes_with (notes_of_both a.notes b.notes) (kind_unless (may_be_relation tys op a.typing b.typing) WRONG_TYPE))

-- ---- members of set brackets (6.7.1): ordinals of one host

pub record Members : Type 0 where
  pub base : Option Host
  pub notes : Notes

abbrev pub member_kind : Option Host → Option Host → ℕ
member_kind base None = WRONG_TYPE
member_kind None (Some h) = CLEAN
member_kind (Some g) (Some h) = kind_unless (is_same_host g h) WRONG_TYPE

abbrev pub base_with : Option Host → Option Host → Option Host
base_with (Some g) h = Some g
base_with None h = h

abbrev pub members_with_type : Table → Members → Judged → Typing → Members
members_with_type tys m v Unknown = record m { notes = notes_of_both m.notes v.notes }
members_with_type tys m v t = record {
  base = base_with m.base (host_of tys t);
  notes = notes_with (notes_of_both m.notes v.notes) (member_kind m.base (host_of tys t));
}

abbrev pub members_with : Table → Members → Judged → Members
members_with tys m v = members_with_type tys m v v.typing

abbrev pub members_with_last : Table → Members → Option Judged → Members
members_with_last tys m None = m
members_with_last tys m (Some v) = members_with tys m v

abbrev pub members_from : Table → Members → List (Judged × Option Judged) → Members
members_from tys m [] = m
members_from tys m ((a, b) ∷ rest) = members_from tys (members_with_last tys (members_with tys m a) b) rest

abbrev pub set_of_base : Option Host → Typing
set_of_base None = Unknown
set_of_base (Some h) = CanonicalSet h Either

abbrev pub set_judgement : Table → List (Judged × Option Judged) → Judged
set_judgement tys [] = judgement EmptySet no_notes
set_judgement tys (m ∷ ms) = (let r = members_from tys (record { base = None; notes = no_notes }) (m ∷ ms) in judgement (set_of_base r.base) r.notes)
