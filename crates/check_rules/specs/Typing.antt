-- Types (ISO 7185:1990, 6.4): same and compatible types, values that fit, words.
use Rattle.std.specs.Prelude.{◌≡◌, ℕ, zero, suc, ◌+◌, ◌*◌, min, ℤ, pos, negsuc, ◌+ℤ◌, ◌-ℤ◌, nat_abs, int_le, int_lt, Bool, true, false, ◌&&◌, ◌||◌, not, nat_eq, nat_le, nat_lt, if◌then◌else◌, List, [], ◌∷◌, ◌++◌, length, Option, Some, None, is_some, slice_get, bytes_eq}
use Rattle.dice_base.specs.declared.name.Name.{Name}
use Rattle.check_rules.specs.declared.kinds.TheConstants.{MAX_COUNTED}
use Rattle.check_rules.specs.declared.typing.Host.{Host}
use Rattle.check_rules.specs.declared.typing.Host.TheVariants as host
use Rattle.check_rules.specs.declared.typing.Packing.{Packing}
use Rattle.check_rules.specs.declared.typing.Packing.TheVariants.{Either, Unpacked, Packed}
use Rattle.check_rules.specs.declared.typing.Typing.{Typing}
use Rattle.check_rules.specs.declared.typing.Typing.TheVariants.{Ordinal, Written, CanonicalSet, EmptySet, Literal, Nil, File, Unknown}
use Rattle.check_rules.specs.declared.typing.Domain.{Domain}
use Rattle.check_rules.specs.declared.typing.Domain.TheVariants.{Declared, Predeclared}
use Rattle.check_rules.specs.declared.typing.Structure.{Structure}
use Rattle.check_rules.specs.declared.typing.Structure.TheVariants as made
use Rattle.check_rules.specs.declared.typing.WrittenType.{WrittenType}
use Rattle.check_rules.specs.declared.typing.FieldType.{FieldType}

abbrev pub Table : Type 0
Table = List WrittenType

abbrev pub Text : Type 0
Text = List ℕ

-- what stands in the table for a type that was written
abbrev pub structure_of : Option WrittenType → Option Structure
structure_of None = None
structure_of (Some w) = Some w.structure

abbrev pub structure_at : Table → Typing → Option Structure
structure_at tys (Written k) = structure_of (slice_get tys k)
structure_at tys _ = None

-- ---- ordinal types (6.4.2)

abbrev pub is_same_host : Host → Host → Bool
is_same_host host.Integer host.Integer = true
is_same_host host.Boolean host.Boolean = true
is_same_host host.Char host.Char = true
is_same_host (host.Enumeration j) (host.Enumeration k) = nat_eq j k
is_same_host _ _ = false

abbrev pub host_in : Option Structure → Option Host
host_in (Some (made.Subrange h lo hi)) = Some h
host_in _ = None

-- the host of an ordinal type; none where the type is not ordinal
abbrev pub host_of : Table → Typing → Option Host
host_of tys (Ordinal h) = Some h
host_of tys t = host_in (structure_at tys t)

abbrev pub is_host : Option Host → Host → Bool
is_host None h = false
is_host (Some g) h = is_same_host g h

abbrev pub enumeration_count : Option Structure → ℕ
enumeration_count (Some (made.Enumeration xs)) = min MAX_COUNTED (length xs)
enumeration_count _ = 0

-- the least and the greatest value of a host: maxint is 32767, a char is 0 to 127
abbrev pub host_bounds : Table → Host → ℤ × ℤ
host_bounds tys host.Integer = (negsuc 32766, pos 32767)
host_bounds tys host.Boolean = (pos 0, pos 1)
host_bounds tys host.Char = (pos 0, pos 127)
host_bounds tys (host.Enumeration k) = (pos 0, pos (enumeration_count (structure_of (slice_get tys k))) -ℤ pos 1)

abbrev pub written_bounds : Option Structure → ℤ × ℤ
written_bounds (Some (made.Subrange h lo hi)) = (lo, hi)
written_bounds _ = (pos 0, pos 0)

abbrev pub bounds_of : Table → Typing → ℤ × ℤ
bounds_of tys (Ordinal h) = host_bounds tys h
bounds_of tys t = written_bounds (structure_at tys t)

-- how many values lie from the one to the other
abbrev pub values_between : ℤ × ℤ → ℕ
values_between b = nat_abs (b.1 -ℤ b.0) + 1

-- ---- same types (6.4.1: an identifier stands for its type)

abbrev pub is_same_packing : Packing → Packing → Bool
is_same_packing Either Either = true
is_same_packing Unpacked Unpacked = true
is_same_packing Packed Packed = true
is_same_packing _ _ = false

abbrev pub is_same_type : Typing → Typing → Bool
is_same_type (Ordinal g) (Ordinal h) = is_same_host g h
is_same_type (Written j) (Written k) = nat_eq j k
is_same_type Nil Nil = true
is_same_type EmptySet EmptySet = true
is_same_type _ _ = false

-- ---- string types (6.4.3.2): packed arrays of char with index 1..n, n > 1

abbrev pub string_index : Option Structure → Option ℕ
string_index (Some (made.Subrange host.Integer (pos first) (pos n))) = if nat_eq first 1 && nat_lt 1 n then Some n else None
string_index _ = None

abbrev pub string_length_in : Table → Option Structure → Option ℕ
string_length_in tys (Some (made.ArrayOf true index (Ordinal host.Char))) = string_index (structure_at tys index)
string_length_in tys _ = None

-- the length of a string type
abbrev pub string_length : Table → Typing → Option ℕ
string_length tys (Literal n) = Some n
string_length tys t = string_length_in tys (structure_at tys t)

-- ---- sets (6.4.3.4)

-- a set: the host of its base, none for `[]`, and its packing
abbrev pub Set : Type 0
Set = Option Host × Packing

abbrev pub packing_of : Bool → Packing
packing_of packed = if packed then Packed else Unpacked

abbrev pub set_in : Table → Option Structure → Option Set
set_in tys (Some (made.SetOf packed base)) = Some (host_of tys base, packing_of packed)
set_in tys _ = None

abbrev pub set_of : Table → Typing → Option Set
set_of tys (CanonicalSet h p) = Some (Some h, p)
set_of tys EmptySet = Some (None, Either)
set_of tys t = set_in tys (structure_at tys t)

abbrev pub are_compatible_packings : Packing → Packing → Bool
are_compatible_packings Either q = true
are_compatible_packings p Either = true
are_compatible_packings p q = is_same_packing p q

abbrev pub are_compatible_bases : Set → Set → Bool
are_compatible_bases (None, p) b = true
are_compatible_bases (Some g, p) (None, q) = true
are_compatible_bases (Some g, p) (Some h, q) = is_same_host g h && are_compatible_packings p q

-- the type of `+`, `-` and `*` of two sets
abbrev pub packing_of_both : Packing → Packing → Packing
packing_of_both Either q = q
packing_of_both p q = p

abbrev pub set_type : Set → Set → Typing
set_type (None, p) (None, q) = EmptySet
set_type (None, p) (Some h, q) = CanonicalSet h q
set_type (Some g, p) (None, q) = CanonicalSet g p
set_type (Some g, p) (Some h, q) = CanonicalSet g (packing_of_both p q)

-- ---- compatible types (6.4.5)

abbrev pub are_same_hosts : Option Host → Option Host → Bool
are_same_hosts (Some g) (Some h) = is_same_host g h
are_same_hosts _ _ = false

abbrev pub are_compatible_sets : Option Set → Option Set → Bool
are_compatible_sets (Some a) (Some b) = are_compatible_bases a b
are_compatible_sets _ _ = false

abbrev pub are_same_lengths : Option ℕ → Option ℕ → Bool
are_same_lengths (Some m) (Some n) = nat_eq m n
are_same_lengths _ _ = false

abbrev pub are_compatible_ordinals : Table → Typing → Typing → Bool
are_compatible_ordinals tys a b = are_same_hosts (host_of tys a) (host_of tys b)

abbrev pub are_compatible : Table → Typing → Typing → Bool
are_compatible tys a b = is_same_type a b || are_compatible_ordinals tys a b || are_compatible_sets (set_of tys a) (set_of tys b) || are_same_lengths (string_length tys a) (string_length tys b)

-- ---- pointers (6.4.4)

abbrev pub domain_in : Option Structure → Option Domain
domain_in (Some (made.Pointer d)) = Some d
domain_in _ = None

abbrev pub domain_of : Table → Typing → Option Domain
domain_of tys t = domain_in (structure_at tys t)

-- ---- a value of type b may be assigned to a variable of type a (6.4.6); an unknown type fits all

abbrev pub is_assignable : Table → Typing → Typing → Bool
is_assignable tys Unknown b = true
is_assignable tys a Unknown = true
is_assignable tys a Nil = is_some (domain_of tys a)
is_assignable tys a b = are_compatible tys a b

-- ---- comparisons (6.7.2.5)

abbrev pub are_comparable_pointers : Table → Typing → Typing → Bool
are_comparable_pointers tys Nil Nil = true
are_comparable_pointers tys Nil b = is_some (domain_of tys b)
are_comparable_pointers tys a Nil = is_some (domain_of tys a)
are_comparable_pointers tys a b = is_some (domain_of tys a) && is_same_type a b

-- ---- words of a value: a scalar takes one, a set eight, arrays and records the sum of their parts

abbrev pub entry_words : Option WrittenType → ℕ
entry_words None = 1
entry_words (Some w) = w.words

abbrev pub words_of : Table → Typing → ℕ
words_of tys (Written k) = entry_words (slice_get tys k)
words_of tys (CanonicalSet h p) = 8
words_of tys EmptySet = 8
words_of tys (Literal n) = n
words_of tys _ = 1
