-- Types as they are written (ISO 7185:1990, 6.4.1 to 6.4.4): a rule for each form, whose parts stand as their judgements.
-- Reading a type threads the table of types and the region of the block, in which enumeration constants are declared.
use Rattle.std.specs.Prelude.{ℕ, ◌+◌, ◌*◌, min, ℤ, pos, int_le, Bool, true, false, ◌&&◌, not, nat_le, nat_eq, if◌then◌else◌, List, [], ◌∷◌, ◌++◌, length, map, Option, Some, None, is_some, bytes_eq}
use Rattle.dice_base.specs.declared.name.Name.{Name}
use Rattle.pascal_tree.specs.declared.stmt.Constant.{Constant as WrittenConstant}
use Rattle.pascal_tree.specs.declared.typing.TypeText.{TypeText-F}
use Rattle.pascal_tree.specs.declared.typing.FieldText.{FieldText-F}
use Rattle.check_rules.specs.declared.typing.Host.{Host}
use Rattle.check_rules.specs.declared.typing.Host.TheVariants as host
use Rattle.check_rules.specs.declared.typing.Typing.{Typing}
use Rattle.check_rules.specs.declared.typing.Typing.TheVariants.{Ordinal, Written, Unknown}
use Rattle.check_rules.specs.declared.typing.Domain.{Domain}
use Rattle.check_rules.specs.declared.typing.Domain.TheVariants as domain
use Rattle.check_rules.specs.declared.typing.Structure.{Structure}
use Rattle.check_rules.specs.declared.typing.Structure.TheVariants as made
use Rattle.check_rules.specs.declared.typing.FieldType.{FieldType}
use Rattle.check_rules.specs.declared.entity.Constant.TheVariants.{Number}
use Rattle.check_rules.specs.declared.entity.Entity.{Entity}
use Rattle.check_rules.specs.declared.entity.Entity.TheVariants.{ConstantOf, TypeOf, FieldOf}
use Rattle.check_rules.specs.declared.entity.Region.{Region}
use Rattle.check_rules.specs.Typing.{Table, Text, host_of, are_compatible_ordinals, bounds_of, values_between, words_of}
use Rattle.check_rules.specs.declared.kinds.TheConstants.{MAX_TYPE_WORDS, CLEAN, MAX_COUNTED, TOO_LARGE, UNKNOWN, WRONG_CLASS, WRONG_CONSTANT, WRONG_TYPE}
use Rattle.check_rules.specs.Faults.{kind_unless}
use Rattle.check_rules.specs.Regions.{Texts, Regions, has_ident, entity_in, entity_of, new_region, declare}
use Rattle.check_rules.specs.declared.entity.JudgedConstant.{JudgedConstant}
use Rattle.check_types.specs.declared.state.TypeState.{TypeState}
use Rattle.check_types.specs.declared.state.RecordWalk.{RecordWalk}
use Rattle.check_types.specs.Constants.{constant_of, number_in}

-- ---- identifiers of the enumerations that a type writes: they are declared in the block's region (6.4.2.3)

abbrev pub all_idents : List Texts → Texts
all_idents [] = []
all_idents (xs ∷ rest) = xs ++ all_idents rest

abbrev pub constants_in : TypeText-F Texts Texts → Texts
constants_in (TypeText-F.Enumeration xs) = xs
constants_in (TypeText-F.Array packed shapes component) = all_idents shapes ++ component
constants_in (TypeText-F.SetOf packed base) = base
constants_in (TypeText-F.RecordOf packed fs) = all_idents fs
constants_in _ = []

abbrev pub constants_in_field : FieldText-F Texts Texts → Texts
constants_in_field f = f.shape

-- ---- judging

-- a state has the types written so far, and the region of the block
pub record TypeJudgement : Type 0 where
  pub state : TypeState
  pub typing : Typing
  pub kind : ℕ

-- the regions around a type: those outside the block, that of the block, and those of the records that are being written
abbrev pub scope : Regions → TypeState → Regions → Regions
scope outer s around = outer ++ s.block ∷ around

abbrev pub judgement : TypeState → Typing → ℕ → TypeJudgement
judgement s t kind = record { state = s; typing = t; kind = kind }

abbrev pub faulty_type : TypeState → ℕ → TypeJudgement
faulty_type s kind = judgement s Unknown kind

-- one more type of the table
abbrev pub state_with : TypeState → Structure → ℕ → TypeState
state_with s made words = record s { table = s.table ++ record { structure = made; words = words } ∷ [] }

-- a type that is written: its number in the table
abbrev pub written_type : TypeState → Structure → ℕ → ℕ → TypeJudgement
written_type s made words kind = judgement (state_with s made words) (Written (length s.table)) (min kind (kind_unless (nat_le words MAX_TYPE_WORDS) TOO_LARGE))

-- an identifier (6.4.1)
abbrev pub type_of_entity : Option Entity → Typing × ℕ
type_of_entity (Some (TypeOf t d)) = (t, CLEAN)
type_of_entity (Some _) = (Unknown, WRONG_CLASS)
type_of_entity None = (Unknown, UNKNOWN)

abbrev pub type_of_ident : Regions → Text → Typing × ℕ
type_of_ident rs x = type_of_entity (entity_of rs x)

abbrev pub type_with : TypeState → Typing × ℕ → TypeJudgement
type_with s (t, kind) = judgement s t kind

-- an enumeration (6.4.2.3): its identifiers are constants from 0 on
abbrev pub region_with_constants : Typing → ℕ → Texts → Region × ℕ → Region × ℕ
region_with_constants t n [] (r, kind) = (r, kind)
region_with_constants t n (x ∷ xs) (r, kind) = (let one = declare r x (ConstantOf (Number (pos n)) t) in region_with_constants t (min MAX_COUNTED (n + 1)) xs (one.0, min kind one.1))

abbrev pub enumeration : TypeState → Texts → TypeJudgement
enumeration s xs =
    let t : Typing = Ordinal (host.Enumeration (length s.table)) in
    let r = region_with_constants t 0 xs (s.block, CLEAN) in
    judgement (record (state_with s (made.Enumeration xs) 1) { block = r.0 }) t r.1

-- a subrange (6.4.2.4): two compatible ordinal constants, the first not above the last
abbrev pub subrange_of_host : TypeState → Option Host → ℤ → ℤ → ℕ → TypeJudgement
subrange_of_host s None lo hi kind = faulty_type s (min kind WRONG_TYPE)
subrange_of_host s (Some h) lo hi kind = if int_le lo hi then written_type s (made.Subrange h lo hi) 1 kind else faulty_type s (min kind WRONG_CONSTANT)

abbrev pub common_host : Table → Typing → Typing → Option Host
common_host tys a b = if are_compatible_ordinals tys a b then host_of tys a else None

abbrev pub subrange_of_types : TypeState → JudgedConstant → JudgedConstant → Typing → Typing → TypeJudgement
subrange_of_types s a b Unknown t = faulty_type s (min a.kind b.kind)
subrange_of_types s a b t Unknown = faulty_type s (min a.kind b.kind)
subrange_of_types s a b t u = subrange_of_host s (common_host s.table t u) (number_in a.value) (number_in b.value) (min a.kind b.kind)

abbrev pub subrange : TypeState → Regions → WrittenConstant → WrittenConstant → TypeJudgement
subrange s rs first last =
    let a = constant_of s.table rs first in
    let b = constant_of s.table rs last in
    subrange_of_types s a b a.typing b.typing

-- a pointer (6.4.4): its domain may be declared later in the same type part
abbrev pub named_in : List (Text × Name) → Text → Option Name
named_in [] x = None
named_in ((y, n) ∷ ys) x = if bytes_eq y x then Some n else named_in ys x

abbrev pub domain_named : Entity → Option Domain × ℕ
domain_named (TypeOf t (Some n)) = (Some (domain.Declared n), CLEAN)
domain_named (TypeOf (Ordinal h) None) = (Some (domain.Predeclared h), CLEAN)
domain_named _ = (None, WRONG_CLASS)

abbrev pub domain_or_outer : Option Entity → Option Name → Bool → Bool → Option Domain × ℕ → Option Domain × ℕ
domain_or_outer (Some e) type constant later outer = domain_named e
domain_or_outer None (Some n) constant later outer = (Some (domain.Declared n), CLEAN)
domain_or_outer None None true later outer = (None, WRONG_CLASS)
domain_or_outer None None false true outer = (None, UNKNOWN)
domain_or_outer None None false false outer = outer

abbrev pub domain_through : Region → Text → Option Domain × ℕ → Option Domain × ℕ
domain_through r x outer = domain_or_outer (entity_in r.declared x) (named_in r.types x) (has_ident r.constants x) (has_ident r.later x) outer

abbrev pub domain_within : Option Domain × ℕ → Regions → Text → Option Domain × ℕ
domain_within outer [] x = outer
domain_within outer (r ∷ rs) x = domain_within (domain_through r x outer) rs x

abbrev pub domain_for : Regions → Text → Option Domain × ℕ
domain_for rs x = domain_within (None, UNKNOWN) rs x

abbrev pub pointer_type : TypeState → Option Domain × ℕ → TypeJudgement
pointer_type s (None, kind) = faulty_type s kind
pointer_type s (Some d, kind) = written_type s (made.Pointer d) 1 kind

-- an ordinal type, as an index or a base
abbrev pub ordinal_of_type : TypeJudgement → Typing → TypeJudgement
ordinal_of_type j Unknown = j
ordinal_of_type j t = if is_some (host_of j.state.table t) then j else faulty_type j.state (min j.kind WRONG_TYPE)

abbrev pub ordinal_type : TypeJudgement → TypeJudgement
ordinal_type j = ordinal_of_type j j.typing

-- a set (6.4.3.4) of values from 0 to 127
abbrev pub is_set_range : ℤ × ℤ → Bool
is_set_range (lo, hi) = int_le (pos 0) lo && int_le hi (pos 127)

abbrev pub set_of_type : Bool → TypeJudgement → Typing → TypeJudgement
set_of_type packed j Unknown = j
set_of_type packed j t = written_type j.state (made.SetOf packed t) 8 (min j.kind (kind_unless (is_set_range (bounds_of j.state.table t)) WRONG_CONSTANT))

abbrev pub set_type : Bool → TypeJudgement → TypeJudgement
set_type packed j = set_of_type packed j j.typing

-- an array (6.4.3.2): one for each index, the last one innermost
pub record Indexes : Type 0 where
  pub state : TypeState
  pub types : List Typing
  pub kind : ℕ

abbrev pub indexes_of : TypeState → List Typing → ℕ → Indexes
indexes_of s ts kind = record { state = s; types = ts; kind = kind }

abbrev pub with_index : Indexes → TypeJudgement → Indexes
with_index is j = record { state = j.state; types = is.types ++ j.typing ∷ []; kind = min is.kind j.kind }

abbrev pub indexes_from : Regions → Indexes → List (Regions → TypeState → TypeJudgement) → Indexes
indexes_from around is [] = is
indexes_from around is (f ∷ fs) = indexes_from around (with_index is (ordinal_type (f around is.state))) fs

abbrev pub array_words : Table → Typing → Typing → ℕ
array_words tys index component = min MAX_COUNTED (values_between (bounds_of tys index) * words_of tys component)

abbrev pub array_of_types : Bool → Typing → TypeJudgement → Typing → TypeJudgement
array_of_types packed Unknown j c = faulty_type j.state j.kind
array_of_types packed i j Unknown = faulty_type j.state j.kind
array_of_types packed i j c = written_type j.state (made.ArrayOf packed i c) (array_words j.state.table i c) j.kind

abbrev pub arrays_of : Bool → List Typing → TypeJudgement → TypeJudgement
arrays_of packed [] j = j
arrays_of packed (i ∷ is) j = let inner = arrays_of packed is j in array_of_types packed i inner inner.typing

abbrev pub array_of_indexes : Bool → Indexes → TypeJudgement → TypeJudgement
array_of_indexes packed is component = arrays_of packed is.types (record component { kind = min is.kind component.kind })

-- a record (6.4.3.3): its fields are a region of their own around its text
pub record Fields : Type 0 where
  pub state : TypeState
  pub walk : RecordWalk

abbrev pub fields_of : TypeState → RecordWalk → Fields
fields_of s w = record { state = s; walk = w }

pub record FieldJudge : Type 0 where
  pub idents : Texts
  pub shape : Regions → TypeState → TypeJudgement

abbrev pub field_entity : Typing → ℕ → Bool → Entity
field_entity t offset packed = FieldOf (record { typing = t; offset = offset; hold = 0; packed = packed })

abbrev pub walk_with_field : Bool → Typing → Text → Table → RecordWalk → Region × ℕ → RecordWalk
walk_with_field packed t x tys w (own, kind) = record {
  own = own;
  parts = w.parts ++ record { ident = x; typing = t; offset = w.words } ∷ [];
  words = min MAX_COUNTED (w.words + words_of tys t);
  known = w.known;
  kind = min w.kind kind;
}

abbrev pub walk_with_fields : Bool → Typing → Table → Texts → RecordWalk → RecordWalk
walk_with_fields packed t tys [] w = w
walk_with_fields packed t tys (x ∷ xs) w = walk_with_fields packed t tys xs (walk_with_field packed t x tys w (declare w.own x (field_entity t w.words packed)))

abbrev pub is_known : Typing → Bool
is_known Unknown = false
is_known _ = true

abbrev pub fields_after : Bool → Texts → RecordWalk → TypeJudgement → Fields
fields_after packed xs w j =
    fields_of j.state (walk_with_fields packed j.typing j.state.table xs (record w { known = w.known && is_known j.typing; kind = min w.kind j.kind }))

abbrev pub fields_with : Regions → Bool → Fields → FieldJudge → Fields
fields_with around packed r f = fields_after packed f.idents r.walk (f.shape (around ++ r.walk.own ∷ []) r.state)

abbrev pub fields_from : Regions → Bool → Fields → List FieldJudge → Fields
fields_from around packed r [] = r
fields_from around packed r (f ∷ fs) = fields_from around packed (fields_with around packed r f) fs

abbrev pub idents_of : List FieldJudge → Texts
idents_of [] = []
idents_of (f ∷ fs) = f.idents ++ idents_of fs

abbrev pub record_of : Bool → Fields → TypeJudgement
record_of packed r = if r.walk.known then written_type r.state (made.RecordOf packed r.walk.parts) r.walk.words r.walk.kind else faulty_type r.state r.walk.kind

abbrev pub new_record : Texts → RecordWalk
new_record xs = record { own = new_region xs; parts = []; words = 0; known = true; kind = CLEAN }

abbrev pub record_type : Regions → Bool → List FieldJudge → TypeState → TypeJudgement
record_type around packed fs s = record_of packed (fields_from around packed (fields_of s (new_record (idents_of fs))) fs)

-- ---- one layer of a type, whose parts stand there as their judgements

abbrev pub TypeJudge : Type 0
TypeJudge = Regions → TypeState → TypeJudgement

abbrev pub array_of : Bool → List TypeJudge → TypeJudge → TypeJudge
array_of packed shapes component around s = (let is = indexes_from around (indexes_of s [] CLEAN) shapes in array_of_indexes packed is (component around is.state))

module _ (outer : Regions) where
  abbrev pub in_type : TypeText-F TypeJudge FieldJudge → TypeJudge
  in_type (TypeText-F.Named x) around s = type_with s (type_of_ident (scope outer s around) x)
  in_type (TypeText-F.Enumeration xs) around s = enumeration s xs
  in_type (TypeText-F.Range first last) around s = subrange s (scope outer s around) first last
  in_type (TypeText-F.Pointer x) around s = pointer_type s (domain_for (scope outer s around) x)
  in_type (TypeText-F.Array packed shapes component) around s = array_of packed shapes component around s
  in_type (TypeText-F.SetOf packed base) around s = set_type packed (ordinal_type (base around s))
  in_type (TypeText-F.RecordOf packed fs) around s = record_type around packed fs s

  abbrev pub in_field : FieldText-F TypeJudge FieldJudge → FieldJudge
  in_field f = record { idents = f.idents; shape = f.shape }

-- a whole type: the enumeration constants that it declares, and its judgement where these regions are outside the block
pub record TypeReading : Type 0 where
  pub constants : Texts
  pub judge : Regions → TypeJudge
