-- Constants (ISO 7185:1990, 6.3).
use Rattle.std.specs.Prelude.{ℕ, min, ℤ, pos, negsuc, neg_ℤ, int_le, Bool, not, nat_le, if◌then◌else◌, List, [], ◌∷◌, length, Option, Some, None}
use Rattle.pascal_tree.specs.declared.expr.Prefix.{Prefix}
use Rattle.pascal_tree.specs.declared.expr.Prefix.TheVariants as prefix
use Rattle.pascal_tree.specs.declared.stmt.Constant.{Constant as Written}
use Rattle.pascal_tree.specs.declared.stmt.Constant.TheVariants as written
use Rattle.check_rules.specs.declared.typing.Host.{Host}
use Rattle.check_rules.specs.declared.typing.Host.TheVariants as host
use Rattle.check_rules.specs.declared.typing.Typing.{Typing}
use Rattle.check_rules.specs.declared.typing.Typing.TheVariants.{Ordinal, Literal, Unknown}
use Rattle.check_rules.specs.declared.entity.Constant.{Constant}
use Rattle.check_rules.specs.declared.entity.Constant.TheVariants.{Number, Chars}
use Rattle.check_rules.specs.declared.entity.Entity.{Entity}
use Rattle.check_rules.specs.declared.entity.JudgedConstant.{JudgedConstant}
use Rattle.check_rules.specs.declared.entity.Entity.TheVariants.{ConstantOf}
use Rattle.check_rules.specs.Typing.{Table, Text, host_of, is_host}
use Rattle.check_rules.specs.Faults.{kind_unless}
use Rattle.check_rules.specs.declared.kinds.TheConstants.{CLEAN, UNKNOWN, WRONG_CLASS, WRONG_TYPE, WRONG_CONSTANT}
use Rattle.check_rules.specs.Strings.{faulty_constant, string_constant}
use Rattle.check_rules.specs.Regions.{Regions, entity_of}

abbrev pub integer_constant : ℤ → JudgedConstant
integer_constant z = record { value = Number z; typing = Ordinal host.Integer; kind = CLEAN }

-- the opposite of each number that a constant can have
abbrev pub opposite : ℤ → ℤ
opposite z = if int_le (negsuc 2147483646) z then neg_ℤ z else z

abbrev pub signed_number : Prefix → ℤ → ℤ
signed_number prefix.Minus z = opposite z
signed_number _ z = z

abbrev pub number_in : Constant → ℤ
number_in (Number z) = z
number_in (Chars x) = pos 0

-- a sign stands before integers alone
abbrev pub signed_constant : Table → Prefix → Constant → Typing → JudgedConstant
signed_constant tys prefix.Without v t = record { value = v; typing = t; kind = CLEAN }
signed_constant tys p v Unknown = faulty_constant CLEAN
signed_constant tys p v t = if is_host (host_of tys t) host.Integer then integer_constant (signed_number p (number_in v)) else faulty_constant WRONG_TYPE

abbrev pub named_constant : Table → Prefix → Option Entity → JudgedConstant
named_constant tys p (Some (ConstantOf v t)) = signed_constant tys p v t
named_constant tys p (Some _) = faulty_constant WRONG_CLASS
named_constant tys p None = faulty_constant UNKNOWN

-- where identifiers stand for these entities
abbrev pub constant_from : Table → (Text → Option Entity) → Written → JudgedConstant
constant_from tys entity (written.Number p n) = integer_constant (signed_number p (pos n))
constant_from tys entity (written.Named p x) = named_constant tys p (entity x)
constant_from tys entity (written.Str x) = string_constant x

abbrev pub constant_of : Table → Regions → Written → JudgedConstant
constant_of tys rs c = constant_from tys (entity_of rs) c
