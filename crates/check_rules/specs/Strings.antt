-- Character strings (ISO 7185:1990, 6.1.7).
use Rattle.std.specs.Prelude.{ℕ, min, pos, nat_le, List, [], ◌∷◌, length}
use Rattle.check_rules.specs.declared.kinds.TheConstants.{CLEAN, MAX_COUNTED, MAX_STRING, WRONG_CONSTANT}
use Rattle.check_rules.specs.declared.typing.Host.TheVariants as host
use Rattle.check_rules.specs.declared.typing.Typing.TheVariants.{Ordinal, Literal, Unknown}
use Rattle.check_rules.specs.declared.entity.Constant.TheVariants.{Number, Chars}
use Rattle.check_rules.specs.declared.entity.JudgedConstant.{JudgedConstant}
use Rattle.check_rules.specs.Typing.{Text}
use Rattle.check_rules.specs.Faults.{kind_unless}

-- no constant: a part with a fault of this kind
abbrev pub faulty_constant : ℕ → JudgedConstant
faulty_constant kind = record { value = Number (pos 0); typing = Unknown; kind = kind }

abbrev pub chars_constant : Text → JudgedConstant
chars_constant x = record {
  value = Chars x;
  typing = Literal (min MAX_COUNTED (length x));
  kind = kind_unless (nat_le (length x) MAX_STRING) WRONG_CONSTANT;
}

-- a string of one character is that character (6.1.7); others are at most 255 characters long
abbrev pub string_constant : Text → JudgedConstant
string_constant [] = faulty_constant WRONG_CONSTANT
string_constant (c ∷ []) = record { value = Number (pos c); typing = Ordinal host.Char; kind = CLEAN }
string_constant (c ∷ d ∷ cs) = chars_constant (c ∷ d ∷ cs)
