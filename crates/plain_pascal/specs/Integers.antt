-- Words as whole numbers, and the operations on them (ISO 7185:1990, 6.7.2.2, with maxint 32767; an integer result
-- outside -32767 to 32767 is run-time error 3, and a divisor that is 0, or not above 0 for `mod`, is error 4).
use Rattle.std.specs.Prelude.{ℕ, zero, suc, ◌-◌, ℤ, pos, negsuc, ◌+ℤ◌, Bool, true, false, not, ◌&&◌, ◌||◌, int_lt, int_le, int_div, int_rem, ◌==◌, if◌then◌else◌}
use Rattle.core_tree.specs.declared.op.Relation.{Relation}
use Rattle.core_tree.specs.declared.op.Relation.TheVariants.{Equal, NotEqual, Less, Greater, LessEqual, GreaterEqual}
use Rattle.plain_pascal.specs.State.{Value, Word}

-- the result of an operation: a value, or a run-time error
pub data Result : Type 0 where
  Gives : (value : Value) → Result
  Fails : (error : ℕ) → Result

abbrev pub word_of : ℤ → ℕ
word_of (pos n) = n
word_of (negsuc n) = 65535 - n

abbrev pub truth : Bool → ℕ
truth false = 0
truth true = 1

abbrev pub within : ℤ → ℤ → ℤ → Bool
within first last z = int_le first z && int_le z last

abbrev pub is_integer : ℤ → Bool
is_integer z = within (negsuc 32766) (pos 32767) z

-- the result, where it lies in a range
abbrev pub in_range : ℕ → ℤ → ℤ → ℤ → Result
in_range error first last z = if within first last z then Gives (Word (word_of z)) else Fails error

abbrev pub integer : ℤ → Result
integer z = in_range 3 (negsuc 32766) (pos 32767) z

abbrev pub divided : ℤ → ℤ → Result
divided i (pos zero) = Fails 4
divided i j = integer (int_div i j)

-- the remainder that is not below zero
abbrev pub lifted : ℤ → ℤ → ℤ
lifted (pos r) j = pos r
lifted (negsuc r) j = negsuc r +ℤ j

abbrev pub modulo : ℤ → ℤ → Result
modulo i (pos (suc j)) = integer (lifted (int_rem i (pos (suc j))) (pos (suc j)))
modulo i _ = Fails 4

abbrev pub is_true : ℕ → Bool
is_true word = not (word == 0)

abbrev pub compared : Relation → ℤ → ℤ → Bool
compared Equal i j = not (int_lt i j || int_lt j i)
compared NotEqual i j = int_lt i j || int_lt j i
compared Less i j = int_lt i j
compared Greater i j = int_lt j i
compared LessEqual i j = int_le i j
compared GreaterEqual i j = int_le j i
