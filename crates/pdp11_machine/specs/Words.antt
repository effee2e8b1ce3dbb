-- What the flags say of words and bytes: PDP-11/40 Processor Handbook, chapter 4.
use Rattle.std.specs.Prelude.{ℕ, Bool, false, nat_le, nat_eq}
use Rattle.pdp11_arithmetic.specs.Words.{half}
use Rattle.pdp11_machine.specs.State.{Flags}

-- the flags of a byte or a word, with these V and C: N is its sign bit, and Z tells whether it is zero
abbrev pub flags_by : Bool → ℕ → Bool → Bool → Flags
flags_by byte value overflow carry = record {
  negative = nat_le (half byte) value;
  zero = nat_eq value 0;
  overflow = overflow;
  carry = carry;
}

-- the flags of a word
abbrev pub flags_of : ℕ → Bool → Bool → Flags
flags_of = flags_by false
