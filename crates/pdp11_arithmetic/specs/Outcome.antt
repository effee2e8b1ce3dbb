-- What the instructions of one operand make of its value, a byte or a word, at the carry as it stands: PDP-11/40
-- Processor Handbook, chapter 4, single operand instructions. N and Z are by the new value. This project's own: C of SBC
-- is the borrow.
use Rattle.std.specs.Prelude.{ℕ, ◌+◌, ◌-◌, ◌*◌, ◌/◌, ◌%◌, Bool, true, false, ◌&&◌, nat_le, nat_eq, if◌then◌else◌}
use Rattle.pdp11_arithmetic.specs.declared.outcome.Outcome.{Outcome}
use Rattle.pdp11_arithmetic.specs.Bits.{not, differs, bit_of}
use Rattle.pdp11_arithmetic.specs.Words.{whole, half}

-- COM
abbrev pub complement : Bool → ℕ → Outcome
complement byte v = record { value = whole byte - 1 - v; overflow = false; carry = true }

-- INC: C stays
abbrev pub increment : Bool → Bool → ℕ → Outcome
increment byte c v = record {
  value = (v + 1) % whole byte;
  overflow = nat_eq v (half byte - 1);
  carry = c;
}

-- DEC: C stays
abbrev pub decrement : Bool → Bool → ℕ → Outcome
decrement byte c v = record {
  value = (v + (whole byte - 1)) % whole byte;
  overflow = nat_eq v (half byte);
  carry = c;
}

-- NEG
abbrev pub negation : Bool → ℕ → Outcome
negation byte v = record {
  value = (whole byte - v) % whole byte;
  overflow = nat_eq v (half byte);
  carry = not (nat_eq v 0);
}

-- ADC
abbrev pub carry_sum : Bool → Bool → ℕ → Outcome
carry_sum byte c v = record {
  value = (v + bit_of c) % whole byte;
  overflow = c && nat_eq v (half byte - 1);
  carry = c && nat_eq v (whole byte - 1);
}

-- SBC
abbrev pub carry_difference : Bool → Bool → ℕ → Outcome
carry_difference byte c v = record {
  value = (v + (whole byte - bit_of c)) % whole byte;
  overflow = c && nat_eq v (half byte);
  carry = c && nat_eq v 0;
}

-- after a shift or a rotation V is N xor C, and C is the bit that went out
abbrev pub shift_outcome : Bool → ℕ → Bool → Outcome
shift_outcome byte value out = record {
  value = value;
  overflow = differs (nat_le (half byte) value) out;
  carry = out;
}

-- ROR
abbrev pub right_rotation : Bool → Bool → ℕ → Outcome
right_rotation byte c v = shift_outcome byte (v / 2 + bit_of c * half byte) (nat_eq (v % 2) 1)

-- ROL
abbrev pub left_rotation : Bool → Bool → ℕ → Outcome
left_rotation byte c v = shift_outcome byte ((2 * v + bit_of c) % whole byte) (nat_le (half byte) v)

-- ASR
abbrev pub right_shift : Bool → ℕ → Outcome
right_shift byte v = shift_outcome byte (v / 2 + (if nat_le (half byte) v then half byte else 0)) (nat_eq (v % 2) 1)

-- ASL
abbrev pub left_shift : Bool → ℕ → Outcome
left_shift byte v = shift_outcome byte (2 * v % whole byte) (nat_le (half byte) v)

-- what an instruction makes of a value at this carry, by bits 6 to 14 of its word
unfoldable pub outcome_of : ℕ → Bool → Bool → ℕ → Outcome
outcome_of op byte c v =
    if nat_eq op 0o051 then complement byte v  -- COM, COMB
    else (if nat_eq op 0o052 then increment byte c v  -- INC, INCB
    else (if nat_eq op 0o053 then decrement byte c v  -- DEC, DECB
    else (if nat_eq op 0o054 then negation byte v  -- NEG, NEGB
    else (if nat_eq op 0o055 then carry_sum byte c v  -- ADC, ADCB
    else (if nat_eq op 0o056 then carry_difference byte c v  -- SBC, SBCB
    else (if nat_eq op 0o060 then right_rotation byte c v  -- ROR, RORB
    else (if nat_eq op 0o061 then left_rotation byte c v  -- ROL, ROLB
    else (if nat_eq op 0o062 then right_shift byte v  -- ASR, ASRB
    else left_shift byte v))))))))  -- ASL, ASLB
