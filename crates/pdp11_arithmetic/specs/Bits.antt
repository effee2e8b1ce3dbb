-- Flags as truth values and as bits.
use Rattle.std.specs.Prelude.{ℕ, Bool, true, false, if◌then◌else◌}

-- negation
abbrev pub not : Bool → Bool
not true = false
not false = true

-- exclusive or
abbrev pub differs : Bool → Bool → Bool
differs true b = not b
differs false b = b

-- a flag as a number
abbrev pub bit_of : Bool → ℕ
bit_of b = if b then 1 else 0
