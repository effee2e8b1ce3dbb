-- A 16-bit word as a number in two's complement (PDP-11/40 Processor Handbook, chapter 2, "Number representation").
use Rattle.std.specs.Prelude.{ℕ, ℤ, pos, ◌-ℤ◌, nat_lt, if◌then◌else◌}

-- the word where it is below 32768, and else the word less 65536
abbrev pub signed_value : ℕ → ℤ
signed_value word = if nat_lt word 32768 then pos word else pos word -ℤ pos 65536
