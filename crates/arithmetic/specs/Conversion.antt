-- Conversions of integers (C11 6.3.1.2, 6.3.1.3).
use Rattle.std.specs.Prelude.{ℕ, ◌%◌, Bool, nat_eq, if◌then◌else◌}
use Rattle.arithmetic.specs.Value.{modulus, bits, value}

-- the bits of an integer of size `from`, with a sign or without, that is converted to size `to`: those of its
-- value, modulo 2^n, so a number out of range is never cut off at the end of the range (C11 6.3.1.3)
abbrev pub converted : ℕ → Bool → ℕ → ℕ → ℕ
converted from signed to number = bits to (value from signed number)

-- an integer that is converted to `_Bool`: 0 where it is 0, and else 1 (C11 6.3.1.2p1)
abbrev pub truth : ℕ → ℕ → ℕ
truth size number = if nat_eq (number % modulus size) 0 then 0 else 1
