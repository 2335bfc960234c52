-- Decimal digits, in a text as in a word of the command line (C11 5.2.1).
use Rattle.std.specs.Prelude.{ℕ, ◌+◌, ◌*◌, ◌-◌, Bool, ◌&&◌, List, [], ◌∷◌, nat_le}

-- whether a byte lies between two, these among them
abbrev pub is_between : ℕ → ℕ → ℕ → Bool
is_between low high byte = nat_le low byte && nat_le byte high

-- `0` (48) to `9` (57)
abbrev pub is_digit : ℕ → Bool
is_digit byte = is_between 48 57 byte

-- the value of decimal digits, behind digits with the value `before`
abbrev pub decimal_value : ℕ → List ℕ → ℕ
decimal_value before [] = before
decimal_value before (digit ∷ others) = decimal_value (10 * before + (digit - 48)) others
