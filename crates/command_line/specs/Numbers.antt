-- The numbers that a word may give.
use Rattle.std.specs.Prelude.{◌&&◌, ℕ, Bool, List, Option, Some, None, length, if◌then◌else◌, nat_le}
use Rattle.std.specs.List.{list_all}
use Rattle.cbase.specs.Bytes.{is_digit, decimal_value}

-- the value of decimal digits
abbrev pub decimal : List ℕ → ℕ
decimal digits = decimal_value 0 digits

-- one to `digits` decimal digits, and nothing else; leading zeros are allowed
abbrev pub is_numeral : ℕ → List ℕ → Bool
is_numeral digits word =
    nat_le 1 (length word) && (nat_le (length word) digits && list_all is_digit word)

-- a numeral with a value from `least` to `most`
abbrev pub is_numeral_in : ℕ → ℕ → ℕ → List ℕ → Bool
is_numeral_in digits least most word =
    is_numeral digits word && (nat_le least (decimal word) && nat_le (decimal word) most)

-- the value of a word that is such a numeral
abbrev pub number_in : ℕ → ℕ → ℕ → List ℕ → Option ℕ
number_in digits least most word =
    if is_numeral_in digits least most word then Some (decimal word) else None

-- the number that an option was given, and `default` where the option was not given
abbrev pub number_or : ℕ → ℕ → ℕ → ℕ → Option (List ℕ) → Option ℕ
number_or digits default least most None = Some default
number_or digits default least most (Some word) = number_in digits least most word
