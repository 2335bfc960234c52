-- How constants of one character are spelled, and the number that each character stands for (C11 6.4.4.4p1-9).
use Rattle.std.specs.Prelude.{◌≡◌, ℕ, Bool, ◌||◌, ◌≤◌, not, List, [], ◌∷◌, ◌++◌, length, nat_eq, IsTrue, Option, Some, None, if◌then◌else◌}
use Rattle.std.specs.Str.Parse.{IsNumeral, digits_value}

-- a byte that stands for itself: none of `'` (39), `\` (92) and newline (10)
abbrev pub is_plain : ℕ → Bool
is_plain byte = not (nat_eq byte 39 || (nat_eq byte 92 || nat_eq byte 10))

-- the letters and marks behind a `\` (C11 6.4.4.4p3 and 5.2.2p2; their codes are those of ASCII)
abbrev pub simple_escape : ℕ → Option ℕ
simple_escape byte =
    if nat_eq byte 39 then Some 39  -- '
    else (if nat_eq byte 34 then Some 34  -- "
    else (if nat_eq byte 63 then Some 63  -- ?
    else (if nat_eq byte 92 then Some 92  -- \
    else (if nat_eq byte 97 then Some 7  -- a
    else (if nat_eq byte 98 then Some 8  -- b
    else (if nat_eq byte 102 then Some 12  -- f
    else (if nat_eq byte 110 then Some 10  -- n
    else (if nat_eq byte 114 then Some 13  -- r
    else (if nat_eq byte 116 then Some 9  -- t
    else (if nat_eq byte 118 then Some 11  -- v
    else None))))))))))

-- what stands between the quotes, and the number that it stands for: of `x` the code is 120
pub data IsCharacter : List ℕ → ℕ → Type 0 where
  Plain : (byte : ℕ) → IsTrue (is_plain byte) → IsCharacter (byte ∷ []) byte
  SimpleEscape : (letter code : ℕ) → simple_escape letter ≡ Some code → IsCharacter (92 ∷ letter ∷ []) code
  OctalEscape : (digits : List ℕ) → IsNumeral 8 digits → length digits ≤ 3 → IsCharacter (92 ∷ digits) (digits_value 8 digits)
  HexadecimalEscape : (digits : List ℕ) → IsNumeral 16 digits → IsCharacter (92 ∷ 120 ∷ digits) (digits_value 16 digits)

-- a constant of one character, its quotes with it
pub record IsLetter (spelling : List ℕ) (code : ℕ) : Type 0 where
  pub character : List ℕ
  pub whole : spelling ≡ 39 ∷ (character ++ 39 ∷ [])
  pub counts : IsCharacter character code
