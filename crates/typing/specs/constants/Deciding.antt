-- What bytes are read as, and what they mean, as it is found out: the parts of a constant one behind the other.
use Rattle.std.specs.Prelude.{ℕ, Bool, ◌&&◌, ◌||◌, ◌-◌, not, List, [], ◌∷◌, length, take, drop, nat_eq, nat_lt, nat_le, Option, Some, None, option_map, option_and_then, if◌then◌else◌, slice_index}
use Rattle.std.specs.List.{list_any, list_all, prefix_len}
use Rattle.std.specs.Str.{bytes_eq}
use Rattle.std.specs.Str.Parse.{digits_value}
use Rattle.std.specs.Char.{digit_value}
use Rattle.cbase.specs.declared.abi.Abi.{Abi}
use Rattle.typing.specs.declared.constants.base.Base.{Base}
use Rattle.typing.specs.declared.constants.base.Base.TheVariants.{Decimal, Octal, Hexadecimal}
use Rattle.typing.specs.declared.constants.suffix.Suffix.{Suffix}
use Rattle.typing.specs.declared.constants.suffix.Suffix.TheVariants.{Empty, U, L, Ul, Ll, Ull}
use Rattle.typing.specs.declared.constants.meaning.Constant.{Constant}
use Rattle.typing.specs.declared.constants.meaning.Meaning.{Meaning}
use Rattle.typing.specs.declared.constants.meaning.Meaning.TheVariants.{NoConstant, FitsNoType, Known}
use Rattle.typing.specs.constants.Integers.{radix, spellings}
use Rattle.typing.specs.constants.Characters.{is_plain, simple_escape}
use Rattle.typing.specs.constants.Meanings.{Reading, Integer, Letter, constant_of}

-- digits of a radix, at least one
abbrev pub are_digits : ℕ → List ℕ → Bool
are_digits radix digits = nat_lt 0 (length digits) && list_all (λ digit. nat_lt (digit_value digit) radix) digits

-- none of `u`, `U`, `l` and `L`: no digit is one of these
abbrev pub is_before_suffix : ℕ → Bool
is_before_suffix byte = not (nat_eq byte 117 || (nat_eq byte 85 || (nat_eq byte 108 || nat_eq byte 76)))

-- the suffix that bytes are
abbrev pub suffix_of : List ℕ → Option Suffix
suffix_of ending =
    if list_any (bytes_eq ending) (spellings Empty) then Some Empty
    else (if list_any (bytes_eq ending) (spellings U) then Some U
    else (if list_any (bytes_eq ending) (spellings L) then Some L
    else (if list_any (bytes_eq ending) (spellings Ul) then Some Ul
    else (if list_any (bytes_eq ending) (spellings Ll) then Some Ll
    else (if list_any (bytes_eq ending) (spellings Ull) then Some Ull else None)))))

-- digits with their base and suffix
abbrev pub integer_in : Base → Suffix → List ℕ → Option Reading
integer_in base suffix digits =
    if are_digits (radix base) digits then Some (Integer base suffix (digits_value (radix base) digits)) else None

-- behind a `0`
abbrev pub behind_zero : Suffix → List ℕ → Option Reading
behind_zero suffix [] = integer_in Octal suffix (48 ∷ [])
behind_zero suffix (mark ∷ digits) =
    if nat_eq mark 120 || nat_eq mark 88 then integer_in Hexadecimal suffix digits
    else integer_in Octal suffix (48 ∷ (mark ∷ digits))

-- a constant without its suffix
abbrev pub unsuffixed : List ℕ → Suffix → Option Reading
unsuffixed [] suffix = None
unsuffixed (first ∷ others) suffix =
    if nat_eq first 48 then behind_zero suffix others else integer_in Decimal suffix (first ∷ others)

-- an integer constant
unfoldable pub integer : List ℕ → Option Reading
integer spelling =
    let count = prefix_len is_before_suffix spelling in
    option_and_then (unsuffixed (take count spelling)) (suffix_of (drop count spelling))

-- the number of an escape in digits
abbrev pub code_in : ℕ → List ℕ → Option ℕ
code_in radix digits = if are_digits radix digits then Some (digits_value radix digits) else None

-- one to three octal digits
abbrev pub octal_escape : List ℕ → Option ℕ
octal_escape digits = if nat_le (length digits) 3 then code_in 8 digits else None

-- behind a `\`
abbrev pub escape : List ℕ → Option ℕ
escape [] = None
escape (first ∷ others) =
    if nat_lt (digit_value first) 8 then octal_escape (first ∷ others)
    else (if nat_eq first 120 then code_in 16 others
    else (if nat_eq (length others) 0 then simple_escape first else None))

-- what stands between quotes
abbrev pub character : List ℕ → Option ℕ
character [] = None
character (first ∷ others) =
    if nat_eq first 92 then escape others else (if is_plain first && nat_eq (length others) 0 then Some first else None)

-- what stands before a quote at the end
abbrev pub before_quote : List ℕ → Option (List ℕ)
before_quote bytes =
    if nat_lt 0 (length bytes) && nat_eq (slice_index bytes (length bytes - 1)) 39
    then Some (take (length bytes - 1) bytes) else None

-- behind the first quote
unfoldable pub letter : List ℕ → Option Reading
letter others = option_map Letter (option_and_then character (before_quote others))

-- what bytes are read as
abbrev pub reading_of : List ℕ → Option Reading
reading_of [] = None
reading_of (first ∷ others) = if nat_eq first 39 then letter others else integer (first ∷ others)

abbrev pub fits : Option Constant → Meaning
fits None = FitsNoType
fits (Some known) = Known known

abbrev pub told : Abi → Option Reading → Meaning
told abi None = NoConstant
told abi (Some reading) = fits (constant_of abi reading)

abbrev pub meaning_of : Abi → List ℕ → Meaning
meaning_of abi spelling = told abi (reading_of spelling)
