-- The type and the value of a constant, or why it has none (C11 6.4.4p2, 6.4.4.1p5-6 and 6.4.4.4p9-10).
use Rattle.std.specs.Prelude.{◌≡◌, ℕ, true, false, List, ℤ, pos, Option, Some, None, option_map, if◌then◌else◌}
use Rattle.std.specs.List.{find}
use Rattle.cbase.specs.declared.abi.Abi.{Abi}
use Rattle.arithmetic.specs.Value.{bits, value, is_in_range}
use Rattle.typing.specs.declared.constants.base.Base.{Base}
use Rattle.typing.specs.declared.constants.suffix.Suffix.{Suffix}
use Rattle.typing.specs.declared.constants.integer_type.IntegerType.{IntegerType}
use Rattle.typing.specs.declared.constants.integer_type.IntegerType.TheVariants.{Int}
use Rattle.typing.specs.declared.constants.meaning.Constant.{Constant}
use Rattle.typing.specs.declared.constants.meaning.Meaning.{Meaning}
use Rattle.typing.specs.declared.constants.meaning.Meaning.TheVariants.{NoConstant, FitsNoType, Known}
use Rattle.typing.specs.constants.Integers.{IsInteger}
use Rattle.typing.specs.constants.Characters.{IsLetter}
use Rattle.typing.specs.constants.Types.{types, bytes_of, is_signed, has_value}

-- as what bytes are read
pub data Reading : Type 0 where
  Integer : Base → Suffix → ℕ → Reading
  Letter : ℕ → Reading

abbrev pub Reads : List ℕ → Reading → Type 0
Reads spelling (Integer base suffix number) = IsInteger spelling base suffix number
Reads spelling (Letter code) = IsLetter spelling code

-- a value of a type, given by its bits
abbrev pub constant : Abi → ℤ → IntegerType → Constant
constant abi number ctype = record { bytes = bytes_of abi ctype; signed = is_signed ctype; bits = bits (bytes_of abi ctype) number }

-- An integer constant has the first type of its list that has its value. A character's number is a byte, an unsigned
-- char; its constant is an int, with the value of that byte as a char, which has a sign.
abbrev pub constant_of : Abi → Reading → Option Constant
constant_of abi (Integer base suffix number) = option_map (constant abi (pos number)) (find (has_value abi (pos number)) (types base suffix))
constant_of abi (Letter code) = if is_in_range 1 false (pos code) then Some (constant abi (value 1 true code) Int) else None

-- what bytes mean: nothing where they are no constant, and else the constant of what they are read as, if it has one
abbrev pub Means : Abi → List ℕ → Meaning → Type 0
Means abi spelling NoConstant = (reading : Reading) → Reads spelling reading → ⊥
Means abi spelling FitsNoType = (reading : Reading) × Reads spelling reading × (constant_of abi reading ≡ None)
Means abi spelling (Known known) = (reading : Reading) × Reads spelling reading × (constant_of abi reading ≡ Some known)
