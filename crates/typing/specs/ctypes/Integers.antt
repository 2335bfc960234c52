-- Promotions and usual arithmetic conversions of integers (C11 6.3.1.1, 6.3.1.8), by their bytes: so one definition is for
-- both data layouts.
use Rattle.std.specs.Prelude.{ℕ, Bool, true, false, ◌&&◌, nat_lt, if◌then◌else◌}
use Rattle.cbase.specs.declared.ctype.CType.{CType}
use Rattle.cbase.specs.declared.ctype.CType.TheVariants.{Int as IntType}
use Rattle.typing.specs.declared.ctypes.kind.IntegerType.{IntegerType}

-- the integers of so many bytes
abbrev pub integer : ℕ → Bool → IntegerType
integer bytes signed = record { bytes = bytes; signed = signed; truth = false }

-- `_Bool`
abbrev pub truth : IntegerType
truth = record { bytes = 1; signed = false; truth = true }

-- `int`
abbrev pub int : IntegerType
int = integer 4 true

-- an integer of a type as an operand: an `int` has all values of each type of fewer bytes, and other types are kept
-- (C11 6.3.1.1p2)
abbrev pub promoted : IntegerType → IntegerType
promoted t = if nat_lt t.bytes 4 then int else t

-- the type of two integers that are promoted: the one of more bytes, which has all values of the other or is without sign;
-- of two of as many bytes one without sign where one of them is (C11 6.3.1.8p1)
abbrev pub wider : IntegerType → IntegerType → IntegerType
wider left right =
    if nat_lt left.bytes right.bytes then right
    else (if nat_lt right.bytes left.bytes then left
    else integer left.bytes (left.signed && right.signed))

-- the usual arithmetic conversions (C11 6.3.1.8p1)
abbrev pub common : IntegerType → IntegerType → IntegerType
common left right = wider (promoted left) (promoted right)

-- a type of integers other than `_Bool` as a type of C
abbrev pub type_of_integer : IntegerType → CType
type_of_integer t = IntType t.bytes t.signed
