-- Values of any type as integers.
use Rattle.std.specs.Prelude.{ℕ}
use Rattle.typing.specs.declared.ctypes.kind.IntegerType.{IntegerType}
use Rattle.typing.specs.values.Values.{offset_as}
use Rattle.c_machine.specs.declared.kind.Kind.{Kind}
use Rattle.c_machine.specs.declared.kind.Kind.TheVariants.{Integer}
use Rattle.c_machine.specs.Words.{integer_as}

-- a value with these bits or this address number as an integer of a type (C11 6.3p2, 6.3.1.2, 6.3.1.3, 6.3.2.3p6)
abbrev pub integer_from : Kind → IntegerType → ℕ → ℕ
integer_from (Integer from) to bits = integer_as from to bits
integer_from from to number = offset_as to number
