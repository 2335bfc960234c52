-- How many bytes a register has for a value, and what a conversion is in the graph (C11 6.3).
use Rattle.std.specs.Prelude.{ℕ, Bool, true, false, nat_eq, nat_lt, ◌&&◌, if◌then◌else◌}
use Rattle.std.specs.Option.{option_map_or}
use Rattle.cbase.specs.declared.tree.operators.BinaryOp.{BinaryOp}
use Rattle.cbase.specs.declared.tree.operators.BinaryOp.TheVariants.{Mul, Div, Rem, Add, Sub, Left, Right, Greater, GreaterEqual, Equal, NotEqual, And, Xor, Or}
use Rattle.typing.specs.declared.ctypes.kind.IntegerType.{IntegerType}
use Rattle.typing.specs.ctypes.Integers.{int, promoted, common}
use Rattle.c_machine.specs.declared.kind.Kind.{Kind}
use Rattle.c_machine.specs.declared.kind.Kind.TheVariants.{Integer, Pointer, Void}
use Rattle.c_machine.specs.Words.{is_same, kind_after, scalar_bytes}
use Rattle.lowering.specs.declared.conversion.Conversion.{Conversion}
use Rattle.lowering.specs.declared.conversion.Conversion.TheVariants.{Nothing, Resized, Tested, Dropped, Unknown}

-- a pointer and an address have 8 bytes
abbrev pub width : Kind → ℕ
width kind = option_map_or (λ bytes. bytes) (scalar_bytes kind) 8

abbrev pub is_void : Kind → Bool
is_void Void = true
is_void other = false

-- whether a value is an address
abbrev pub is_address : Kind → Bool
is_address (Integer of) = false
is_address Void = false
is_address other = true

-- whether a value that was made as one kind is one of another as it stands: integers of as many bytes, or two addresses
abbrev pub fits : Kind → Kind → Bool
fits (Integer made) (Integer asked) = nat_eq made.bytes asked.bytes
fits (Integer made) asked = false
fits made (Integer asked) = false
fits Void asked = is_void asked
fits made Void = false
fits made asked = true

-- a value of some bytes that becomes a `_Bool`, which has 1 byte
abbrev pub tested : ℕ → IntegerType → Conversion
tested bytes to = if nat_lt 0 bytes && nat_eq to.bytes 1 then Tested else Unknown

-- an integer: one of a type to itself is nothing
abbrev pub between_integers : IntegerType → IntegerType → Conversion
between_integers from to = if is_same from to then Nothing else (if to.truth then tested from.bytes to else Resized to.bytes from.signed)

-- what leads somewhere becomes an integer: a number of 8 bytes without sign is converted, also where the integer has as many
abbrev pub to_integer : IntegerType → Conversion
to_integer to = if to.truth then tested 8 to else Resized to.bytes false

-- an integer as an operator takes it: none computes in `_Bool` (6.3.1.1p2, 6.3.1.8)
abbrev pub as_operand : IntegerType → IntegerType → Conversion
as_operand from to = if to.truth then Unknown else between_integers from to

abbrev pub conversion : Kind → Kind → Conversion
conversion from Void = Dropped
conversion (Integer from) (Integer to) = between_integers from to
conversion (Integer from) (Pointer bytes) = Resized 8 from.signed
conversion (Integer from) to = Unknown
conversion Void to = Unknown
conversion from (Integer to) = to_integer to
conversion from to = Nothing

-- a number that a pointer is moved by has 8 bytes
abbrev pub as_count : IntegerType → Conversion
as_count of = if nat_eq of.bytes 8 then Nothing else Resized 8 of.signed

-- a number beside a pointer that it is compared with
abbrev pub as_address : Kind → Conversion
as_address (Integer of) = Resized 8 of.signed
as_address kind = Nothing

-- the conversions of the two sides of an operator, which stand behind both (6.3.1.8, 6.5.7p3)
pub record Sides : Type 0 where
  pub left : Conversion
  pub right : Conversion

abbrev pub sides_to : IntegerType → IntegerType → IntegerType → Sides
sides_to to left right = record { left = as_operand left to; right = as_operand right to }

abbrev pub promoted_sides : IntegerType → IntegerType → Sides
promoted_sides left right = record { left = as_operand left (promoted left); right = as_operand right (promoted right) }

-- the type in which two integers meet; `>` and `>=` are `<` and `<=` with their sides exchanged
abbrev pub meeting : BinaryOp → IntegerType → IntegerType → IntegerType
meeting Greater left right = common right left
meeting GreaterEqual left right = common right left
meeting op left right = common left right

abbrev pub sides : BinaryOp → Kind → Kind → Sides
sides Left (Integer left) (Integer right) = promoted_sides left right
sides Right (Integer left) (Integer right) = promoted_sides left right
sides op (Integer left) (Integer right) = sides_to (meeting op left right) left right
sides Add (Pointer bytes) (Integer right) = record { left = Nothing; right = as_count right }
sides Sub (Pointer bytes) (Integer right) = record { left = Nothing; right = as_count right }
sides Add (Integer left) (Pointer bytes) = record { left = as_count left; right = Nothing }
sides Equal left right = record { left = as_address left; right = as_address right }
sides NotEqual left right = record { left = as_address left; right = as_address right }
sides op left right = record { left = Nothing; right = Nothing }

-- whether an operator compares two values that are equal or not
abbrev pub is_equality : BinaryOp → Bool
is_equality Equal = true
is_equality NotEqual = true
is_equality op = false

-- whether an operator compares, chooses or drops: an assignment has none such (6.5.16)
abbrev pub is_plain_operator : BinaryOp → Bool
is_plain_operator Mul = true
is_plain_operator Div = true
is_plain_operator Rem = true
is_plain_operator Add = true
is_plain_operator Sub = true
is_plain_operator Left = true
is_plain_operator Right = true
is_plain_operator And = true
is_plain_operator Xor = true
is_plain_operator Or = true
is_plain_operator op = false

-- the kind of what an operator makes: a comparison makes an int, others what the machine stores
abbrev pub stored_by : BinaryOp → Kind → Kind → Kind
stored_by Add (Integer number) (Pointer bytes) = Pointer bytes
stored_by op left right = kind_after op left right

abbrev pub made_by : BinaryOp → Kind → Kind → Kind
made_by op left right = if is_plain_operator op then stored_by op left right else Integer int
