-- The operands of which rows speak.
use Rattle.std.specs.Prelude.{ℕ, true, false}
use Rattle.cbase.specs.declared.abi.Abi.{Abi}
use Rattle.cbase.specs.declared.tree.spec.Rank.TheVariants.{Long}
use Rattle.cbase.specs.IntegerSizes.{bytes_of_rank}
use Rattle.cbase.specs.declared.ctype.CType.{CType}
use Rattle.cbase.specs.declared.ctype.CType.TheVariants.{Void as VoidType, Bool as BoolType, Pointer as PointerType, Struct as StructType, Array as ArrayType}
use Rattle.typing.specs.declared.ctypes.kind.IntegerType.{IntegerType}
use Rattle.typing.specs.declared.ctypes.kind.Target.TheVariants.{Void as VoidTarget, Sized, Unsized}
use Rattle.typing.specs.ctypes.Broken.{Judgement, Typed}
use Rattle.typing.specs.ctypes.Integers.{integer, truth, type_of_integer}
use Rattle.typing.specs.ctypes.Kinds.{Integer, Pointer, Array, Struct, Void}
use Rattle.typing.specs.ctypes.Operands.{Operand}

-- integer types; `long` by its data layout
abbrev pub char : IntegerType
char = integer 1 true

abbrev pub unsigned_char : IntegerType
unsigned_char = integer 1 false

abbrev pub short : IntegerType
short = integer 2 true

abbrev pub unsigned_short : IntegerType
unsigned_short = integer 2 false

abbrev pub unsigned : IntegerType
unsigned = integer 4 false

abbrev pub long : Abi → IntegerType
long abi = integer (bytes_of_rank abi Long) true

abbrev pub unsigned_long : Abi → IntegerType
unsigned_long abi = integer (bytes_of_rank abi Long) false

abbrev pub long_long : IntegerType
long_long = integer 8 true

abbrev pub unsigned_long_long : IntegerType
unsigned_long_long = integer 8 false

-- an operation that has a type of integers
abbrev pub gives : IntegerType → Judgement
gives t = Typed (type_of_integer t)

-- types that pointers lead to
abbrev pub char_type : CType
char_type = type_of_integer char

abbrev pub long_type : CType
long_type = type_of_integer long_long

-- values, which are no lvalues: of a type of integers, `_Bool`, the constant 0
abbrev pub value : IntegerType → Operand
value t = record { ctype = type_of_integer t; kind = Integer t; lvalue = false; null = false }

abbrev pub boolean : Operand
boolean = record { ctype = BoolType; kind = Integer truth; lvalue = false; null = false }

abbrev pub zero_of : IntegerType → Operand
zero_of t = record { ctype = type_of_integer t; kind = Integer t; lvalue = false; null = true }

-- pointers to a complete type, to `void`, to the incomplete struct 9, and `(void *)0`
abbrev pub to : CType → Operand
to item = record { ctype = PointerType item; kind = Pointer item Sized; lvalue = false; null = false }

abbrev pub to_void : Operand
to_void = record { ctype = PointerType VoidType; kind = Pointer VoidType VoidTarget; lvalue = false; null = false }

abbrev pub to_incomplete : Operand
to_incomplete = record { ctype = PointerType (StructType 9); kind = Pointer (StructType 9) Unsized; lvalue = false; null = false }

abbrev pub null_pointer : Operand
null_pointer = record { ctype = PointerType VoidType; kind = Pointer VoidType VoidTarget; lvalue = false; null = true }

-- an array of three, a struct by its number, and no value
abbrev pub three : CType → Operand
three item = record { ctype = ArrayType item 3; kind = Array item Sized; lvalue = true; null = false }

abbrev pub struct : ℕ → Operand
struct number = record { ctype = StructType number; kind = Struct number; lvalue = true; null = false }

abbrev pub nothing : Operand
nothing = record { ctype = VoidType; kind = Void; lvalue = false; null = false }

-- an object that has such a value
abbrev pub object : Operand → Operand
object operand = record { ctype = operand.ctype; kind = operand.kind; lvalue = true; null = false }
