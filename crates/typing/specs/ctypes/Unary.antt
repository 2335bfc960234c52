-- The types of unary operators (C11 6.5.2.4, 6.5.3).
use Rattle.std.specs.Prelude.{Bool, true, false, [], ◌∷◌, List, if◌then◌else◌}
use Rattle.cbase.specs.declared.ctype.CType.{CType}
use Rattle.cbase.specs.declared.ctype.CType.TheVariants.{Int as IntType, Pointer as PointerType}
use Rattle.cbase.specs.declared.tree.operators.UnaryOp.{UnaryOp}
use Rattle.cbase.specs.declared.tree.operators.UnaryOp.TheVariants.{Address, Follow, Plus, Minus, Flip, Not}
use Rattle.cbase.specs.declared.structs.StructDef.{StructDef}
use Rattle.typing.specs.declared.ctypes.kind.Target.TheVariants.{Void as VoidTarget, Sized, Unsized}
use Rattle.typing.specs.declared.ctypes.found.Broken.TheVariants.{Rule}
use Rattle.typing.specs.ctypes.Binary.{int_type, is_scalar}
use Rattle.typing.specs.ctypes.Broken.{Judgement, Typed, Breaks, Demand, judged}
use Rattle.typing.specs.ctypes.Integers.{promoted, type_of_integer}
use Rattle.typing.specs.ctypes.Kinds.{Kind, Integer, Pointer, Array, Struct, Void, has_size}
use Rattle.typing.specs.ctypes.Operands.{Operand}

-- `+`, `-` and `~` take an integer, and give the promoted type (C11 6.5.3.3p1-4)
abbrev pub signed : Kind → Judgement
signed (Integer t) = Typed (type_of_integer (promoted t))
signed (Pointer item target) = Breaks (Rule 4)
signed (Array item target) = Breaks (Rule 4)
signed (Struct number) = Breaks (Rule 4)
signed Void = Breaks (Rule 4)

-- `*` takes a pointer, and gives the type that it leads to, which may be incomplete (C11 6.5.3.2p2, p4)
abbrev pub followed : Kind → Judgement
followed (Integer t) = Breaks (Rule 4)
followed (Pointer item target) = Typed item
followed (Array item target) = Typed item
followed (Struct number) = Breaks (Rule 4)
followed Void = Breaks (Rule 4)

-- `!` takes a condition (C11 6.5.3.3p1, p5), and `&` an lvalue of any type: of an array it is a pointer to the array
-- (6.5.3.2p1, p3)
abbrev pub unary : UnaryOp → Operand → Judgement
unary Plus operand = signed operand.kind
unary Minus operand = signed operand.kind
unary Flip operand = signed operand.kind
unary Not operand = if is_scalar operand.kind then Typed int_type else Breaks (Rule 4)
unary Follow operand = followed operand.kind
unary Address operand = if operand.lvalue then Typed (PointerType operand.ctype) else Breaks (Rule 8)

-- the types that one can be added to, as the type of the operation, or subtracted from: not arrays, which no value can be
-- given to, and no pointers to incomplete types other than `void`
abbrev pub is_counted : Kind → Bool
is_counted (Integer t) = true
is_counted (Pointer item VoidTarget) = true
is_counted (Pointer item Sized) = true
is_counted (Pointer item Unsized) = false
is_counted (Array item target) = false
is_counted (Struct number) = false
is_counted Void = false

-- `++` and `--`, before and behind their operand (C11 6.5.2.4p1-2, 6.5.3.1p1-2)
abbrev pub count_demands : Operand → List Demand
count_demands operand =
    record { holds = is_counted operand.kind; broken = Rule 4 }
    ∷ record { holds = operand.lvalue; broken = Rule 8 } ∷ []

abbrev pub counted : Operand → Judgement
counted operand = judged (count_demands operand) operand.ctype

-- the type of sizes: `unsigned long` by LP64, `unsigned long long` by LLP64
abbrev pub size_type : CType
size_type = IntType 8 false

-- `sizeof` takes a complete type, as it is: an array stays one (C11 6.5.3.4p1, p5)
abbrev pub measured : List StructDef → CType → Judgement
measured structs t = if has_size structs t then Typed size_type else Breaks (Rule 3)
