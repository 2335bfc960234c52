-- The types of binary operators (C11 6.5.5 to 6.5.14 and 6.5.17), one table for each group of them.
use Rattle.std.specs.Prelude.{Bool, true, false, ◌&&◌, if◌then◌else◌}
use Rattle.cbase.specs.declared.ctype.CType.{CType}
use Rattle.cbase.specs.declared.ctype.CType.TheVariants.{Int as IntType, Pointer as PointerType}
use Rattle.cbase.specs.declared.tree.operators.BinaryOp.{BinaryOp}
use Rattle.cbase.specs.declared.tree.operators.BinaryOp.TheVariants.{Mul, Div, Rem, Add, Sub, Left, Right, Less, Greater, LessEqual, GreaterEqual, Equal, NotEqual, And, Xor, Or, Both, Either, Comma}
use Rattle.typing.specs.declared.ctypes.binary.Group.{Group}
use Rattle.typing.specs.declared.ctypes.binary.Group.TheVariants.{Arithmetic, Shift, Sum, Difference, Order, Equality, Logic, Sequence}
use Rattle.typing.specs.declared.ctypes.kind.Target.{Target}
use Rattle.typing.specs.declared.ctypes.kind.Target.TheVariants.{Void as VoidTarget, Sized, Unsized}
use Rattle.typing.specs.declared.ctypes.found.Broken.TheVariants.{Construct, Rule}
use Rattle.typing.specs.ctypes.Broken.{Judgement, Typed, Breaks}
use Rattle.typing.specs.ctypes.Integers.{promoted, common, type_of_integer}
use Rattle.typing.specs.ctypes.Kinds.{Kind, Integer, Pointer, Array, Struct, Void, decayed}
use Rattle.typing.specs.ctypes.Operands.{Operand}

-- the operators that ask the same of their operands
abbrev pub group_of : BinaryOp → Group
group_of Mul = Arithmetic
group_of Div = Arithmetic
group_of Rem = Arithmetic
group_of Add = Sum
group_of Sub = Difference
group_of Left = Shift
group_of Right = Shift
group_of Less = Order
group_of Greater = Order
group_of LessEqual = Order
group_of GreaterEqual = Order
group_of Equal = Equality
group_of NotEqual = Equality
group_of And = Arithmetic
group_of Xor = Arithmetic
group_of Or = Arithmetic
group_of Both = Logic
group_of Either = Logic
group_of Comma = Sequence

-- the type of comparisons and of what is true or false (C11 6.5.8p6)
abbrev pub int_type : CType
int_type = IntType 4 true

-- `*`, `/`, `%`, `&`, `^` and `|` take two integers (C11 6.5.5p2-3, 6.5.10p2-3, 6.5.11p2-3, 6.5.12p2-3)
abbrev pub arithmetic : Kind → Kind → Judgement
arithmetic (Integer left) (Integer right) = Typed (type_of_integer (common left right))
arithmetic left right = Breaks (Rule 4)

-- a shift takes two integers, each of which is promoted for itself (C11 6.5.7p2-3)
abbrev pub shifted : Kind → Kind → Judgement
shifted (Integer left) (Integer right) = Typed (type_of_integer (promoted left))
shifted left right = Breaks (Rule 4)

-- a pointer that an integer is added to, or subtracted from: it leads to a complete type, or to `void`, where bytes are counted
abbrev pub moved : CType → Target → Judgement
moved item VoidTarget = Typed (PointerType item)
moved item Sized = Typed (PointerType item)
moved item Unsized = Breaks (Rule 4)

-- `+` takes two integers, or a pointer and an integer (C11 6.5.6p2)
abbrev pub added : Kind → Kind → Judgement
added (Integer left) (Integer right) = Typed (type_of_integer (common left right))
added (Pointer item target) (Integer right) = moved item target
added (Integer left) (Pointer item target) = moved item target
added left right = Breaks (Rule 4)

-- `-` takes two integers, or a pointer and an integer (C11 6.5.6p3); the difference of two pointers is given up
abbrev pub subtracted : Kind → Kind → Judgement
subtracted (Integer left) (Integer right) = Typed (type_of_integer (common left right))
subtracted (Pointer item target) (Integer right) = moved item target
subtracted (Pointer item target) (Pointer other other_target) = Breaks (Construct 17)
subtracted left right = Breaks (Rule 4)

-- `<`, `>`, `<=` and `>=` take two integers (C11 6.5.8p2); the order of two pointers is given up
abbrev pub ordered : Kind → Kind → Judgement
ordered (Integer left) (Integer right) = Typed int_type
ordered (Pointer item target) (Pointer other other_target) = Breaks (Construct 16)
ordered left right = Breaks (Rule 4)

-- `==` and `!=` take two integers, two pointers, or a pointer and an integer constant expression 0 (C11 6.5.9p2)
abbrev pub equated : Kind → Bool → Kind → Bool → Judgement
equated (Integer left) left_null (Integer right) right_null = Typed int_type
equated (Pointer item target) left_null (Pointer other other_target) right_null = Typed int_type
equated (Pointer item target) left_null (Integer right) right_null = if right_null then Typed int_type else Breaks (Rule 4)
equated (Integer left) left_null (Pointer item target) right_null = if left_null then Typed int_type else Breaks (Rule 4)
equated left left_null right right_null = Breaks (Rule 4)

-- a condition: an integer or a pointer (C11 6.2.5p21)
abbrev pub is_scalar : Kind → Bool
is_scalar (Integer t) = true
is_scalar (Pointer item target) = true
is_scalar (Array item target) = true
is_scalar (Struct number) = false
is_scalar Void = false

-- `&&` and `||` take two conditions (C11 6.5.13p2-3, 6.5.14p2-3)
abbrev pub tested : Kind → Kind → Judgement
tested left right = if is_scalar left && is_scalar right then Typed int_type else Breaks (Rule 4)

-- the comma has the type of its right side's value (C11 6.5.17p2), and takes no struct
abbrev pub sequenced : Kind → Kind → CType → Judgement
sequenced (Struct number) right t = Breaks (Rule 4)
sequenced left (Struct number) t = Breaks (Rule 4)
sequenced left (Array item target) t = Typed (PointerType item)
sequenced left right t = Typed t

-- the operators of a group: of two operands they see values, in which arrays are pointers
abbrev pub operated : Group → Operand → Operand → Judgement
operated Arithmetic left right = arithmetic (decayed left.kind) (decayed right.kind)
operated Shift left right = shifted (decayed left.kind) (decayed right.kind)
operated Sum left right = added (decayed left.kind) (decayed right.kind)
operated Difference left right = subtracted (decayed left.kind) (decayed right.kind)
operated Order left right = ordered (decayed left.kind) (decayed right.kind)
operated Equality left right = equated (decayed left.kind) left.null (decayed right.kind) right.null
operated Logic left right = tested left.kind right.kind
operated Sequence left right = sequenced left.kind right.kind right.ctype

-- a binary operator
abbrev pub binary : BinaryOp → Operand → Operand → Judgement
binary op left right = operated (group_of op) left right
