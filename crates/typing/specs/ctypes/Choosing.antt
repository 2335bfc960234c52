-- The type of `?:` (C11 6.5.15).
use Rattle.std.specs.Prelude.{Bool, true, false, ◌&&◌, if◌then◌else◌}
use Rattle.cbase.specs.declared.ctype.CType.{CType}
use Rattle.cbase.specs.declared.ctype.CType.TheVariants.{Void as VoidType, Pointer as PointerType}
use Rattle.typing.specs.declared.ctypes.kind.Target.{Target}
use Rattle.typing.specs.declared.ctypes.kind.Target.TheVariants.{Void as VoidTarget, Sized, Unsized}
use Rattle.typing.specs.declared.ctypes.found.Broken.TheVariants.{Rule}
use Rattle.typing.specs.ctypes.Binary.{is_scalar}
use Rattle.typing.specs.ctypes.Broken.{Judgement, Typed, Breaks}
use Rattle.typing.specs.ctypes.Integers.{common, type_of_integer}
use Rattle.typing.specs.ctypes.Kinds.{Kind, Integer, Pointer, Void, decayed}
use Rattle.typing.specs.ctypes.Operands.{Operand}

-- whether a pointer leads to `void`
abbrev pub is_void : Target → Bool
is_void VoidTarget = true
is_void Sized = false
is_void Unsized = false

-- what two pointers as arms lead to: where one of them is a constant 0 cast to `void *`, what the other leads to; else `void`
-- where one of them leads to it (C11 6.5.15p6); else what the first one leads to, a choice of this project where the two differ
abbrev pub led_to : CType → Target → Bool → CType → Target → Bool → CType
led_to first first_target first_null second second_target second_null =
    if first_null && is_void first_target then second
    else (if second_null && is_void second_target then first
    else (if is_void first_target then first
    else (if is_void second_target then second else first)))

-- a pointer as one arm, where the other one is an integer: an integer constant expression 0
abbrev pub beside : CType → Bool → Judgement
beside item null = if null then Typed (PointerType item) else Breaks (Rule 4)

-- the arms: two integers, two pointers, a pointer and an integer constant expression 0, or two voids (C11 6.5.15p3, p5-6)
abbrev pub joined : Kind → Bool → Kind → Bool → Judgement
joined (Integer first) first_null (Integer second) second_null = Typed (type_of_integer (common first second))
joined (Pointer first first_target) first_null (Pointer second second_target) second_null =
    Typed (PointerType (led_to first first_target first_null second second_target second_null))
joined (Pointer item target) first_null (Integer second) second_null = beside item second_null
joined (Integer first) first_null (Pointer item target) second_null = beside item first_null
joined Void first_null Void second_null = Typed VoidType
joined first first_null second second_null = Breaks (Rule 4)

-- the test is a condition (C11 6.5.15p2)
abbrev pub chosen : Operand → Operand → Operand → Judgement
chosen test first second =
    if is_scalar test.kind then joined (decayed first.kind) first.null (decayed second.kind) second.null else Breaks (Rule 4)
