-- What is broken at a binary operator is a construct or rule 4.
use Rattle.std.proofs.Common.{◌≤◌, Bool, true, false, ◌&&◌, arith, if◌then◌else◌}
use Rattle.cbase.specs.declared.ctype.CType.{CType}
use Rattle.typing.specs.declared.ctypes.binary.Group.{Group}
use Rattle.typing.specs.declared.ctypes.binary.Group.TheVariants.{Arithmetic, Shift, Sum, Difference, Order, Equality, Logic, Sequence}
use Rattle.typing.specs.declared.ctypes.found.Broken.TheVariants.{Rule}
use Rattle.typing.specs.declared.ctypes.kind.Target.{Target}
use Rattle.typing.specs.declared.ctypes.kind.Target.TheVariants.{Void as VoidTarget, Sized, Unsized}
use Rattle.typing.specs.ctypes.Binary.{arithmetic, shifted, moved, added, subtracted, ordered, equated, is_scalar, sequenced, operated, int_type}
use Rattle.typing.specs.ctypes.Broken.{Typed, Breaks, IsFoundBy}
use Rattle.typing.specs.ctypes.Kinds.{Kind, Integer, Pointer, Array, Struct, Void, decayed}
use Rattle.typing.specs.ctypes.Operands.{Operand}

four : 4 ≤ 4
four = omega arith

early_arithmetic : (left right : Kind) → IsFoundBy (Rule 4) (arithmetic left right)
early_arithmetic (Integer l) (Integer r) = tt
early_arithmetic left right = four

early_shifted : (left right : Kind) → IsFoundBy (Rule 4) (shifted left right)
early_shifted (Integer l) (Integer r) = tt
early_shifted left right = four

early_moved : (item : CType) (target : Target) → IsFoundBy (Rule 4) (moved item target)
early_moved item VoidTarget = tt
early_moved item Sized = tt
early_moved item Unsized = four

early_added : (left right : Kind) → IsFoundBy (Rule 4) (added left right)
early_added (Integer l) (Integer r) = tt
early_added (Pointer item target) (Integer r) = early_moved item target
early_added (Integer l) (Pointer item target) = early_moved item target
early_added left right = four

early_subtracted : (left right : Kind) → IsFoundBy (Rule 4) (subtracted left right)
early_subtracted (Integer l) (Integer r) = tt
early_subtracted (Pointer item target) (Integer r) = early_moved item target
early_subtracted (Pointer item target) (Pointer other other_target) = tt
early_subtracted left right = four

early_ordered : (left right : Kind) → IsFoundBy (Rule 4) (ordered left right)
early_ordered (Integer l) (Integer r) = tt
early_ordered (Pointer item target) (Pointer other other_target) = tt
early_ordered left right = four

early_if : (holds : Bool) (t : CType) → IsFoundBy (Rule 4) (if holds then Typed t else Breaks (Rule 4))
early_if true t = tt
early_if false t = four

early_equated : (left : Kind) (left_null : Bool) (right : Kind) (right_null : Bool) → IsFoundBy (Rule 4) (equated left left_null right right_null)
early_equated (Integer l) left_null (Integer r) right_null = tt
early_equated (Pointer item target) left_null (Pointer other other_target) right_null = tt
early_equated (Pointer item target) left_null (Integer r) right_null = early_if right_null int_type
early_equated (Integer l) left_null (Pointer item target) right_null = early_if left_null int_type
early_equated left left_null right right_null = four

early_sequenced : (left right : Kind) (t : CType) → IsFoundBy (Rule 4) (sequenced left right t)
early_sequenced (Struct number) right t = four
early_sequenced (Integer l) (Struct number) t = four
early_sequenced (Pointer item target) (Struct number) t = four
early_sequenced (Array item target) (Struct number) t = four
early_sequenced Void (Struct number) t = four
early_sequenced left right t = tt

pub operated_early : (group : Group) (left right : Operand) → IsFoundBy (Rule 4) (operated group left right)
operated_early Arithmetic left right = early_arithmetic (decayed left.kind) (decayed right.kind)
operated_early Shift left right = early_shifted (decayed left.kind) (decayed right.kind)
operated_early Sum left right = early_added (decayed left.kind) (decayed right.kind)
operated_early Difference left right = early_subtracted (decayed left.kind) (decayed right.kind)
operated_early Order left right = early_ordered (decayed left.kind) (decayed right.kind)
operated_early Equality left right = early_equated (decayed left.kind) left.null (decayed right.kind) right.null
operated_early Logic left right = early_if (is_scalar left.kind && is_scalar right.kind) int_type
operated_early Sequence left right = early_sequenced left.kind right.kind right.ctype
