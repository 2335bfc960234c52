-- What operators ask of a type (C11 6.2.5).
use Rattle.std.specs.Prelude.{ℕ, Bool, List, Option, None, Some, is_some, if◌then◌else◌}
use Rattle.cbase.specs.declared.abi.Abi.TheVariants.{Lp64}
use Rattle.cbase.specs.declared.ctype.CType.{CType}
use Rattle.cbase.specs.declared.ctype.CType.TheOpen.{CType-F, Void as VoidOpen, Bool as BoolOpen, Int as IntOpen, Pointer as PointerOpen, Struct as StructOpen, Array as ArrayOpen}
use Rattle.cbase.specs.declared.ctype.CType.TheViews.{out-CType}
use Rattle.cbase.specs.declared.structs.StructDef.{StructDef}
use Rattle.cbase.specs.Layout.{layout_of}
use Rattle.typing.specs.declared.ctypes.kind.IntegerType.{IntegerType}
use Rattle.typing.specs.declared.ctypes.kind.Target.{Target}
use Rattle.typing.specs.declared.ctypes.kind.Target.TheVariants.{Void as VoidTarget, Sized, Unsized}
use Rattle.typing.specs.ctypes.Integers.{integer, truth}

-- a type by what operators ask of it: of a pointer and of an array also whether what it leads to has a size
pub data Kind : Type 0 where
  Integer : IntegerType → Kind
  Pointer : CType → Target → Kind
  Array : CType → Target → Kind
  Struct : ℕ → Kind
  Void : Kind

-- whether a type is complete, whatever the data layout: it has a size (C11 6.2.5p1)
abbrev pub has_size : List StructDef → CType → Bool
has_size structs t = is_some (layout_of Lp64 structs t)

-- what a pointer leads to: `void`, a complete type, or another incomplete one
abbrev pub target_in : CType-F CType → Bool → Target
target_in VoidOpen sized = VoidTarget
target_in BoolOpen sized = if sized then Sized else Unsized
target_in (IntOpen bytes signed) sized = if sized then Sized else Unsized
target_in (PointerOpen item) sized = if sized then Sized else Unsized
target_in (StructOpen number) sized = if sized then Sized else Unsized
target_in (ArrayOpen item count) sized = if sized then Sized else Unsized

abbrev pub target_of : List StructDef → CType → Target
target_of structs t = target_in (out-CType t) (has_size structs t)

-- the kind of a type
abbrev pub kind_in : List StructDef → CType-F CType → Kind
kind_in structs VoidOpen = Void
kind_in structs BoolOpen = Integer truth
kind_in structs (IntOpen bytes signed) = Integer (integer bytes signed)
kind_in structs (PointerOpen item) = Pointer item (target_of structs item)
kind_in structs (StructOpen number) = Struct number
kind_in structs (ArrayOpen item count) = Array item (target_of structs item)

abbrev pub kind_of : List StructDef → CType → Kind
kind_of structs t = kind_in structs (out-CType t)

-- the kind of a value: an array is a pointer to its first item (C11 6.3.2.1p3)
abbrev pub decayed : Kind → Kind
decayed (Integer t) = Integer t
decayed (Pointer item target) = Pointer item target
decayed (Array item target) = Pointer item target
decayed (Struct number) = Struct number
decayed Void = Void

-- the type of integers that a kind is of, if it is of one
abbrev pub integer_in : Kind → Option IntegerType
integer_in (Integer t) = Some t
integer_in (Pointer item target) = None
integer_in (Array item target) = None
integer_in (Struct number) = None
integer_in Void = None
