-- What the kind of each type is, in one equation for each.
use Rattle.std.specs.Prelude.{◌≡◌, ℕ, Bool, true, List, if◌then◌else◌}
use Rattle.cbase.specs.declared.ctype.CType.{CType}
use Rattle.cbase.specs.declared.ctype.CType.TheVariants.{Void as VoidType, Bool as BoolType, Int as IntType, Pointer as PointerType, Struct as StructType, Array as ArrayType}
use Rattle.cbase.specs.declared.structs.StructDef.{StructDef}
use Rattle.typing.specs.declared.ctypes.kind.Target.TheVariants.{Void as VoidTarget, Sized, Unsized}
use Rattle.typing.specs.declared.ctypes.found.Broken.TheVariants.{Rule}
use Rattle.typing.specs.ctypes.Broken.{Typed, Breaks}
use Rattle.typing.specs.ctypes.Integers.{integer, truth}
use Rattle.typing.specs.ctypes.Kinds.{Integer, Pointer, Array, Struct, Void, kind_of, target_of, has_size}
use Rattle.typing.specs.ctypes.Unary.{size_type, measured}

-- the kinds of types
pub record AreKinds (structs : List StructDef) : Type 0 where
  pub void : kind_of structs VoidType ≡ Void
  pub bool : kind_of structs BoolType ≡ Integer truth
  pub int : (bytes : ℕ) (signed : Bool) → kind_of structs (IntType bytes signed) ≡ Integer (integer bytes signed)
  pub pointer : (item : CType) → kind_of structs (PointerType item) ≡ Pointer item (target_of structs item)
  pub struct : (number : ℕ) → kind_of structs (StructType number) ≡ Struct number
  pub array : (item : CType) (count : ℕ) → kind_of structs (ArrayType item count) ≡ Array item (target_of structs item)

-- what pointers lead to
pub record AreTargets (structs : List StructDef) : Type 0 where
  pub void : target_of structs VoidType ≡ VoidTarget
  pub pointer : (item : CType) → target_of structs (PointerType item) ≡ (if has_size structs (PointerType item) then Sized else Unsized)
  pub struct : (number : ℕ) → target_of structs (StructType number) ≡ (if has_size structs (StructType number) then Sized else Unsized)
  pub array : (item : CType) (count : ℕ) → target_of structs (ArrayType item count) ≡ (if has_size structs (ArrayType item count) then Sized else Unsized)

-- which types `sizeof` takes
pub record AreMeasured (structs : List StructDef) : Type 0 where
  pub void : measured structs VoidType ≡ Breaks (Rule 3)
  pub bool : measured structs BoolType ≡ Typed size_type
  pub int : measured structs (IntType 4 true) ≡ Typed size_type
  pub pointer : (item : CType) → measured structs (PointerType item) ≡ Typed size_type
