-- What holds of the kinds of all shapes but some.
use Rattle.std.proofs.Common.{◌≡◌, ℕ, List, refl}
use Rattle.cbase.specs.declared.ctype.CType.{CType}
use Rattle.cbase.specs.declared.structs.StructDef.{StructDef}
use Rattle.typing.specs.declared.ctypes.shape.Shape.{Shape}
use Rattle.typing.specs.declared.ctypes.shape.Shape.TheVariants.{Void as VoidShape, Bool as BoolShape, Int as IntShape, Pointer as PointerShape, Struct as StructShape, Array as ArrayShape}
use Rattle.typing.specs.ctypes.Table.{type_at}
use Rattle.typing.specs.declared.ctypes.kind.IntegerType.{IntegerType}
use Rattle.typing.specs.declared.ctypes.kind.Target.{Target}
use Rattle.typing.specs.ctypes.Integers.{integer, truth}
use Rattle.typing.specs.ctypes.Kinds.{Kind, Integer, Pointer, Array, Struct, Void, target_of}
use Rattle.typing.proofs.ctypes.ShapeKinds.{kind_of_shape}

module _ (P : Kind → Type 0) (structs : List StructDef) (types : List CType) where
  pub no_array : ((t : IntegerType) → P (Integer t)) → ((item : CType) (target : Target) → P (Pointer item target)) → ((number : ℕ) → P (Struct number)) → P Void
      → (shape : Shape) → ((item count : ℕ) → shape ≡ ArrayShape item count → ⊥) → P (kind_of_shape structs types shape)
  no_array integers pointers structures void VoidShape not = void
  no_array integers pointers structures void BoolShape not = integers truth
  no_array integers pointers structures void (IntShape bytes signed) not = integers (integer bytes signed)
  no_array integers pointers structures void (PointerShape item) not = pointers (type_at types item) (target_of structs (type_at types item))
  no_array integers pointers structures void (StructShape number) not = structures number
  no_array integers pointers structures void (ArrayShape item count) not = absurd (not item count refl)

  pub no_struct : ((t : IntegerType) → P (Integer t)) → ((item : CType) (target : Target) → P (Pointer item target)) → ((item : CType) (target : Target) → P (Array item target)) → P Void
      → (shape : Shape) → ((number : ℕ) → shape ≡ StructShape number → ⊥) → P (kind_of_shape structs types shape)
  no_struct integers pointers arrays void VoidShape not = void
  no_struct integers pointers arrays void BoolShape not = integers truth
  no_struct integers pointers arrays void (IntShape bytes signed) not = integers (integer bytes signed)
  no_struct integers pointers arrays void (PointerShape item) not = pointers (type_at types item) (target_of structs (type_at types item))
  no_struct integers pointers arrays void (StructShape number) not = absurd (not number refl)
  no_struct integers pointers arrays void (ArrayShape item count) not = arrays (type_at types item) (target_of structs (type_at types item))

  pub no_pointer : ((t : IntegerType) → P (Integer t)) → ((item : CType) (target : Target) → P (Array item target)) → ((number : ℕ) → P (Struct number)) → P Void
      → (shape : Shape) → ((item : ℕ) → shape ≡ PointerShape item → ⊥) → P (kind_of_shape structs types shape)
  no_pointer integers arrays structures void VoidShape not = void
  no_pointer integers arrays structures void BoolShape not = integers truth
  no_pointer integers arrays structures void (IntShape bytes signed) not = integers (integer bytes signed)
  no_pointer integers arrays structures void (PointerShape item) not = absurd (not item refl)
  no_pointer integers arrays structures void (StructShape number) not = structures number
  no_pointer integers arrays structures void (ArrayShape item count) not = arrays (type_at types item) (target_of structs (type_at types item))

  -- of those that lead nowhere
  pub no_way : ((t : IntegerType) → P (Integer t)) → ((number : ℕ) → P (Struct number)) → P Void
      → (shape : Shape) → ((item : ℕ) → shape ≡ PointerShape item → ⊥) → ((item count : ℕ) → shape ≡ ArrayShape item count → ⊥) → P (kind_of_shape structs types shape)
  no_way integers structures void VoidShape not not_array = void
  no_way integers structures void BoolShape not not_array = integers truth
  no_way integers structures void (IntShape bytes signed) not not_array = integers (integer bytes signed)
  no_way integers structures void (PointerShape item) not not_array = absurd (not item refl)
  no_way integers structures void (StructShape number) not not_array = structures number
  no_way integers structures void (ArrayShape item count) not not_array = absurd (not_array item count refl)
