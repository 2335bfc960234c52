-- The kind of a type that is made from its parts.
use Rattle.std.proofs.Common.{◌≡◌, Bool, List, refl, sym, ap, ◌∙◌, if◌then◌else◌}
use Rattle.cbase.specs.declared.ctype.CType.{CType}
use Rattle.cbase.specs.declared.ctype.CType.TheVariants.{Void as VoidType, Pointer as PointerType, Struct as StructType, Array as ArrayType}
use Rattle.cbase.specs.declared.ctype.CType.TheViews.{out-CType, outs-Void, outs-Bool, outs-Int, outs-Pointer, outs-Struct, outs-Array}
use Rattle.cbase.specs.declared.structs.StructDef.{StructDef}
use Rattle.typing.specs.declared.ctypes.shape.Shape.{Shape}
use Rattle.typing.specs.declared.ctypes.shape.Shape.TheVariants.{Void as VoidShape, Bool as BoolShape, Int as IntShape, Pointer as PointerShape, Struct as StructShape, Array as ArrayShape}
use Rattle.typing.specs.ctypes.Table.{type_at, type_of}
use Rattle.typing.specs.declared.ctypes.kind.Target.{Target}
use Rattle.typing.specs.declared.ctypes.kind.Target.TheVariants.{Void as VoidTarget, Sized, Unsized}
use Rattle.typing.specs.ctypes.Integers.{integer, truth}
use Rattle.typing.specs.ctypes.Kinds.{Kind, Integer, Pointer, Array, Struct, Void, has_size, target_in, target_of, kind_in, kind_of}
use Rattle.typing.specs.ctypes.Laws.{AreKinds, AreTargets}

-- the kind of a shape's type
abbrev pub kind_of_shape : List StructDef → List CType → Shape → Kind
kind_of_shape structs types VoidShape = Void
kind_of_shape structs types BoolShape = Integer truth
kind_of_shape structs types (IntShape bytes signed) = Integer (integer bytes signed)
kind_of_shape structs types (PointerShape item) = Pointer (type_at types item) (target_of structs (type_at types item))
kind_of_shape structs types (StructShape number) = Struct number
kind_of_shape structs types (ArrayShape item count) = Array (type_at types item) (target_of structs (type_at types item))

pub kind_of-type : (structs : List StructDef) (types : List CType) (shape : Shape) → kind_of structs (type_of types shape) ≡ kind_of_shape structs types shape
kind_of-type structs types VoidShape = ap (kind_in structs) outs-Void
kind_of-type structs types BoolShape = ap (kind_in structs) outs-Bool
kind_of-type structs types (IntShape bytes signed) = ap (kind_in structs) (outs-Int bytes signed)
kind_of-type structs types (PointerShape item) = ap (kind_in structs) (outs-Pointer (type_at types item))
kind_of-type structs types (StructShape number) = ap (kind_in structs) (outs-Struct number)
kind_of-type structs types (ArrayShape item count) = ap (kind_in structs) (outs-Array (type_at types item) count)

pub kind_is : (structs : List StructDef) (types : List CType) (t : CType) (shape : Shape) → t ≡ type_of types shape → kind_of_shape structs types shape ≡ kind_of structs t
kind_is structs types t shape e = sym (ap (kind_of structs) e ∙ kind_of-type structs types shape)

-- what a pointer to a shape's type leads to
abbrev pub target_of_shape : Shape → Bool → Target
target_of_shape VoidShape sized = VoidTarget
target_of_shape BoolShape sized = if sized then Sized else Unsized
target_of_shape (IntShape bytes signed) sized = if sized then Sized else Unsized
target_of_shape (PointerShape item) sized = if sized then Sized else Unsized
target_of_shape (StructShape number) sized = if sized then Sized else Unsized
target_of_shape (ArrayShape item count) sized = if sized then Sized else Unsized

target_in-type : (types : List CType) (shape : Shape) (sized : Bool) → target_in (out-CType (type_of types shape)) sized ≡ target_of_shape shape sized
target_in-type types VoidShape sized = ap (λ o. target_in o sized) outs-Void
target_in-type types BoolShape sized = ap (λ o. target_in o sized) outs-Bool
target_in-type types (IntShape bytes signed) sized = ap (λ o. target_in o sized) (outs-Int bytes signed)
target_in-type types (PointerShape item) sized = ap (λ o. target_in o sized) (outs-Pointer (type_at types item))
target_in-type types (StructShape number) sized = ap (λ o. target_in o sized) (outs-Struct number)
target_in-type types (ArrayShape item count) sized = ap (λ o. target_in o sized) (outs-Array (type_at types item) count)

pub target_is : (structs : List StructDef) (types : List CType) (t : CType) (shape : Shape) → t ≡ type_of types shape → target_of_shape shape (has_size structs t) ≡ target_of structs t
target_is structs types t shape e = sym (ap (λ u. target_in (out-CType u) (has_size structs t)) e ∙ target_in-type types shape (has_size structs t))

-- what a pointer to a type other than `void` leads to
sized_target : (shape : Shape) (sized : Bool) → (shape ≡ VoidShape → ⊥) → (if sized then Sized else Unsized) ≡ target_of_shape shape sized
sized_target VoidShape sized other = absurd (other refl)
sized_target BoolShape sized other = refl
sized_target (IntShape bytes signed) sized other = refl
sized_target (PointerShape item) sized other = refl
sized_target (StructShape number) sized other = refl
sized_target (ArrayShape item count) sized other = refl

pub sized_target_is : (structs : List StructDef) (types : List CType) (t : CType) (shape : Shape) (sized : Bool) → t ≡ type_of types shape → (shape ≡ VoidShape → ⊥)
    → sized ≡ has_size structs t → (if sized then Sized else Unsized) ≡ target_of structs t
sized_target_is structs types t shape sized e other same =
    sized_target shape sized other ∙ (ap (target_of_shape shape) same ∙ target_is structs types t shape e)

-- each form of types
pub are_kinds : (structs : List StructDef) → AreKinds structs
are_kinds structs = record {
  void = ap (kind_in structs) outs-Void;
  bool = ap (kind_in structs) outs-Bool;
  int = λ bytes signed. ap (kind_in structs) (outs-Int bytes signed);
  pointer = λ item. ap (kind_in structs) (outs-Pointer item);
  struct = λ number. ap (kind_in structs) (outs-Struct number);
  array = λ item count. ap (kind_in structs) (outs-Array item count);
}

pub are_targets : (structs : List StructDef) → AreTargets structs
are_targets structs = record {
  void = ap (λ o. target_in o (has_size structs VoidType)) outs-Void;
  pointer = λ item. ap (λ o. target_in o (has_size structs (PointerType item))) (outs-Pointer item);
  struct = λ number. ap (λ o. target_in o (has_size structs (StructType number))) (outs-Struct number);
  array = λ item count. ap (λ o. target_in o (has_size structs (ArrayType item count))) (outs-Array item count);
}
