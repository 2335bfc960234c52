-- What the machine asks of a type, by its shape.
use Rattle.std.proofs.Common.{◌≡◌, ℕ, Bool, true, false, List, Option, None, Some, refl, sym, ap, ◌∙◌, if◌then◌else◌}
use Rattle.std.specs.Prelude.{nat_le}
use Rattle.std.specs.Option.{option_map_or}
use Rattle.cbase.specs.declared.ctype.CType.{CType}
use Rattle.cbase.specs.declared.layout.Layout.{Layout}
use Rattle.cbase.specs.declared.measure.Extent.{Extent}
use Rattle.cbase.specs.declared.measure.Extent.TheVariants.{Bytes, TooLarge}
use Rattle.cbase.specs.declared.structs.StructDef.{StructDef}
use Rattle.cbase.specs.Layout.{layout_of, extent_of}
use Rattle.typing.specs.declared.ctypes.shape.Shape.{Shape}
use Rattle.typing.specs.declared.ctypes.shape.Shape.TheVariants.{Void as VoidShape, Bool as BoolShape, Int as IntShape, Pointer as PointerShape, Struct as StructShape, Array as ArrayShape}
use Rattle.typing.specs.ctypes.Table.{type_of}
use Rattle.typing.specs.declared.ctypes.kind.Target.{Target}
use Rattle.typing.specs.declared.ctypes.kind.Target.TheVariants.{Sized, Unsized}
use Rattle.typing.specs.ctypes.Kinds.{target_of, has_size}
use Rattle.typing.proofs.ctypes.ShapeKinds.{kind_of_shape, kind_is, target_of_shape, target_is}
use Rattle.typing.specs.Idiom.{at_most}
use Rattle.typing.specs.Initialisers.{bytes_of}
use Rattle.c_machine.specs.Program.{Program, size_of}
use Rattle.c_machine.specs.Trees.{step_of, kind_as, kind_in}
use Rattle.c_text.specs.Kept.{kept, bytes_told}

-- how many bytes a type has
told : (layout : Option Layout) → bytes_told (extent_of layout) ≡ at_most (option_map_or (λ (found : Layout). found.size) layout 0)
told None = refl
told (Some layout) = at (nat_le layout.size 65536) layout.size
  where
    at : (fits : Bool) (size : ℕ) → bytes_told (if fits then Bytes size else TooLarge) ≡ (if fits then Some size else None)
    at true size = refl
    at false size = refl

pub bytes_are : (p : Program) (structs : List StructDef) (t : CType) (extent : Extent) → p.structs ≡ structs → extent ≡ extent_of (layout_of p.abi structs t) →
    bytes_told extent ≡ at_most (size_of p t)
bytes_are p structs t extent same is =
    ap bytes_told is ∙ told (layout_of p.abi structs t) ∙ ap (λ (s : List StructDef). at_most (bytes_of p.abi s t)) (sym same)

-- in how many bytes a pointer to a type counts
pub void_step : (p : Program) (types : List CType) (t : CType) → t ≡ type_of types VoidShape → Some 1 ≡ at_most (step_of p t (target_of p.structs t))
void_step p types t is = ap (λ (target : Target). at_most (step_of p t target)) (target_is p.structs types t VoidShape is)

sized_step : (p : Program) (t : CType) (sized : Bool) → size_of p t ≡ step_of p t (if sized then Sized else Unsized)
sized_step p t true = refl
sized_step p t false = refl

shape_step : (p : Program) (t : CType) (shape : Shape) (sized : Bool) → (shape ≡ VoidShape → ⊥) → size_of p t ≡ step_of p t (target_of_shape shape sized)
shape_step p t VoidShape sized other = absurd (other refl)
shape_step p t BoolShape sized other = sized_step p t sized
shape_step p t (IntShape bytes signed) sized other = sized_step p t sized
shape_step p t (PointerShape item) sized other = sized_step p t sized
shape_step p t (StructShape number) sized other = sized_step p t sized
shape_step p t (ArrayShape item count) sized other = sized_step p t sized

pub other_step : (p : Program) (types : List CType) (t : CType) (shape : Shape) → t ≡ type_of types shape → (shape ≡ VoidShape → ⊥) →
    size_of p t ≡ step_of p t (target_of p.structs t)
other_step p types t shape is other =
    shape_step p t shape (has_size p.structs t) other ∙ ap (step_of p t) (target_is p.structs types t shape is)

-- the type of a shape
pub kind_of_type : (p : Program) (types : List CType) (t : CType) (shape : Shape) → t ≡ type_of types shape →
    kept (kind_as p t (kind_of_shape p.structs types shape)) ≡ kept (kind_in p t)
kind_of_type p types t shape is = ap (λ kind. kept (kind_as p t kind)) (kind_is p.structs types t shape is)
