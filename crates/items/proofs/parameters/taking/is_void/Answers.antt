-- The kind of the type is that of its shape.
use Rattle.std.proofs.Common.{◌≡◌, List, false, refl, sym, ap, ◌∙◌}
use Rattle.cbase.specs.declared.ctype.CType.{CType}
use Rattle.cbase.specs.declared.structs.StructDef.{StructDef}
use Rattle.typing.specs.declared.ctypes.shape.Shape.{Shape}
use Rattle.typing.specs.declared.ctypes.shape.Shape.TheVariants.{Void as VoidShape, Bool as BoolShape, Int as IntShape, Pointer as PointerShape, Struct as StructShape, Array as ArrayShape}
use Rattle.typing.proofs.ctypes.ShapeKinds.{kind_of_shape}
use Rattle.typing.specs.Statements.{is_void}
use Rattle.expressions.proofs.Meanings.{kind_meant}
use Rattle.items.proofs.parameters.taking.is_void.Goals as goal

no_void : (structs : List StructDef) (types : List CType) (shape : Shape) → (shape ≡ VoidShape → ⊥) → is_void (kind_of_shape structs types shape) ≡ false
no_void structs types VoidShape not = absurd (not refl)
no_void structs types BoolShape not = refl
no_void structs types (IntShape bytes signed) not = refl
no_void structs types (PointerShape item) not = refl
no_void structs types (StructShape number) not = refl
no_void structs types (ArrayShape item count) not = refl

pub returns-in-Void : goal.returns-in-Void
returns-in-Void c = λ n agrees.
    let now = c.args.context.now in
    sym (ap is_void (kind_meant {view = now} {now = now} refl c.args.number VoidShape c.requires c.in-Void.ensures.is n agrees))

pub returns-in_default : goal.returns-in_default
returns-in_default c = λ n agrees.
    let now = c.args.context.now in
    sym (ap is_void (kind_meant {view = now} {now = now} refl c.args.number c.shape.result c.requires c.shape.ensures.is n agrees)
    ∙ no_void now.structs now.types c.shape.result c.in_default.not-Void)
