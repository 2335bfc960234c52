-- The kind of the type is that of its shape.
use Rattle.std.proofs.Common.{◌≡◌, ◌⊎◌, ℕ, ◌<◌, List, refl, sym, ap, ◌∙◌, None, arith, inl, inr}
use Rattle.cbase.specs.declared.abi.Abi.{Abi}
use Rattle.cbase.specs.declared.ctype.CType.{CType}
use Rattle.cbase.specs.declared.structs.StructDef.{StructDef}
use Rattle.typing.specs.declared.ctypes.shape.Shape.{Shape}
use Rattle.typing.specs.declared.ctypes.shape.Shape.TheVariants.{Pointer as PointerShape, Array as ArrayShape}
use Rattle.typing.specs.ctypes.Table.{type_at, NamesBelow}
use Rattle.typing.specs.ctypes.Kinds.{Kind}
use Rattle.typing.proofs.ctypes.ShapeKinds.{kind_of_shape}
use Rattle.typing.specs.Idiom.{member_offset}
use Rattle.typing.specs.Nodes.{pointed_offset}
use Rattle.expressions.proofs.Meanings.{type_meant, kind_meant}
use Rattle.expressions.proofs.OtherShapes.{no_way}
use Rattle.expressions.proofs.context.Context.pointed_offset.Goals as goal

-- what a pointer, or an array, leads to
leads_to : (abi : Abi) (now structs : List StructDef) (types : List CType) (name : List ℕ) (shape : Shape) (item : ℕ) → (shape ≡ PointerShape item) ⊎ ((count : ℕ) × shape ≡ ArrayShape item count)
    → pointed_offset abi now (kind_of_shape structs types shape) name ≡ member_offset abi now (type_at types item) name
leads_to abi now structs types name shape item (inl is) = ap (λ (one : Shape). pointed_offset abi now (kind_of_shape structs types one) name) is
leads_to abi now structs types name shape item (inr is) = ap (λ (one : Shape). pointed_offset abi now (kind_of_shape structs types one) name) is.1

inside : (number : ℕ) (shape : Shape) (item : ℕ) → (shape ≡ PointerShape item) ⊎ ((count : ℕ) × shape ≡ ArrayShape item count) → NamesBelow number shape → item < number
inside number shape item (inl is) below = rw is at below
inside number shape item (inr is) below =
    let same : shape ≡ ArrayShape item is.0 = is.1 in
    rw same at below

pub returns-in-Pointer : goal.returns-in-Pointer
returns-in-Pointer c = λ n abi agrees.
    let below : c.in-Pointer.item < c.args.number = inside c.args.number c.shape.result c.in-Pointer.item c.in-Pointer.is c.shape.ensures.below in
    c.member_offset.ensures n abi agrees
    ∙ (ap (λ t. member_offset abi c.args.self.now.structs t c.args.name.now) (type_meant c.self.view_is c.in-Pointer.item (omega (arith, below, c.requires)) n agrees)
    ∙ (sym (leads_to abi c.args.self.now.structs c.self.inside.types.structs c.self.inside.types.types c.args.name.now c.shape.result c.in-Pointer.item c.in-Pointer.is)
    ∙ sym (ap (λ (kind : Kind). pointed_offset abi c.args.self.now.structs kind c.args.name.now) (kind_meant c.self.view_is c.args.number c.shape.result c.requires c.shape.ensures.is n agrees))))

pub returns-in_default : goal.returns-in_default
returns-in_default c = λ n abi agrees.
    let table = c.self.inside.types in
    sym (ap (λ (kind : Kind). pointed_offset abi c.args.self.now.structs kind c.args.name.now) (kind_meant c.self.view_is c.args.number c.shape.result c.requires c.shape.ensures.is n agrees)
    ∙ no_way (λ kind. pointed_offset abi c.args.self.now.structs kind c.args.name.now ≡ None) table.structs table.types (λ t. refl) (λ number. refl) refl c.shape.result c.in_default.not-Pointer c.in_default.not-Array)
