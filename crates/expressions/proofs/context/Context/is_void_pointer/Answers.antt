-- The kind of the type is that of its shape, and what it leads to is that of the item's.
use Rattle.std.proofs.Common.{◌≡◌, Bool, true, false, refl, sym, ap, ◌∙◌}
use Rattle.std.specs.Prelude.{if◌then◌else◌}
use Rattle.cbase.specs.declared.ctype.CType.{CType}
use Rattle.typing.specs.declared.ctypes.shape.Shape.TheVariants.{Void as VoidShape, Pointer as PointerShape}
use Rattle.typing.specs.ctypes.Table.{type_at}
use Rattle.typing.specs.declared.ctypes.kind.Target.{Target}
use Rattle.typing.specs.declared.ctypes.kind.Target.TheVariants.{Sized, Unsized}
use Rattle.typing.specs.ctypes.Kinds.{Pointer, has_size}
use Rattle.typing.proofs.ctypes.ShapeKinds.{target_is, sized_target_is}
use Rattle.expressions.specs.Pointers.{is_void_pointer}
use Rattle.expressions.proofs.Meanings.{kind_meant}
use Rattle.expressions.proofs.OtherShapes.{no_pointer}
use Rattle.expressions.proofs.context.Context.is_void_pointer.Goals as goal

to_no_void : (item : CType) (sized : Bool) → is_void_pointer (Pointer item (if sized then Sized else Unsized)) ≡ false
to_no_void item true = refl
to_no_void item false = refl

pub returns-in-Void : goal.returns-in-Void
returns-in-Void c = λ n agrees.
    let table = c.self.inside.types in
    let item = type_at table.types c.in-Pointer.item in
    sym (ap is_void_pointer (kind_meant c.self.view_is c.args.number (PointerShape c.in-Pointer.item) c.requires c.in-Pointer.ensures.is n agrees)
    ∙ ap (λ (target : Target). is_void_pointer (Pointer item target)) (sym (target_is table.structs table.types item VoidShape c.in-Void.ensures.is)))

pub returns-in_default-shape : goal.returns-in_default-shape
returns-in_default-shape c = λ n agrees.
    let table = c.self.inside.types in
    let item = type_at table.types c.in-Pointer.item in
    let sized = has_size table.structs item in
    sym (ap is_void_pointer (kind_meant c.self.view_is c.args.number (PointerShape c.in-Pointer.item) c.requires c.in-Pointer.ensures.is n agrees)
    ∙ (ap (λ (target : Target). is_void_pointer (Pointer item target))
    (sym (sized_target_is table.structs table.types item c.shape-in-Pointer.result sized c.shape-in-Pointer.ensures.is c.in_default-shape.not-Void refl))
    ∙ to_no_void item sized))

pub returns-in_default : goal.returns-in_default
returns-in_default c = λ n agrees.
    let table = c.self.inside.types in
    sym (ap is_void_pointer (kind_meant c.self.view_is c.args.number c.shape.result c.requires c.shape.ensures.is n agrees)
    ∙ no_pointer (λ kind. is_void_pointer kind ≡ false) table.structs table.types (λ t. refl) (λ item target. refl) (λ number. refl) refl c.shape.result c.in_default.not-Pointer)
