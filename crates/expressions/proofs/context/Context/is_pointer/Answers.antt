-- The kind of the type is that of its shape.
use Rattle.std.proofs.Common.{◌≡◌, false, refl, sym, ap, ◌∙◌}
use Rattle.typing.specs.declared.ctypes.shape.Shape.TheVariants.{Pointer as PointerShape}
use Rattle.expressions.specs.Pointers.{is_pointer}
use Rattle.expressions.proofs.Meanings.{kind_meant}
use Rattle.expressions.proofs.OtherShapes.{no_pointer}
use Rattle.expressions.proofs.context.Context.is_pointer.Goals as goal

pub returns-in-Pointer : goal.returns-in-Pointer
returns-in-Pointer c = λ n agrees.
    sym (ap is_pointer (kind_meant c.self.view_is c.args.number (PointerShape c.in-Pointer.field-0) c.requires c.in-Pointer.ensures.is n agrees))

pub returns-in_default : goal.returns-in_default
returns-in_default c = λ n agrees.
    let table = c.self.inside.types in
    sym (ap is_pointer (kind_meant c.self.view_is c.args.number c.shape.result c.requires c.shape.ensures.is n agrees)
    ∙ no_pointer (λ kind. is_pointer kind ≡ false) table.structs table.types (λ t. refl) (λ item target. refl) (λ number. refl) refl c.shape.result c.in_default.not-Pointer)
