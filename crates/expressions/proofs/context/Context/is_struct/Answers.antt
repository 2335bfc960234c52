-- The kind of the type is that of its shape.
use Rattle.std.proofs.Common.{◌≡◌, false, refl, sym, ap, ◌∙◌}
use Rattle.typing.specs.declared.ctypes.shape.Shape.TheVariants.{Struct as StructShape}
use Rattle.typing.specs.Calls.{is_struct}
use Rattle.expressions.proofs.Meanings.{kind_meant}
use Rattle.expressions.proofs.OtherShapes.{no_struct}
use Rattle.expressions.proofs.context.Context.is_struct.Goals as goal

pub returns-in-Struct : goal.returns-in-Struct
returns-in-Struct c = λ n agrees.
    sym (ap is_struct (kind_meant c.self.view_is c.args.number (StructShape c.in-Struct.field-0) c.requires c.in-Struct.ensures.is n agrees))

pub returns-in_default : goal.returns-in_default
returns-in_default c = λ n agrees.
    let table = c.self.inside.types in
    sym (ap is_struct (kind_meant c.self.view_is c.args.number c.shape.result c.requires c.shape.ensures.is n agrees)
    ∙ no_struct (λ kind. is_struct kind ≡ false) table.structs table.types (λ t. refl) (λ item target. refl) (λ item target. refl) refl c.shape.result c.in_default.not-Struct)
