-- The kind of the type is that of its shape.
use Rattle.std.proofs.Common.{◌≡◌, refl, sym, ap, ◌∙◌, None}
use Rattle.typing.specs.declared.ctypes.shape.Shape.TheVariants.{Struct as StructShape}
use Rattle.typing.specs.ctypes.Kinds.{Kind}
use Rattle.typing.specs.Idiom.{offset_in_struct}
use Rattle.expressions.proofs.Meanings.{kind_meant}
use Rattle.expressions.proofs.OtherShapes.{no_struct}
use Rattle.expressions.proofs.context.Context.member_offset.Goals as goal

pub returns-in-Struct : goal.returns-in-Struct
returns-in-Struct c = λ n abi agrees.
    c.offset_in_struct.ensures abi
    ∙ sym (ap (λ (kind : Kind). offset_in_struct abi c.args.self.now.structs kind c.args.name.now) (kind_meant c.self.view_is c.args.number (StructShape c.in-Struct.of) c.requires c.in-Struct.ensures.is n agrees))

pub returns-in_default : goal.returns-in_default
returns-in_default c = λ n abi agrees.
    let table = c.self.inside.types in
    sym (ap (λ (kind : Kind). offset_in_struct abi c.args.self.now.structs kind c.args.name.now) (kind_meant c.self.view_is c.args.number c.shape.result c.requires c.shape.ensures.is n agrees)
    ∙ no_struct (λ kind. offset_in_struct abi c.args.self.now.structs kind c.args.name.now ≡ None) table.structs table.types (λ t. refl) (λ item target. refl) (λ item target. refl) refl c.shape.result c.in_default.not-Struct)
