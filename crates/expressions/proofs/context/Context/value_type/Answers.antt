-- The kind of the type is that of its shape.
use Rattle.std.proofs.Common.{◌≡◌, refl, sym, ap, ◌∙◌, arith}
use Rattle.cbase.specs.declared.ctype.CType.TheVariants.{Pointer}
use Rattle.typing.specs.declared.ctypes.shape.Shape.TheVariants.{Array as ArrayShape}
use Rattle.typing.specs.ctypes.Kinds.{Kind, kind_of}
use Rattle.typing.specs.Known.{value_type}
use Rattle.expressions.proofs.Interning.{numbers_as, numbers_here}
use Rattle.expressions.proofs.Meanings.{type_meant, kind_meant}
use Rattle.expressions.proofs.OtherShapes.{no_array}
use Rattle.expressions.proofs.context.Context.value_type.Goals as goal

pub returns-in-Array : goal.returns-in-Array
returns-in-Array c =
    let now = c.args.self.now in
    numbers_as now c.pointer_to.new.self (λ n. Pointer (n.ctype c.in-Array.item)) (λ n. value_type (kind_of now.structs (n.ctype c.args.number)) (n.ctype c.args.number))
    (λ n agrees.
    ap Pointer (type_meant c.self.view_is c.in-Array.item (omega (arith, c.requires, c.in-Array.ensures.below)) n agrees)
    ∙ sym (ap (λ (kind : Kind). value_type kind (n.ctype c.args.number)) (kind_meant c.self.view_is c.args.number (ArrayShape c.in-Array.item c.in-Array.field-1) c.requires c.in-Array.ensures.is n agrees)))
    c.pointer_to.result c.pointer_to.ensures

pub returns-in_default : goal.returns-in_default
returns-in_default c =
    let table = c.self.inside.types in
    numbers_here c.args.self.now _ c.args.number c.requires
    (λ n agrees.
    sym (ap (λ (kind : Kind). value_type kind (n.ctype c.args.number)) (kind_meant c.self.view_is c.args.number c.shape.result c.requires c.shape.ensures.is n agrees)
    ∙ no_array (λ kind. value_type kind (n.ctype c.args.number) ≡ n.ctype c.args.number) table.structs table.types
    (λ t. refl) (λ item target. refl) (λ number. refl) refl c.shape.result c.in_default.not-Array))
