-- The kind of the type is that of its shape.
use Rattle.std.proofs.Common.{◌≡◌, refl, sym, ap, ◌∙◌, None}
use Rattle.typing.specs.declared.ctypes.shape.Shape.TheVariants.{Array as ArrayShape}
use Rattle.typing.specs.ctypes.Table.{type_at}
use Rattle.typing.specs.ctypes.Kinds.{target_of}
use Rattle.typing.specs.Idiom.{item_bytes}
use Rattle.typing.specs.Nodes.{size_told}
use Rattle.expressions.proofs.Meanings.{kind_meant}
use Rattle.expressions.proofs.Measuring.{item_bytes_now}
use Rattle.expressions.proofs.OtherShapes.{no_array}
use Rattle.expressions.proofs.context.Context.item_bytes.Goals as goal

pub returns-in-Array : goal.returns-in-Array
returns-in-Array c = λ n abi agrees.
    let table = c.self.inside.types in
    let item = type_at table.types c.in-Array.item in
    c.bytes_in.ensures ∙ (ap size_told (c.size.ensures abi)
    ∙ (item_bytes_now c.self.view_is abi item (target_of table.structs item)
    ∙ sym (ap (item_bytes abi c.args.self.now.structs) (kind_meant c.self.view_is c.args.number (ArrayShape c.in-Array.item c.in-Array.field-1) c.requires c.in-Array.ensures.is n agrees))))

pub returns-in_default : goal.returns-in_default
returns-in_default c = λ n abi agrees.
    let table = c.self.inside.types in
    sym (ap (item_bytes abi c.args.self.now.structs) (kind_meant c.self.view_is c.args.number c.shape.result c.requires c.shape.ensures.is n agrees)
    ∙ no_array (λ kind. item_bytes abi c.args.self.now.structs kind ≡ None) table.structs table.types (λ t. refl) (λ item target. refl) (λ number. refl) refl c.shape.result c.in_default.not-Array)
