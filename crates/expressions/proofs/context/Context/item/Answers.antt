-- The kind of the type is that of its shape.
use Rattle.std.proofs.Common.{◌≡◌, refl, sym, ap, ◌∙◌, None, Some, arith}
use Rattle.typing.specs.declared.ctypes.shape.Shape.TheVariants.{Array as ArrayShape}
use Rattle.typing.specs.Paths.{item_in}
use Rattle.expressions.proofs.Meanings.{type_meant, kind_meant}
use Rattle.expressions.proofs.OtherShapes.{no_array}
use Rattle.expressions.proofs.context.Context.item.Goals as goal

pub returns-in-Array-clause-is : goal.returns-in-Array-clause-is
returns-in-Array-clause-is c = λ n agrees.
    ap Some (type_meant c.self.view_is c.in-Array.item (omega (arith, c.requires, c.in-Array.ensures.below)) n agrees)
    ∙ sym (ap item_in (kind_meant c.self.view_is c.args.number (ArrayShape c.in-Array.item c.in-Array.field-1) c.requires c.in-Array.ensures.is n agrees))

pub returns-in_default : goal.returns-in_default
returns-in_default c =
    let table = c.self.inside.types in
    record {
      is = λ n agrees.
          sym (ap item_in (kind_meant c.self.view_is c.args.number c.shape.result c.requires c.shape.ensures.is n agrees)
          ∙ no_array (λ kind. item_in kind ≡ None) table.structs table.types (λ t. refl) (λ item target. refl) (λ number. refl) refl c.shape.result c.in_default.not-Array);
      below = tt;
    }
