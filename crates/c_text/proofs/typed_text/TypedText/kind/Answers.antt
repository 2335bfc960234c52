-- The kind of an expression is that of the type that its row has.
use Rattle.std.proofs.Common.{[], List, refl, sym, ap, ◌∙◌}
use Rattle.cbase.specs.declared.ctype.CType.{CType}
use Rattle.cbase.specs.declared.ctype.CType.TheVariants.{Void as VoidType}
use Rattle.typing.specs.declared.ctypes.shape.Shape.TheVariants.{Void as VoidShape}
use Rattle.typing.specs.ctypes.Table.{type_at}
use Rattle.expressions.specs.Context.{Context}
use Rattle.c_machine.specs.Trees.{kind_in}
use Rattle.c_text.specs.Kept.{kept}
use Rattle.c_text.proofs.RowsFound.{type_is, no_type}
use Rattle.c_text.proofs.TypeKinds.{kind_of_type}
use Rattle.c_text.proofs.typed_text.TypedText.kind.Goals as goal

pub returns-in-None : goal.returns-in-None
returns-in-None c = λ n p expr stands same.
    kind_of_type p [] VoidType VoidShape refl
    ∙ ap (λ (t : CType). kept (kind_in p t)) (no_type n c.args.self.now p expr c.args.number stands same (sym c.row.ensures.found ∙ c.in-None.is))

pub returns-in-Some : goal.returns-in-Some
returns-in-Some c = λ n p expr stands same.
    c.type_kind.ensures p (stands.structs ∙ ap (λ (context : Context). context.structs) (sym c.self.view_is) ∙ sym c.types.ensures.structs)
    ∙ ap (λ (types : List CType). kept (kind_in p (type_at types c.in-Some.row.ctype)))
    (c.types.ensures.types ∙ ap (λ (context : Context). context.types) c.self.view_is)
    ∙ ap (λ (t : CType). kept (kind_in p t))
    (type_is n c.args.self.now p expr c.args.number c.in-Some.row stands same c.in-Some.ensures.typed (sym c.row.ensures.found ∙ c.in-Some.is))
