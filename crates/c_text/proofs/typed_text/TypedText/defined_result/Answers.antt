-- The result is that of the first row of the function.
use Rattle.std.proofs.Common.{List, [], None, Some, refl, sym, ap, ◌∙◌, subst}
use Rattle.cbase.specs.declared.ctype.CType.{CType}
use Rattle.cbase.specs.declared.ctype.CType.TheVariants.{Void as VoidType}
use Rattle.typing.specs.declared.ctypes.shape.Shape.TheVariants.{Void as VoidShape}
use Rattle.typing.specs.ctypes.Table.{type_at}
use Rattle.expressions.specs.Context.{Context}
use Rattle.expressions.proofs.Growth.{agrees_at}
use Rattle.c_machine.specs.Trees.{kind_in}
use Rattle.c_text.specs.Kept.{kept}
use Rattle.c_text.specs.Stands.{StandsFor}
use Rattle.c_text.proofs.TypeKinds.{kind_of_type}
use Rattle.c_text.proofs.ResultsFound.{result_is}
use Rattle.c_text.proofs.typed_text.TypedText.defined_result.Goals as goal

pub returns-in-None : goal.returns-in-None
returns-in-None c = λ n p stands.
    kind_of_type p [] VoidType VoidShape refl
    ∙ ap (λ (t : CType). kept (kind_in p t)) (result_is n c.args.self.now p c.args.token None stands (sym c.result_row.ensures.is ∙ c.in-None.is))

pub returns-in-Some : goal.returns-in-Some
returns-in-Some c = λ n p stands.
    let inside = subst (λ (context : Context). StandsFor n context p) (sym c.self.view_is) stands in
    c.type_kind.ensures p (inside.structs ∙ sym c.types.ensures.structs)
    ∙ ap (λ (types : List CType). kept (kind_in p (type_at types c.in-Some.ctype))) (c.types.ensures.types ∙ ap (λ (context : Context). context.types) c.self.view_is)
    ∙ ap (λ (t : CType). kept (kind_in p t))
    (sym (agrees_at n c.args.self.now c.in-Some.ctype stands.agrees c.in-Some.ensures.typed)
    ∙ result_is n c.args.self.now p c.args.token (Some c.in-Some.ctype) stands (sym c.result_row.ensures.is ∙ c.in-Some.is))
