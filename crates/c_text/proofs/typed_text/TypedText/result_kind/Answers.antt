-- The kind of a result is that of the type whose number stands in the signature.
use Rattle.std.proofs.Common.{List, sym, ap, ◌∙◌, subst}
use Rattle.cbase.specs.declared.ctype.CType.{CType}
use Rattle.typing.specs.ctypes.Table.{type_at}
use Rattle.expressions.specs.Context.{Context}
use Rattle.expressions.proofs.Growth.{agrees_at}
use Rattle.c_machine.specs.Trees.{kind_in}
use Rattle.c_text.specs.Kept.{kept}
use Rattle.c_text.specs.Stands.{StandsFor}
use Rattle.c_text.proofs.typed_text.TypedText.result_kind.Goals as goal

pub returns : goal.returns
returns c = λ n p stands.
    let inside = subst (λ (context : Context). StandsFor n context p) (sym c.self.view_is) stands in
    c.type_kind.ensures p (inside.structs ∙ sym c.types.ensures.structs)
    ∙ ap (λ (types : List CType). kept (kind_in p (type_at types c.result_of.result))) c.types.ensures.types
    ∙ ap (λ (t : CType). kept (kind_in p t))
    (sym (agrees_at n c.self.inside.context c.result_of.result inside.agrees c.result_of.ensures.below) ∙ c.result_of.ensures.is n inside.agrees)
