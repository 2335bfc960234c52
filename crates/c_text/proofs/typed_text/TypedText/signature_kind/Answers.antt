-- The kind of a parameter is that of the type whose number stands in the signature.
use Rattle.std.proofs.Common.{List, ℕ, Option, sym, ap, ◌∙◌, subst}
use Rattle.std.specs.Prelude.{option_map, option_and_then}
use Rattle.cbase.specs.declared.ctype.CType.{CType}
use Rattle.typing.specs.ctypes.Table.{type_at}
use Rattle.expressions.specs.Context.{Context}
use Rattle.expressions.proofs.Growth.{agrees_at}
use Rattle.c_machine.specs.Trees.{kind_in}
use Rattle.c_text.specs.Kept.{kept}
use Rattle.c_text.specs.Stands.{StandsFor}
use Rattle.c_text.proofs.typed_text.TypedText.signature_kind.Goals as goal

pub returns-in-Some : goal.returns-in-Some
returns-in-Some c = λ n p stands.
    let inside = subst (λ (context : Context). StandsFor n context p) (sym c.self.view_is) stands in
    c.type_kind.ensures p (inside.structs ∙ sym c.types.ensures.structs)
    ∙ ap (λ (types : List CType). kept (kind_in p (type_at types c.in-Some.ctype))) (c.types.ensures.types ∙ ap (λ (context : Context). context.types) c.self.view_is)
    ∙ ap (λ (t : CType). kept (kind_in p t)) (sym (agrees_at n c.args.self.now c.in-Some.ctype stands.agrees c.in-Some.ensures.below))
    ∙ ap (λ (found : Option ℕ). option_and_then (λ (t : CType). kept (kind_in p t)) (option_map n.ctype found)) (sym c.in-Some.is)
    ∙ ap (option_and_then (λ (t : CType). kept (kind_in p t))) (c.parameter.ensures.is n stands.agrees)
