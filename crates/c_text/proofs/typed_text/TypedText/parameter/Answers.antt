-- A parameter stands in the signature.
use Rattle.std.proofs.Common.{ℕ, List, slice_get, sym, ap, ◌∙◌, subst}
use Rattle.std.specs.Prelude.{option_map}
use Rattle.expressions.specs.Context.{Context, Agrees}
use Rattle.c_text.proofs.NamesStand.{parameter_is}
use Rattle.c_text.proofs.typed_text.TypedText.parameter.Goals as goal

pub returns-clause-is : goal.returns-clause-is
returns-clause-is c = λ n agrees.
    ap (option_map n.ctype) c.number_at.ensures.is
    ∙ ap (λ (numbers : List ℕ). option_map n.ctype (slice_get numbers c.args.index)) c.as_slice.ensures
    ∙ parameter_is n c.self.inside.context c.args.signature c.args.index c.signature.result.now
    (subst (λ (context : Context). Agrees n context) (sym c.self.view_is) agrees) c.signature.ensures.is
