-- The bits are those that typing hands on.
use Rattle.lowering.proofs.Sources.{known_form}
use Rattle.lowering.proofs.form.known.Goals as goal

pub returns : goal.returns
returns c = known_form _ c.text.result.now _ _ c.text.ensures (λ n p other. c.constant.ensures n p other)
