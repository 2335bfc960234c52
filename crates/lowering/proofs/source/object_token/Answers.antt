-- What is told of the name.
use Rattle.lowering.proofs.Sources.{token_is, no_token_is}
use Rattle.lowering.proofs.source.object_token.Goals as goal

pub returns-in-Object : goal.returns-in-Object
returns-in-Object c = token_is _ c.text.result.now _ c.standing.result _ c.text.ensures c.in-Object.is (λ n p other name. c.standing.ensures.is n p other name)

pub returns-in_default : goal.returns-in_default
returns-in_default c = no_token_is _ c.text.result.now _ c.standing.result c.text.ensures c.in_default.not-Object (λ n p other name. c.standing.ensures.is n p other name)
