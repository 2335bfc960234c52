-- What is told of the name.
use Rattle.lowering.proofs.Sources.{constant_is, no_constant_is}
use Rattle.lowering.proofs.source.constant_bits.Goals as goal

pub returns-in-Constant-clause-some : goal.returns-in-Constant-clause-some
returns-in-Constant-clause-some c = constant_is _ c.text.result.now _ c.standing.result _ c.text.ensures c.in-Constant.is (λ n p other name. c.standing.ensures.is n p other name)

pub returns-in_default-clause-none : goal.returns-in_default-clause-none
returns-in_default-clause-none c = no_constant_is _ c.text.result.now _ c.standing.result c.text.ensures c.in_default.not-Constant (λ n p other name. c.standing.ensures.is n p other name)
