-- What does not hold is one thing alone.
use Rattle.std.proofs.Common.{Bool, ap}
use Rattle.typing.specs.Faults.{unless}
use Rattle.expressions.proofs.Firsts.{first_alone}
use Rattle.expressions.proofs.nodes.first.unless.Goals as goal

pub returns-else-holds : goal.returns-else-holds
returns-else-holds c = first_alone _ _ (ap (λ (holds : Bool). unless holds c.args.place c.args.broken) c.if-holds.false)
