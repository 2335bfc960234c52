-- What is left declared keeps the numbers below.
use Rattle.std.proofs.Common.{length}
use Rattle.typing.proofs.environment.Bounds.{left_below}
use Rattle.expressions.proofs.context.Context.leave.Goals as goal

pub invariant_of-self : goal.invariant_of-self
invariant_of-self c = rw c.close.ensures (left_below (length c.self.inside.types.types) c.self.inside.environment c.self.invariant)
