-- The number of the result type is below.
use Rattle.expressions.proofs.Kept.{result_below_now}
use Rattle.expressions.proofs.context.Context.result.Goals as goal

pub returns-clause-below : goal.returns-clause-below
returns-clause-below c = result_below_now c.self.view_is c.self.invariant c.result.result c.result.ensures
