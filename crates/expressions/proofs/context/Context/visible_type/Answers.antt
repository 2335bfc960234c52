-- The number of the type that is visible is below.
use Rattle.expressions.proofs.Kept.{visible_below_now}
use Rattle.expressions.proofs.context.Context.visible_type.Goals as goal

pub returns-clause-below : goal.returns-clause-below
returns-clause-below c = visible_below_now c.self.view_is c.args.name.now c.self.invariant c.visible_type.result c.visible_type.ensures
