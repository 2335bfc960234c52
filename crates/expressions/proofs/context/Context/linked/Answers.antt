-- The numbers of what has linkage are below.
use Rattle.expressions.proofs.Kept.{linked_below_now}
use Rattle.expressions.proofs.context.Context.linked.Goals as goal

pub returns-clause-below : goal.returns-clause-below
returns-clause-below c = linked_below_now c.self.view_is c.args.name.now c.self.invariant c.linked.result c.linked.ensures
