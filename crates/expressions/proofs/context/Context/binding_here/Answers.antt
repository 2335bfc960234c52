-- The numbers of what a scope says are below.
use Rattle.expressions.proofs.Kept.{binding_below_now}
use Rattle.expressions.proofs.context.Context.binding_here.Goals as goal

pub returns-clause-below : goal.returns-clause-below
returns-clause-below c = binding_below_now c.self.view_is c.args.name.now c.self.invariant c.binding_here.result c.binding_here.ensures
