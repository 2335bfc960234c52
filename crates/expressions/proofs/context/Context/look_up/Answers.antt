-- The numbers of what is found are below.
use Rattle.expressions.proofs.Kept.{found_below_now}
use Rattle.expressions.proofs.context.Context.look_up.Goals as goal

pub returns-clause-below : goal.returns-clause-below
returns-clause-below c = found_below_now c.self.view_is c.args.name.now c.self.invariant c.look_up.result c.look_up.ensures
