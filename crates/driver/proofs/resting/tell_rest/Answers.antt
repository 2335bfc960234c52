use Rattle.std.proofs.Common.{rules}
use Rattle.driver.proofs.Rested.{resting_last}
use Rattle.driver.proofs.resting.tell_rest.Goals as goal

pub returns-then-which-len : goal.returns-then-which-len
returns-then-which-len c = resting_last c.args.flow.now c.args.limits.now c.loop-which.work c.args.at c.loop-which.which c.loop-which.invariant (search rules)
