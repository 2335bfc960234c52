-- What is noted is so, and there is ever less of which nothing is.
use Rattle.std.proofs.Common.{length}
use Rattle.flow.specs.Owning.{AreOwned, count_new}
use Rattle.flow.proofs.separation.own_all.Given as goal

abbrev pub invariant-loop-at : goal.invariant-loop-at
invariant-loop-at l = AreOwned l.flow (length l.flow.functions) l.owners.items

abbrev pub decreases-loop-at : goal.decreases-loop-at
decreases-loop-at l = count_new l.owners.items
