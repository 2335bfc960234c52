-- What is noted is so.
use Rattle.std.proofs.Common.{length}
use Rattle.flow.specs.Owning.{AreOwned}
use Rattle.flow.proofs.spreading.go_through.Given as goal

abbrev pub invariant-loop-at : goal.invariant-loop-at
invariant-loop-at l = AreOwned l.flow (length l.flow.functions) l.owners.items
