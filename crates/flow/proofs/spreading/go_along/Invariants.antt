-- What is noted is so.
use Rattle.std.proofs.Common.{length}
use Rattle.flow.specs.Owning.{AreOwned}
use Rattle.flow.proofs.spreading.go_along.Given as goal

abbrev pub invariant-loop : goal.invariant-loop
invariant-loop l = AreOwned l.flow (length l.flow.functions) l.owners.items
