use Rattle.std.proofs.Common.{length}
use Rattle.graph.specs.Ends.{AllStop, AreKnown}
use Rattle.graph.proofs.ends.all_stop.Given as goal

abbrev pub invariant-loop-left : goal.invariant-loop-left
invariant-loop-left l = AreKnown l.parts l.known × (AllStop l.parts l.left → AllStop l.parts l.parts.objects)

abbrev pub decreases-loop-left : goal.decreases-loop-left
decreases-loop-left l = length l.left
