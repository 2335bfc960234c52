use Rattle.graph.specs.Ends.{AreKnown, Stops}
use Rattle.graph.proofs.ends.learn.Given as goal

abbrev pub invariant-loop : goal.invariant-loop
invariant-loop l = AreKnown l.parts l.known × Stops l.parts l.end
