use Rattle.driver.specs.Leaving.{AreLeft}
use Rattle.driver.proofs.leaving.left_graphs.Given as goal

abbrev pub invariant-loop-graph : goal.invariant-loop-graph
invariant-loop-graph l = AreLeft l.yielded l.left
