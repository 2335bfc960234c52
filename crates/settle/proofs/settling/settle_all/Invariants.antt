use Rattle.settle.proofs.Measure.{turns}
use Rattle.settle.proofs.Turns.{AreSettled}
use Rattle.settle.proofs.settling.settle_all.Given as goal

abbrev pub invariant-loop-graph : goal.invariant-loop-graph
invariant-loop-graph l = AreSettled l.registers l.fn.left.items l.done l.left.items

abbrev pub decreases-loop-graph : goal.decreases-loop-graph
decreases-loop-graph l = turns l.registers l.left.items
