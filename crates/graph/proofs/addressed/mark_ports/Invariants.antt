use Rattle.std.proofs.Common.{◌≡◌, length}
use Rattle.graph.specs.Addressed.{marked_ports}
use Rattle.graph.proofs.addressed.mark_ports.Given as goal

abbrev pub invariant-loop-left : goal.invariant-loop-left
invariant-loop-left l = marked_ports l.values l.fn.marks l.ports ≡ marked_ports l.values l.marks l.left

abbrev pub decreases-loop-left : goal.decreases-loop-left
decreases-loop-left l = length l.left
