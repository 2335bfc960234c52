use Rattle.std.proofs.Common.{◌≡◌, length}
use Rattle.graph.specs.Addressed.{marked_edges}
use Rattle.graph.proofs.addressed.mark_edges.Given as goal

abbrev pub invariant-loop-left : goal.invariant-loop-left
invariant-loop-left l = marked_edges l.values l.fn.marks l.edges ≡ marked_edges l.values l.marks l.left

abbrev pub decreases-loop-left : goal.decreases-loop-left
decreases-loop-left l = length l.left
