use Rattle.std.proofs.Common.{◌≡◌, length}
use Rattle.tidying.specs.Marks.{edges_marked}
use Rattle.tidying.proofs.marks.mark_edges.Given as goal

abbrev pub invariant-loop-left : goal.invariant-loop-left
invariant-loop-left l = edges_marked l.fn.marks l.edges ≡ edges_marked l.marks l.left

abbrev pub decreases-loop-left : goal.decreases-loop-left
decreases-loop-left l = length l.left
