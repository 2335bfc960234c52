use Rattle.std.proofs.Common.{◌≡◌, ◌++◌, length}
use Rattle.changes.proofs.ranges.put_edges.Given as goal

abbrev pub invariant-loop-left : goal.invariant-loop-left
invariant-loop-left l = l.fn.kept ++ l.edges ≡ l.kept ++ l.left

abbrev pub decreases-loop-left : goal.decreases-loop-left
decreases-loop-left l = length l.left
