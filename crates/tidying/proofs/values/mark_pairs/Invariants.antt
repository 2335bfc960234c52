use Rattle.std.proofs.Common.{◌≡◌, length}
use Rattle.tidying.specs.Marks.{pairs_marked}
use Rattle.tidying.proofs.values.mark_pairs.Given as goal

abbrev pub invariant-loop-left : goal.invariant-loop-left
invariant-loop-left l = pairs_marked l.parts l.held l.fn.marks l.pairs ≡ pairs_marked l.parts l.held l.marks l.left

abbrev pub decreases-loop-left : goal.decreases-loop-left
decreases-loop-left l = length l.left
