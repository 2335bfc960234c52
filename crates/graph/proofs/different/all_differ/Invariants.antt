use Rattle.std.proofs.Common.{◌≡◌, length}
use Rattle.graph.specs.WellFormed.{are_different}
use Rattle.graph.proofs.different.all_differ.Given as goal

abbrev pub invariant-loop-left : goal.invariant-loop-left
invariant-loop-left l = are_different l.pairs ≡ are_different l.left

abbrev pub decreases-loop-left : goal.decreases-loop-left
decreases-loop-left l = length l.left
