use Rattle.std.proofs.Common.{◌≡◌, length}
use Rattle.std.specs.List.{list_all}
use Rattle.graph.specs.WellFormed.{pairs_may_be_unequal, is_unequal_pair}
use Rattle.graph.proofs.points.pairs_may_be_unequal.Given as goal

abbrev pub invariant-loop-left : goal.invariant-loop-left
invariant-loop-left l = pairs_may_be_unequal l.parts ≡ list_all (is_unequal_pair l.parts) l.left

abbrev pub decreases-loop-left : goal.decreases-loop-left
decreases-loop-left l = length l.left
