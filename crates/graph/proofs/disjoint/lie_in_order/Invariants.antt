use Rattle.std.proofs.Common.{◌≡◌, length}
use Rattle.graph.specs.Points.{neighbours}
use Rattle.graph.specs.WellFormed.{lies_before}
use Rattle.graph.proofs.disjoint.lie_in_order.Given as goal

abbrev pub invariant-loop-left : goal.invariant-loop-left
invariant-loop-left l = neighbours lies_before l.edges ≡ neighbours lies_before l.left

abbrev pub decreases-loop-left : goal.decreases-loop-left
decreases-loop-left l = length l.left
