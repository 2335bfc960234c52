use Rattle.std.proofs.Common.{◌≡◌, length, nat_lt}
use Rattle.graph.specs.PairCodes.{pair_code}
use Rattle.graph.specs.Points.{neighbours}
use Rattle.graph.proofs.different.codes_ascend.Given as goal

abbrev pub invariant-loop-left : goal.invariant-loop-left
invariant-loop-left l = neighbours (λ one other. nat_lt (pair_code one) (pair_code other)) l.pairs ≡ neighbours (λ one other. nat_lt (pair_code one) (pair_code other)) l.left

abbrev pub decreases-loop-left : goal.decreases-loop-left
decreases-loop-left l = length l.left
