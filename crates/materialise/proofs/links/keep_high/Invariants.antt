use Rattle.std.proofs.Common.{◌≡◌, ◌++◌, length, nat_lt}
use Rattle.std.specs.List.{filter}
use Rattle.materialise.proofs.links.keep_high.Given as goal

abbrev pub invariant-loop-left : goal.invariant-loop-left
invariant-loop-left l = l.fn.kept ++ filter (λ other. nat_lt l.at other.at) l.edges ≡ l.kept ++ filter (λ other. nat_lt l.at other.at) l.left

abbrev pub decreases-loop-left : goal.decreases-loop-left
decreases-loop-left l = length l.left
