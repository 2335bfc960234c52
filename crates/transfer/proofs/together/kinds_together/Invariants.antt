use Rattle.std.proofs.Common.{◌≡◌, [], map, length}
use Rattle.transfer.specs.Together.{posted_of, kinds_with}
use Rattle.transfer.proofs.together.kinds_together.Given as goal

abbrev pub invariant-loop-left : goal.invariant-loop-left
invariant-loop-left l = kinds_with l.known (map posted_of l.left) ≡ kinds_with [] (map posted_of l.posts)

abbrev pub decreases-loop-left : goal.decreases-loop-left
decreases-loop-left l = length l.left
