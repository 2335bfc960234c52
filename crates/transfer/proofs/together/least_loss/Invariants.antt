use Rattle.std.proofs.Common.{◌≡◌, None, map, length}
use Rattle.transfer.specs.Together.{posted_of, least_loss}
use Rattle.transfer.proofs.together.least_loss.Given as goal

abbrev pub invariant-loop-left : goal.invariant-loop-left
invariant-loop-left l = least_loss l.known (map posted_of l.left) ≡ least_loss None (map posted_of l.posts)

abbrev pub decreases-loop-left : goal.decreases-loop-left
decreases-loop-left l = length l.left
