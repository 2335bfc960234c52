use Rattle.std.proofs.Common.{◌≡◌, map, length}
use Rattle.std.specs.List.{list_any}
use Rattle.transfer.specs.Together.{posted_of, is_through_any}
use Rattle.transfer.proofs.together.some_through_any.Given as goal

abbrev pub invariant-loop-left : goal.invariant-loop-left
invariant-loop-left l = list_any is_through_any (map posted_of l.left) ≡ list_any is_through_any (map posted_of l.posts)

abbrev pub decreases-loop-left : goal.decreases-loop-left
decreases-loop-left l = length l.left
