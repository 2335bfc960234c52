use Rattle.std.proofs.Common.{◌≡◌, ◌++◌, length}
use Rattle.fold.specs.Standing.{others}
use Rattle.fold.proofs.standing.push_others.Given as goal

abbrev pub invariant-loop-left : goal.invariant-loop-left
invariant-loop-left l = l.fn.kept ++ others l.fold l.edges ≡ l.kept ++ others l.fold l.left

abbrev pub decreases-loop-left : goal.decreases-loop-left
decreases-loop-left l = length l.left
