use Rattle.std.proofs.Common.{◌≡◌, length}
use Rattle.coarse.specs.Marks.{ends_marked}
use Rattle.coarse.proofs.marks.mark_ends.Given as goal

abbrev pub invariant-loop-left : goal.invariant-loop-left
invariant-loop-left l = ends_marked l.fn.marks l.objects ≡ ends_marked l.marks l.left

abbrev pub decreases-loop-left : goal.decreases-loop-left
decreases-loop-left l = length l.left
