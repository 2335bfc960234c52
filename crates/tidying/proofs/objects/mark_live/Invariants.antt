use Rattle.std.proofs.Common.{◌≡◌, length}
use Rattle.tidying.specs.Marks.{live_marked}
use Rattle.tidying.proofs.objects.mark_live.Given as goal

abbrev pub invariant-loop-left : goal.invariant-loop-left
invariant-loop-left l = live_marked l.fn.marks l.objects ≡ live_marked l.marks l.left

abbrev pub decreases-loop-left : goal.decreases-loop-left
decreases-loop-left l = length l.left
