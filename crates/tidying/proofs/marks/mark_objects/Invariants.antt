use Rattle.std.proofs.Common.{◌≡◌, length}
use Rattle.tidying.specs.Marks.{objects_marked}
use Rattle.tidying.proofs.marks.mark_objects.Given as goal

abbrev pub invariant-loop-left : goal.invariant-loop-left
invariant-loop-left l = objects_marked l.fn.marks l.objects ≡ objects_marked l.marks l.left

abbrev pub decreases-loop-left : goal.decreases-loop-left
decreases-loop-left l = length l.left
