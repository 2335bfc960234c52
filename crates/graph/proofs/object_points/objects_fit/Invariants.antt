use Rattle.std.proofs.Common.{◌≡◌, length}
use Rattle.std.specs.List.{list_all}
use Rattle.graph.specs.Points.{objects_fit, object_fits}
use Rattle.graph.proofs.object_points.objects_fit.Given as goal

abbrev pub invariant-loop-left : goal.invariant-loop-left
invariant-loop-left l = objects_fit l.parts ≡ list_all (λ entry. object_fits l.parts entry.key entry.object) l.left

abbrev pub decreases-loop-left : goal.decreases-loop-left
decreases-loop-left l = length l.left
