use Rattle.std.proofs.Common.{◌≡◌, length}
use Rattle.std.specs.List.{list_all}
use Rattle.graph.specs.Points.{values_fit, value_fits}
use Rattle.graph.proofs.points.values_fit.Given as goal

abbrev pub invariant-loop-left : goal.invariant-loop-left
invariant-loop-left l = values_fit l.parts ≡ list_all (λ entry. value_fits l.parts entry.value) l.left

abbrev pub decreases-loop-left : goal.decreases-loop-left
decreases-loop-left l = length l.left
