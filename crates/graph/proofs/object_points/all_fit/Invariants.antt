use Rattle.std.proofs.Common.{◌≡◌, length}
use Rattle.std.specs.List.{list_all}
use Rattle.graph.specs.Points.{edge_fits}
use Rattle.graph.proofs.object_points.all_fit.Given as goal

abbrev pub invariant-loop-left : goal.invariant-loop-left
invariant-loop-left l = list_all (edge_fits l.parts l.key l.size l.plane) l.edges ≡ list_all (edge_fits l.parts l.key l.size l.plane) l.left

abbrev pub decreases-loop-left : goal.decreases-loop-left
decreases-loop-left l = length l.left
