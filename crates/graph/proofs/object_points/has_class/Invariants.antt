use Rattle.std.proofs.Common.{◌≡◌, take, drop, nat_eq}
use Rattle.std.specs.List.{list_all}
use Rattle.graph.proofs.object_points.has_class.Given as goal

abbrev pub invariant-loop-left : goal.invariant-loop-left
invariant-loop-left l = list_all (nat_eq l.class) (take l.count (drop l.from l.plane)) ≡ list_all (nat_eq l.class) (take l.left (drop l.at l.plane))

abbrev pub decreases-loop-left : goal.decreases-loop-left
decreases-loop-left l = l.left
