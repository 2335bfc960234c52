use Rattle.std.proofs.Common.{◌≡◌, true, length}
use Rattle.std.specs.List.{list_all}
use Rattle.graph.specs.WellFormed.{lies_in}
use Rattle.materialise.specs.Beyond.{value_after}
use Rattle.materialise.specs.Dropped.{plane_now}
use Rattle.materialise.proofs.dropped.fill_classes.Given as goal

abbrev pub invariant-loop-left : goal.invariant-loop-left
invariant-loop-left l = record {
  filled : plane_now (value_after l.graph l.key l.links) l.edges l.fn.plane ≡ plane_now (value_after l.graph l.key l.links) l.left l.plane;
  inside : list_all (lies_in (length l.plane)) l.left ≡ true;
}

abbrev pub decreases-loop-left : goal.decreases-loop-left
decreases-loop-left l = length l.left
