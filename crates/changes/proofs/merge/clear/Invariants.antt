use Rattle.std.proofs.Common.{◌≡◌, true, length}
use Rattle.std.specs.List.{list_all}
use Rattle.graph.specs.WellFormed.{lies_in}
use Rattle.changes.specs.Merging.{cleared}
use Rattle.changes.proofs.merge.clear.Given as goal

abbrev pub invariant-loop-left : goal.invariant-loop-left
invariant-loop-left l = record {
  cleared : cleared l.gone l.edges l.fn.plane ≡ cleared l.gone l.left l.plane;
  inside : list_all (lies_in (length l.plane)) l.left ≡ true;
}

abbrev pub decreases-loop-left : goal.decreases-loop-left
decreases-loop-left l = length l.left
