use Rattle.std.proofs.Common.{◌≡◌, true, length}
use Rattle.std.specs.List.{list_all}
use Rattle.graph.specs.WellFormed.{lies_in}
use Rattle.changes.specs.Ranges.{cuts_none}
use Rattle.changes.proofs.ranges.cuts_none.Given as goal

abbrev pub invariant-loop-left : goal.invariant-loop-left
invariant-loop-left l = record {
  cuts : cuts_none l.from l.count l.edges ≡ cuts_none l.from l.count l.left;
  inside : list_all (lies_in 65536) l.left ≡ true;
}

abbrev pub decreases-loop-left : goal.decreases-loop-left
decreases-loop-left l = length l.left
