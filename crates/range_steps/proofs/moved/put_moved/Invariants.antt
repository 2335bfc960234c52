use Rattle.std.proofs.Common.{◌≡◌, ◌++◌, true, length}
use Rattle.std.specs.List.{list_all}
use Rattle.graph.specs.WellFormed.{lies_in}
use Rattle.range_steps.specs.Copying.{moved_edges}
use Rattle.range_steps.proofs.moved.put_moved.Given as goal

abbrev pub invariant-loop-left : goal.invariant-loop-left
invariant-loop-left l = record {
  kept : l.fn.kept ++ moved_edges l.edges l.from l.count l.at ≡ l.kept ++ moved_edges l.left l.from l.count l.at;
  inside : list_all (lies_in 65536) l.left ≡ true;
}

abbrev pub decreases-loop-left : goal.decreases-loop-left
decreases-loop-left l = length l.left
