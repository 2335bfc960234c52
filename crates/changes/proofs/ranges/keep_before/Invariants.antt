use Rattle.std.proofs.Common.{◌≡◌, ◌++◌, true, length}
use Rattle.std.specs.List.{filter, list_all}
use Rattle.graph.specs.WellFormed.{lies_in}
use Rattle.changes.specs.Ranges.{ends_before}
use Rattle.changes.proofs.ranges.keep_before.Given as goal

abbrev pub invariant-loop-left : goal.invariant-loop-left
invariant-loop-left l = record {
  kept : l.fn.kept ++ filter (ends_before l.from) l.edges ≡ l.kept ++ filter (ends_before l.from) l.left;
  inside : list_all (lies_in 65536) l.left ≡ true;
}

abbrev pub decreases-loop-left : goal.decreases-loop-left
decreases-loop-left l = length l.left
