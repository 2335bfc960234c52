use Rattle.std.proofs.Common.{◌≡◌, ◌++◌, length}
use Rattle.materialise.specs.Beyond.{value_after}
use Rattle.materialise.specs.Dropped.{edges_now}
use Rattle.materialise.proofs.dropped.push_edges.Given as goal

abbrev pub invariant-loop-left : goal.invariant-loop-left
invariant-loop-left l = l.fn.kept ++ edges_now (value_after l.graph l.key l.links) l.edges ≡ l.kept ++ edges_now (value_after l.graph l.key l.links) l.left

abbrev pub decreases-loop-left : goal.decreases-loop-left
decreases-loop-left l = length l.left
