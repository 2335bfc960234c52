use Rattle.std.proofs.Common.{◌≡◌, ◌++◌, map, length}
use Rattle.changes.specs.Merging.{merged_edge}
use Rattle.changes.proofs.merge.push_merged.Given as goal

abbrev pub invariant-loop-left : goal.invariant-loop-left
invariant-loop-left l = l.fn.merged ++ map (merged_edge l.kept l.gone) l.edges ≡ l.merged ++ map (merged_edge l.kept l.gone) l.left

abbrev pub decreases-loop-left : goal.decreases-loop-left
decreases-loop-left l = length l.left
