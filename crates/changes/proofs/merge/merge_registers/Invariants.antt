use Rattle.std.proofs.Common.{◌≡◌, ◌++◌, map, length}
use Rattle.changes.specs.Merging.{merged_held}
use Rattle.changes.proofs.merge.merge_registers.Given as goal

abbrev pub invariant-loop-left : goal.invariant-loop-left
invariant-loop-left l = l.fn.merged ++ map (merged_held l.kept l.gone) l.registers ≡ l.merged ++ map (merged_held l.kept l.gone) l.left

abbrev pub decreases-loop-left : goal.decreases-loop-left
decreases-loop-left l = length l.left
