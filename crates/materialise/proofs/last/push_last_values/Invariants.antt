use Rattle.std.proofs.Common.{◌≡◌, ◌++◌, map, length}
use Rattle.materialise.specs.SplittingLast.{last_entry}
use Rattle.materialise.proofs.last.push_last_values.Given as goal

abbrev pub invariant-loop-left : goal.invariant-loop-left
invariant-loop-left l = l.fn.after ++ map (last_entry l.region l.key) l.values ≡ l.after ++ map (last_entry l.region l.key) l.left

abbrev pub decreases-loop-left : goal.decreases-loop-left
decreases-loop-left l = length l.left
