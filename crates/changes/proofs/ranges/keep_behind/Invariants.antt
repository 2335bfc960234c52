use Rattle.std.proofs.Common.{◌≡◌, ◌++◌, length}
use Rattle.std.specs.List.{filter}
use Rattle.changes.specs.Ranges.{begins_behind}
use Rattle.changes.proofs.ranges.keep_behind.Given as goal

abbrev pub invariant-loop-left : goal.invariant-loop-left
invariant-loop-left l = l.fn.kept ++ filter (begins_behind l.end) l.edges ≡ l.kept ++ filter (begins_behind l.end) l.left

abbrev pub decreases-loop-left : goal.decreases-loop-left
decreases-loop-left l = length l.left
