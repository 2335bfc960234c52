use Rattle.std.proofs.Common.{◌≡◌, ◌++◌, ◌&&◌, length}
use Rattle.std.specs.List.{filter}
use Rattle.tidying.specs.Marks.{is_marked}
use Rattle.tidying.proofs.keeping.keep_pairs.Given as goal

abbrev pub invariant-loop-left : goal.invariant-loop-left
invariant-loop-left l = l.fn.kept ++ filter (λ pair. is_marked l.marks pair.left && is_marked l.marks pair.right) l.pairs ≡ l.kept ++ filter (λ pair. is_marked l.marks pair.left && is_marked l.marks pair.right) l.left

abbrev pub decreases-loop-left : goal.decreases-loop-left
decreases-loop-left l = length l.left
