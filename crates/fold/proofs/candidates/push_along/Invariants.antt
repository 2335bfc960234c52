use Rattle.std.proofs.Common.{◌≡◌, ◌++◌, length}
use Rattle.fold.specs.Candidates.{folds_along}
use Rattle.fold.proofs.candidates.push_along.Given as goal

abbrev pub invariant-loop-left : goal.invariant-loop-left
invariant-loop-left l = l.fn.kept ++ folds_along l.graph l.first l.object l.edges ≡ l.kept ++ folds_along l.graph l.first l.object l.left

abbrev pub decreases-loop-left : goal.decreases-loop-left
decreases-loop-left l = length l.left
