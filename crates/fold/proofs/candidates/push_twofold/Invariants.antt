use Rattle.std.proofs.Common.{◌≡◌, ◌++◌, length}
use Rattle.fold.specs.Candidates.{twofold_folds}
use Rattle.fold.proofs.candidates.push_twofold.Given as goal

abbrev pub invariant-loop-left : goal.invariant-loop-left
invariant-loop-left l = l.fn.kept ++ twofold_folds l.graph l.first l.second l.head l.next l.edges ≡ l.kept ++ twofold_folds l.graph l.first l.second l.head l.next l.left

abbrev pub decreases-loop-left : goal.decreases-loop-left
decreases-loop-left l = length l.left
