use Rattle.std.proofs.Common.{◌≡◌, ◌++◌, length}
use Rattle.fold.specs.Folded.{folded_values}
use Rattle.fold.proofs.folding.push_values.Given as goal

abbrev pub invariant-loop-left : goal.invariant-loop-left
invariant-loop-left l = l.fn.after ++ folded_values l.fold l.values ≡ l.after ++ folded_values l.fold l.left

abbrev pub decreases-loop-left : goal.decreases-loop-left
decreases-loop-left l = length l.left
