use Rattle.std.proofs.Common.{◌≡◌, ◌++◌, length}
use Rattle.transfer.proofs.together.put_all.Given as goal

abbrev pub invariant-loop-left : goal.invariant-loop-left
invariant-loop-left l = l.after ++ l.left ≡ l.initial.after ++ l.kinds

abbrev pub decreases-loop-left : goal.decreases-loop-left
decreases-loop-left l = length l.left
