use Rattle.std.proofs.Common.{◌≡◌, ◌++◌, length}
use Rattle.transfer.specs.Together.{with_kind}
use Rattle.transfer.proofs.together.put_with.Given as goal

abbrev pub invariant-loop-left : goal.invariant-loop-left
invariant-loop-left l = l.after ++ with_kind l.kind l.left ≡ l.initial.after ++ with_kind l.kind l.kinds

abbrev pub decreases-loop-left : goal.decreases-loop-left
decreases-loop-left l = length l.left
