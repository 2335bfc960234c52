use Rattle.std.proofs.Common.{◌≡◌, length}
use Rattle.transfer.specs.Together.{with_kinds}
use Rattle.transfer.proofs.together.with_kinds.Given as goal

abbrev pub invariant-loop-left : goal.invariant-loop-left
invariant-loop-left l = with_kinds l.left l.after ≡ with_kinds l.known l.kinds

abbrev pub decreases-loop-left : goal.decreases-loop-left
decreases-loop-left l = length l.left
