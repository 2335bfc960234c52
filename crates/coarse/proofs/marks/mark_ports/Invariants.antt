use Rattle.std.proofs.Common.{◌≡◌, length}
use Rattle.tidying.specs.Marks.{ports_marked}
use Rattle.coarse.proofs.marks.mark_ports.Given as goal

abbrev pub invariant-loop-left : goal.invariant-loop-left
invariant-loop-left l = ports_marked l.fn.marks l.ports ≡ ports_marked l.marks l.left

abbrev pub decreases-loop-left : goal.decreases-loop-left
decreases-loop-left l = length l.left
