use Rattle.std.proofs.Common.{◌≡◌, length}
use Rattle.tidying.specs.Marks.{registers_marked}
use Rattle.tidying.proofs.marks.mark_registers.Given as goal

abbrev pub invariant-loop-left : goal.invariant-loop-left
invariant-loop-left l = registers_marked l.fn.marks l.registers ≡ registers_marked l.marks l.left

abbrev pub decreases-loop-left : goal.decreases-loop-left
decreases-loop-left l = length l.left
