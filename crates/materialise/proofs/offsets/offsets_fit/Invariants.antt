use Rattle.std.proofs.Common.{length}
use Rattle.materialise.specs.WithOne.{HaveOffsets}
use Rattle.materialise.proofs.offsets.offsets_fit.Given as goal

abbrev pub invariant-loop-left : goal.invariant-loop-left
invariant-loop-left l = HaveOffsets l.left → HaveOffsets l.values

abbrev pub decreases-loop-left : goal.decreases-loop-left
decreases-loop-left l = length l.left
