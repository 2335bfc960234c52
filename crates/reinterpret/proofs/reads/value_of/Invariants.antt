use Rattle.std.proofs.Common.{◌≡◌, length}
use Rattle.reinterpret.specs.Reading.{value_of}
use Rattle.reinterpret.proofs.reads.value_of.Given as goal

abbrev pub invariant-loop-left : goal.invariant-loop-left
invariant-loop-left l = value_of l.edges l.from l.size ≡ value_of l.left l.from l.size

abbrev pub decreases-loop-left : goal.decreases-loop-left
decreases-loop-left l = length l.left
