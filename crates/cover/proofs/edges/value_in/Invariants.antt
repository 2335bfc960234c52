use Rattle.std.proofs.Common.{◌≡◌, length}
use Rattle.cover.specs.Covers.{value_in}
use Rattle.cover.proofs.edges.value_in.Given as goal

abbrev pub invariant-loop-left : goal.invariant-loop-left
invariant-loop-left l = value_in l.edges l.at l.size ≡ value_in l.left l.at l.size

abbrev pub decreases-loop-left : goal.decreases-loop-left
decreases-loop-left l = length l.left
