use Rattle.std.proofs.Common.{◌≡◌, length}
use Rattle.fold.specs.Linked.{key_in}
use Rattle.fold.proofs.links.key_in.Given as goal

abbrev pub invariant-loop-left : goal.invariant-loop-left
invariant-loop-left l = key_in l.at l.size l.edges ≡ key_in l.at l.size l.left

abbrev pub decreases-loop-left : goal.decreases-loop-left
decreases-loop-left l = length l.left
