use Rattle.std.proofs.Common.{◌≡◌, ◌++◌, map, length}
use Rattle.flow.specs.Machine.{size_in}
use Rattle.transfer.proofs.sizes.put_sizes.Given as goal

abbrev pub invariant-loop-left : goal.invariant-loop-left
invariant-loop-left l = l.sizes ++ map (size_in l.flow) l.left ≡ l.initial.sizes ++ map (size_in l.flow) l.variables

abbrev pub decreases-loop-left : goal.decreases-loop-left
decreases-loop-left l = length l.left
