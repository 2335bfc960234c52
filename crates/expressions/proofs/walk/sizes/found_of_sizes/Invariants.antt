use Rattle.std.proofs.Common.{◌≡◌, ◌≤◌, drop, length}
use Rattle.typing.specs.NamedTypes.{found_of_sizes}
use Rattle.expressions.proofs.walk.sizes.found_of_sizes.Given as goal

abbrev pub invariant-loop-left : goal.invariant-loop-left
invariant-loop-left l = record {
  inside : l.left ≤ length l.sizes;
  found : l.found ≡ found_of_sizes (drop l.left l.sizes);
}

abbrev pub decreases-loop-left : goal.decreases-loop-left
decreases-loop-left l = l.left
