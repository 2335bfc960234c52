use Rattle.std.proofs.Common.{◌≡◌, ◌≤◌, ◌++◌, drop, length}
use Rattle.c_machine.specs.Statics.{in_sizes}
use Rattle.c_text.proofs.statics.parts.list.push_sizes.Given as goal

abbrev pub invariant-loop-left : goal.invariant-loop-left
invariant-loop-left l = record {
  inside : l.left ≤ length l.sizes;
  pushed : l.nodes ≡ in_sizes (drop l.left l.sizes) ++ l.fn.nodes;
}

abbrev pub decreases-loop-left : goal.decreases-loop-left
decreases-loop-left l = l.left
