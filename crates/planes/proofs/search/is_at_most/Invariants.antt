use Rattle.std.proofs.Common.{length, drop, ◌-◌, ◌≡◌, ◌≤◌}
use Rattle.planes.specs.Lanes.{are_at_most}
use Rattle.planes.proofs.search.is_at_most.Given as goal

abbrev pub invariant-loop-at : goal.invariant-loop-at
invariant-loop-at l = record {
  within : l.at ≤ length l.left;
  rest : are_at_most (drop l.at l.left) (drop l.at l.right) ≡ are_at_most l.left l.right;
}

abbrev pub decreases-loop-at : goal.decreases-loop-at
decreases-loop-at l = length l.left - l.at

abbrev pub invariant-loop-at-2 : goal.invariant-loop-at-2
invariant-loop-at-2 l = record {
  within : l.at ≤ length l.left;
  rest : are_at_most (drop l.at l.left) (drop l.at l.right) ≡ are_at_most l.left l.right;
}

abbrev pub decreases-loop-at-2 : goal.decreases-loop-at-2
decreases-loop-at-2 l = length l.left - l.at
