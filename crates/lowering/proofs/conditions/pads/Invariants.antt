-- The registers from one on stand in front.
use Rattle.std.proofs.Common.{◌≡◌, ◌+◌, ◌-◌, ◌≤◌, ◌++◌}
use Rattle.lowering.specs.Moves.{zeros}
use Rattle.lowering.proofs.conditions.pads.Given as goal

abbrev pub invariant-loop-left : goal.invariant-loop-left
invariant-loop-left l = record {
  inside : l.left ≤ l.want;
  behind : l.have ≤ l.left;
  made : l.line ≡ zeros (l.spare + l.left) (l.want - l.left) l.place ++ l.initial.line;
}

abbrev pub decreases-loop-left : goal.decreases-loop-left
decreases-loop-left l = l.left
