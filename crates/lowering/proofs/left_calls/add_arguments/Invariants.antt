-- The arguments from a place on are added.
use Rattle.std.proofs.Common.{◌≤◌, drop, length}
use Rattle.lowering.specs.Lefts.{Arguments, IsAdded}
use Rattle.lowering.proofs.left_calls.add_arguments.Given as goal

abbrev pub invariant-loop-left : goal.invariant-loop-left
invariant-loop-left l = record {
  inside : l.left ≤ length l.args;
  within : l.left ≤ length l.params;
  made : IsAdded l.source l.levels l.ahead (Arguments (drop l.left l.args) (drop l.left l.params)) l.fn.search l.search;
}

abbrev pub decreases-loop-left : goal.decreases-loop-left
decreases-loop-left l = l.left
