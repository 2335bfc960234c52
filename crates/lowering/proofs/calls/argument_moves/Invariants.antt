-- The arguments from a place on stand in front.
use Rattle.std.proofs.Common.{◌≡◌, ◌≤◌, ◌++◌, length}
use Rattle.lowering.proofs.Turns.{arguments_from}
use Rattle.lowering.proofs.calls.argument_moves.Given as goal

abbrev pub invariant-loop-left : goal.invariant-loop-left
invariant-loop-left l = record {
  inside : l.left ≤ length l.args;
  within : l.left ≤ length l.params;
  made : l.line ≡ arguments_from l.args l.params l.spare l.first l.left ++ l.fn.line;
}

abbrev pub decreases-loop-left : goal.decreases-loop-left
decreases-loop-left l = l.left
