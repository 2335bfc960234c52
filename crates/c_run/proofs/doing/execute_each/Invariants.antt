use Rattle.std.proofs.Common.{◌≡◌, ◌≤◌, drop, length, map}
use Rattle.c_machine.specs.declared.task.Task.TheVariants.{Execute}
use Rattle.c_machine.specs.State.{doing}
use Rattle.c_run.proofs.doing.execute_each.Given as goal

abbrev pub invariant-loop-left : goal.invariant-loop-left
invariant-loop-left l = record {
  inside : l.left ≤ length l.body;
  pushed : l.state ≡ doing (map Execute (drop l.left l.body)) l.fn.state;
}

abbrev pub decreases-loop-left : goal.decreases-loop-left
decreases-loop-left l = l.left
