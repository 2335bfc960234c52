-- What is left to pass leads to the end of the loop's body, with the blocks that are passed.
use Rattle.std.proofs.Common.{◌≡◌, ◌+◌, ◌≤◌, length}
use Rattle.c_machine.specs.Statements.{loop_left}
use Rattle.c_steps.specs.Ends.{further_on}
use Rattle.c_steps.proofs.ends.to_loop.Given as goal

abbrev pub invariant-loop-task : goal.invariant-loop-task
invariant-loop-task g l = record {
  count : l.blocks + length l.tasks ≤ l.most;
  left : loop_left l.initial.tasks ≡ further_on l.blocks (loop_left l.tasks);
}

abbrev pub decreases-loop-task : goal.decreases-loop-task
decreases-loop-task g l = length l.tasks
