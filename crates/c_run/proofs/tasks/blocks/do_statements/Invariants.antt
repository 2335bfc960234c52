-- What stands behind is to be done.
use Rattle.std.proofs.Common.{◌≡◌, ◌≤◌, drop, length, map}
use Rattle.c_machine.specs.declared.task.Task.TheVariants.{Execute}
use Rattle.c_machine.specs.State.{doing}
use Rattle.c_run.proofs.tasks.blocks.do_statements.Given as goal

abbrev pub invariant-loop-left : goal.invariant-loop-left
invariant-loop-left l = (l.left ≤ length l.body) × (l.state ≡ doing (map Execute (drop l.left l.body)) l.initial.state)

abbrev pub decreases-loop-left : goal.decreases-loop-left
decreases-loop-left l = l.left
