-- What is left to pass leads to the end of the function's body.
use Rattle.std.proofs.Common.{◌≡◌, length}
use Rattle.c_machine.specs.Statements.{body_left}
use Rattle.c_steps.proofs.ends.to_body.Given as goal

abbrev pub invariant-loop-task : goal.invariant-loop-task
invariant-loop-task g l = body_left l.initial.tasks ≡ body_left l.tasks

abbrev pub decreases-loop-task : goal.decreases-loop-task
decreases-loop-task g l = length l.tasks
