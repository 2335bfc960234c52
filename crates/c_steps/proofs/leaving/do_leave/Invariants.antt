-- So many blocks are put there.
use Rattle.std.proofs.Common.{◌≡◌, ◌≤◌, ◌-◌, replicate}
use Rattle.c_machine.specs.declared.task.Task.TheVariants.{LeaveBlock}
use Rattle.c_machine.specs.State.{doing}
use Rattle.c_steps.proofs.leaving.do_leave.Given as goal

abbrev pub invariant-loop-put : goal.invariant-loop-put
invariant-loop-put g l = record {
  count : l.put ≤ l.blocks;
  state : l.state ≡ doing (replicate l.put (LeaveBlock l.word)) l.initial.state;
}

abbrev pub decreases-loop-put : goal.decreases-loop-put
decreases-loop-put g l = l.blocks - l.put
