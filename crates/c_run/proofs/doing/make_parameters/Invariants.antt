use Rattle.std.proofs.Common.{◌≡◌, ◌≤◌, drop, length, map}
use Rattle.c_machine.specs.declared.task.Task.TheVariants.{MakeParameter}
use Rattle.c_machine.specs.State.{doing}
use Rattle.c_run.proofs.doing.make_parameters.Given as goal

abbrev pub invariant-loop-left : goal.invariant-loop-left
invariant-loop-left l = record {
  inside : l.left ≤ length l.objects;
  pushed : l.state ≡ doing (map MakeParameter (drop l.left l.objects)) l.fn.state;
}

abbrev pub decreases-loop-left : goal.decreases-loop-left
decreases-loop-left l = l.left
