use Rattle.std.proofs.Common.{◌≡◌, ◌≤◌, drop, length, map}
use Rattle.c_machine.specs.declared.task.Task.TheVariants.{Initialise}
use Rattle.c_machine.specs.State.{doing}
use Rattle.c_run.proofs.doing.initialise_each.Given as goal

abbrev pub invariant-loop-left : goal.invariant-loop-left
invariant-loop-left l = record {
  inside : l.left ≤ length l.sets;
  pushed : l.state ≡ doing (map (λ set. Initialise set.place set.init) (drop l.left l.sets)) l.fn.state;
}

abbrev pub decreases-loop-left : goal.decreases-loop-left
decreases-loop-left l = l.left
