-- The blocks of the objects of the blocks before this one are there.
use Rattle.std.proofs.Common.{◌≡◌, ◌++◌, drop}
use Rattle.c_machine.specs.State.{blocks_of, objects_of}
use Rattle.c_steps.proofs.roots.add_frame.Given as goal

abbrev pub invariant-loop-at : goal.invariant-loop-at
invariant-loop-at l = l.roots.items ++ blocks_of (objects_of (drop l.at l.frame)) ≡ l.initial.roots.items ++ blocks_of (objects_of l.frame)
