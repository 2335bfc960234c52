-- The objects of the blocks that are left are still to die.
use Rattle.std.proofs.Common.{◌≡◌, length}
use Rattle.c_machine.specs.State.{blocks_of, objects_of}
use Rattle.c_machine.specs.Step.{without_objects}
use Rattle.c_steps.proofs.frames.end_frame.Given as goal

abbrev pub invariant-loop-scope : goal.invariant-loop-scope
invariant-loop-scope l =
    without_objects (blocks_of (objects_of l.frame)) l.memory ≡ without_objects (blocks_of (objects_of l.initial.frame)) l.initial.memory

abbrev pub decreases-loop-scope : goal.decreases-loop-scope
decreases-loop-scope l = length l.frame
