-- The blocks before this one have no object of the name.
use Rattle.std.proofs.Common.{◌≡◌, drop}
use Rattle.c_machine.specs.State.{block_in, objects_of}
use Rattle.c_steps.proofs.frames.block_in_frame.Given as goal

abbrev pub invariant-loop-at : goal.invariant-loop-at
invariant-loop-at l = block_in (objects_of (drop l.at l.frame)) l.token ≡ block_in (objects_of l.frame) l.token
