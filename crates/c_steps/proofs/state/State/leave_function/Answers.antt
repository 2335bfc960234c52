-- Blocks that die keep their numbers.
use Rattle.std.proofs.Common.{length, subst, sym}
use Rattle.c_machine.specs.State.{Frame, blocks_of, objects_of}
use Rattle.c_machine.specs.Step.{without_objects}
use Rattle.c_steps.specs.Named.{NamesBlocks}
use Rattle.c_steps.proofs.Kept.{known_memory, after_function}
use Rattle.c_steps.proofs.state.State.leave_function.Goals as goal

pub invariant_of-self : goal.invariant_of-self
invariant_of-self g c =
    known_memory _ _ _ _ _ _ c.end_frame.ensures.memory
    (subst (λ (frame : Frame). NamesBlocks (length (without_objects (blocks_of (objects_of c.self.inside.frame)) c.self.inside.memory)) c.self.inside.operands frame c.self.inside.callers c.self.inside.statics)
    (sym c.end_frame.ensures.frame) (after_function _ (blocks_of (objects_of c.self.inside.frame)) _ _ _ _ c.self.invariant))
