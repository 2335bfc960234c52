-- The blocks of the objects of the function stay blocks of the memory.
use Rattle.c_steps.proofs.Kept.{after_frame}
use Rattle.c_steps.proofs.state.State.declare.Goals as goal

pub invariant_of-self : goal.invariant_of-self
invariant_of-self g c =
    after_frame _ _ _ _ _ _ c.self.invariant (c.declare.ensures.named _ c.self.invariant.frame_named (rw (← c.self.view_is) at c.requires))
