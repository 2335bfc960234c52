-- With one more block, those that the state names are still there.
use Rattle.c_steps.proofs.Kept.{known_memory, one_more_block}
use Rattle.c_steps.proofs.state.State.place.Goals as goal

pub invariant_of-self-2 : goal.invariant_of-self-2
invariant_of-self-2 g c = known_memory _ _ _ _ _ _ (rw c.in-Some.is at c.in_ok-number.ensures.placed) (one_more_block _ _ _ _ _ _ c.self.invariant)
