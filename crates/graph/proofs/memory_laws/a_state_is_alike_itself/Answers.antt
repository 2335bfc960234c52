use Rattle.graph.proofs.AlikeStates.{state_alike_itself}
use Rattle.graph.proofs.memory_laws.a_state_is_alike_itself.Goals as goal

pub returns : goal.returns
returns c = state_alike_itself
