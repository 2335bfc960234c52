use Rattle.graph.proofs.AlikeStates.{states_behind}
use Rattle.graph.proofs.memory_laws.what_is_alike_an_alike_state_is_alike.Goals as goal

pub returns : goal.returns
returns c = states_behind
