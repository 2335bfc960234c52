use Rattle.graph.proofs.AlikeStates.{states_turned}
use Rattle.graph.proofs.memory_laws.alike_states_are_alike_the_other_way_round.Goals as goal

pub returns : goal.returns
returns c = states_turned
