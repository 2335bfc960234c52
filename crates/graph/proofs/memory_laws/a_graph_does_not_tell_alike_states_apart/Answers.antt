use Rattle.graph.proofs.AlikeMeaning.{alike_states_meant}
use Rattle.graph.proofs.memory_laws.a_graph_does_not_tell_alike_states_apart.Goals as goal

pub returns : goal.returns
returns c = alike_states_meant
