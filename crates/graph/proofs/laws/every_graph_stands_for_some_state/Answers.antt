use Rattle.graph.proofs.Witness.{some_state}
use Rattle.graph.proofs.laws.every_graph_stands_for_some_state.Goals as goal

pub returns : goal.returns
returns c = some_state
