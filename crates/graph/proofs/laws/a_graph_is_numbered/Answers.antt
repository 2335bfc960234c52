use Rattle.graph.proofs.OwnPlaces.{graph_numbered}
use Rattle.graph.proofs.laws.a_graph_is_numbered.Goals as goal

pub returns : goal.returns
returns c = graph_numbered
