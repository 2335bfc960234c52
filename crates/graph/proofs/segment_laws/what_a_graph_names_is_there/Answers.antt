use Rattle.graph.proofs.Closed.{closed_of}
use Rattle.graph.proofs.segment_laws.what_a_graph_names_is_there.Goals as goal

pub returns : goal.returns
returns c = closed_of
