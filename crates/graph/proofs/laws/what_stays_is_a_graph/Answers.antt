use Rattle.graph.proofs.UnheldForm.{what_stays_is_a_graph}
use Rattle.graph.proofs.laws.what_stays_is_a_graph.Goals as goal

pub returns : goal.returns
returns c = what_stays_is_a_graph
