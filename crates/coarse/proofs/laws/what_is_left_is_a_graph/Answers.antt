use Rattle.coarse.proofs.Form.{graph_left}
use Rattle.coarse.proofs.laws.what_is_left_is_a_graph.Goals as goal

pub returns : goal.returns
returns c = λ limit parts graph. graph_left limit parts graph
