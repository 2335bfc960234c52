use Rattle.tidying.proofs.Kept.{tidied_graph}
use Rattle.tidying.proofs.laws.what_is_left_is_a_graph.Goals as goal

pub returns : goal.returns
returns c = λ parts graph. tidied_graph parts graph
