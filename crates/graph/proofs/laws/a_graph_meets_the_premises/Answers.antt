use Rattle.graph.proofs.Premises.{premises_met}
use Rattle.graph.proofs.laws.a_graph_meets_the_premises.Goals as goal

pub returns : goal.returns
returns c = premises_met
