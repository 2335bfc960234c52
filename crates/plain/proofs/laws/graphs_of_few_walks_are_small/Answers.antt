use Rattle.plain.proofs.SmallGraphs.{graphs_small}
use Rattle.plain.proofs.laws.graphs_of_few_walks_are_small.Goals as goal

pub returns : goal.returns
returns c = graphs_small
