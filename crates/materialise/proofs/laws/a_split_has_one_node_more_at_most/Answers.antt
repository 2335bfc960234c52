use Rattle.materialise.proofs.SplitCounts.{split_nodes}
use Rattle.materialise.proofs.SplitThere.{segment_at}
use Rattle.materialise.proofs.laws.a_split_has_one_node_more_at_most.Goals as goal

pub returns : goal.returns
returns c = λ parts key graph is. split_nodes parts graph key (segment_at parts key is)
