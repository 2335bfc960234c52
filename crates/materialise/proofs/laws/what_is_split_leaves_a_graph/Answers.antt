use Rattle.materialise.proofs.SplitGraph.{split_graph}
use Rattle.materialise.proofs.SplitThere.{segment_at}
use Rattle.materialise.proofs.laws.what_is_split_leaves_a_graph.Goals as goal

pub returns : goal.returns
returns c = λ parts key graph is few. split_graph parts graph key (segment_at parts key is) few
