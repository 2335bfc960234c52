use Rattle.materialise.proofs.FinalCode.{both_at}
use Rattle.materialise.proofs.FinalGraph.{split_graph}
use Rattle.materialise.proofs.LastSplit.{twofold_segment}
use Rattle.materialise.proofs.SplitThere.{segment_at}
use Rattle.materialise.proofs.laws.what_is_split_at_the_end_leaves_a_graph.Goals as goal

pub returns : goal.returns
returns c = λ parts key graph both few.
    let at = segment_at parts key (twofold_segment parts key both) in
    split_graph parts graph key at (both_at parts key at.object at.links at.stands at.linked both) few
