use Rattle.materialise.proofs.FinalCounts.{split_nodes}
use Rattle.materialise.proofs.LastSplit.{twofold_segment}
use Rattle.materialise.proofs.SplitThere.{segment_at}
use Rattle.materialise.proofs.laws.a_split_at_the_end_has_one_node_more_at_most.Goals as goal

pub returns : goal.returns
returns c = λ parts key graph both.
    let at = segment_at parts key (twofold_segment parts key both) in
    split_nodes parts graph key at
