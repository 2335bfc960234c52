use Rattle.materialise.proofs.FirstCase.{is_split}
use Rattle.materialise.proofs.LastSplit.{twofold_segment, with_one}
use Rattle.materialise.proofs.laws.the_last_node_of_a_segment_is_a_region.Goals as goal

pub returns : goal.returns
returns c = λ parts key state graph both small offsets. with_one parts graph key (is_split parts key (twofold_segment parts key both)) offsets both small state
