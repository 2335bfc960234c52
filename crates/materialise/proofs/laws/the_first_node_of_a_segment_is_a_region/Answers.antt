use Rattle.materialise.proofs.FirstCase.{is_split}
use Rattle.materialise.proofs.FirstSplit.{with_one}
use Rattle.materialise.proofs.laws.the_first_node_of_a_segment_is_a_region.Goals as goal

pub returns : goal.returns
returns c = λ parts key state graph is offsets. with_one parts graph key (is_split parts key is) offsets state
