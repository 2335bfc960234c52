use Rattle.materialise.proofs.FirstCase.{is_split}
use Rattle.materialise.proofs.LastAll.{all_cases}
use Rattle.materialise.proofs.LastSplit.{twofold_segment}
use Rattle.materialise.proofs.laws.last_nodes_are_all_cases.Goals as goal

pub returns : goal.returns
returns c = λ parts key state graph both small offsets. all_cases parts graph key (is_split parts key (twofold_segment parts key both)) offsets both small state
