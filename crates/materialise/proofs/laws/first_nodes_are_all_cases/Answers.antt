use Rattle.materialise.proofs.FirstAll.{all_cases}
use Rattle.materialise.proofs.FirstCase.{is_split}
use Rattle.materialise.proofs.laws.first_nodes_are_all_cases.Goals as goal

pub returns : goal.returns
returns c = λ parts key state graph is offsets. all_cases parts graph key (is_split parts key is) offsets state
