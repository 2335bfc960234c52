use Rattle.settle.proofs.Few.{few_settled}
use Rattle.settle.proofs.laws.there_are_few_settled_graphs.Goals as goal

pub returns : goal.returns
returns c = λ registers parts graph few. few_settled parts registers graph few
