use Rattle.graph.proofs.Witness.{numbers_may_be_chosen}
use Rattle.graph.proofs.laws.numbers_may_be_chosen.Goals as goal

pub returns : goal.returns
returns c = numbers_may_be_chosen
