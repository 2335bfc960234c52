use Rattle.graph.proofs.Witness.{some_numbers_may_be_chosen}
use Rattle.graph.proofs.laws.some_numbers_may_be_chosen.Goals as goal

pub returns : goal.returns
returns c = some_numbers_may_be_chosen
