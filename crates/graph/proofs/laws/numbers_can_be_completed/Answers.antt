use Rattle.graph.proofs.Completed.{numbers_are_completed}
use Rattle.graph.proofs.laws.numbers_can_be_completed.Goals as goal

pub returns : goal.returns
returns c = numbers_are_completed
