use Rattle.transfer.proofs.Runs.{same_kinds}
use Rattle.transfer.proofs.laws.kinds_are_those_of_the_edge.Goals as goal

pub returns : goal.returns
returns c = same_kinds
