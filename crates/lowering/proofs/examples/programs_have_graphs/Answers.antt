use Rattle.lowering.proofs.examples.programs_have_graphs.Goals as goal
use Rattle.lowering.proofs.WorkedOut.{are_graphs}

pub returns : goal.returns
returns c = are_graphs
