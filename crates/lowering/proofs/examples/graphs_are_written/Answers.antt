use Rattle.lowering.proofs.Written.{are_written}
use Rattle.lowering.proofs.examples.graphs_are_written.Goals as goal

pub returns : goal.returns
returns c = are_written
