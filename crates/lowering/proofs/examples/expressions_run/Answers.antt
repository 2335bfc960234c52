use Rattle.lowering.proofs.examples.expressions_run.Goals as goal
use Rattle.lowering.proofs.WorkedOut.{do_expressions_run}

pub returns : goal.returns
returns c = do_expressions_run
