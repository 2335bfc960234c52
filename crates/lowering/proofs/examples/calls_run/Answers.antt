use Rattle.lowering.proofs.examples.calls_run.Goals as goal
use Rattle.lowering.proofs.WorkedOut.{do_calls_run}

pub returns : goal.returns
returns c = do_calls_run
