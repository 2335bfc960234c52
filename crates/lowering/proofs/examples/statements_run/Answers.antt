use Rattle.lowering.proofs.examples.statements_run.Goals as goal
use Rattle.lowering.proofs.WorkedOut.{do_statements_run}

pub returns : goal.returns
returns c = do_statements_run
