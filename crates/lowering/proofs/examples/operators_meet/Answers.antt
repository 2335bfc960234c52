use Rattle.lowering.proofs.examples.operators_meet.Goals as goal
use Rattle.lowering.proofs.Meeting.{do_operators_meet}

pub returns : goal.returns
returns c = do_operators_meet
