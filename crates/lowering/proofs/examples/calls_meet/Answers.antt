use Rattle.lowering.proofs.examples.calls_meet.Goals as goal
use Rattle.lowering.proofs.Meeting.{do_calls_meet}

pub returns : goal.returns
returns c = do_calls_meet
