use Rattle.lowering.proofs.examples.returns_meet.Goals as goal
use Rattle.lowering.proofs.Meeting.{do_returns_meet}

pub returns : goal.returns
returns c = do_returns_meet
