use Rattle.lowering.proofs.examples.updates_meet.Goals as goal
use Rattle.lowering.proofs.Meeting.{do_updates_meet}

pub returns : goal.returns
returns c = do_updates_meet
