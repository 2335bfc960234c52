use Rattle.lowering.proofs.examples.members_meet.Goals as goal
use Rattle.lowering.proofs.Meeting.{do_members_meet}

pub returns : goal.returns
returns c = do_members_meet
