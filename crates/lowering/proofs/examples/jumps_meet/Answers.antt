use Rattle.lowering.proofs.examples.jumps_meet.Goals as goal
use Rattle.lowering.proofs.Meeting.{do_jumps_meet}

pub returns : goal.returns
returns c = do_jumps_meet
