use Rattle.lowering.proofs.examples.loops_meet.Goals as goal
use Rattle.lowering.proofs.Meeting.{do_loops_meet}

pub returns : goal.returns
returns c = do_loops_meet
